use Rattle.std.proofs.lemmas.Result.{err_from_is_err_and}
use Rattle.file_relay.specs.Measuring.{Streams}
use Rattle.file_relay.proofs.AllDelivered.{are-ready, was-not-told, was-written}
use Rattle.file_relay.proofs.measuring.relay_measured.Goals as goal

pub relay_inputs-requires-clause-ready : goal.relay_inputs-requires-clause-ready
relay_inputs-requires-clause-ready g c κs within =
    are-ready g.R.Read.remaining c.args.readers.items c.in_ok-inputs.inputs.items c.in_ok-inputs.ensures.read c.requires.few

pub returns-in_err-write_outcome-clause-measures : goal.returns-in_err-write_outcome-clause-measures
returns-in_err-write_outcome-clause-measures g c =
    let inputs = c.in_ok-inputs.inputs.items in
    let streams : Streams = record {
      output = record { old = g.W.Write.contents c.args.writer.now; new = g.W.Write.contents c.write_outcome.new.writer };
      errors = record { old = g.E.Write.contents c.args.errors.now; new = g.E.Write.contents c.args.errors.now };
    } in
    let told = c.write_outcome.ensures in
    let relays = was-written c.args.args.now streams.output inputs c.in_ok-relayed.relayed c.write_outcome.result c.in_ok-relayed.ensures.relayed told.all told.fault told.front in
    let broke = err_from_is_err_and c.from_residual-in_err-write_outcome.result c.from_residual-in_err-write_outcome.ensures.1 in
    rw (broke.1, broke.2)
    (was-not-told g.R.Read.remaining c.args.readers.items c.args.args.now streams inputs c.write_outcome.result _ c.in_ok-inputs.ensures.read told.fault relays c.in_err-write_outcome.was)

pub returns-clause-measures : goal.returns-clause-measures
returns-clause-measures g c =
    let told = rw (c.as_bytes.ensures.value, c.in_ok-told.ensures) at c.tell-said.ensures in (
      c.in_ok-inputs.inputs.items,
      c.in_ok-inputs.ensures.read,
      (
        c.in_ok-relayed.relayed,
        c.in_ok-relayed.ensures.relayed,
        c.in_ok-write_outcome.ensures.all,
        record { puts = c.puts.result; takes = c.takes.result; stats = c.in_ok-stats.stats; of = c.in_ok-stats.ensures.of; went_out = told },
      ),
    )
