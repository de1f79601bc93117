use Rattle.told.specs.Writing.{Written}
use Rattle.file_relay.specs.Relaying.{RelaysInputs}
use Rattle.file_relay.proofs.AllDelivered.{are-ready, from-readers, was-written}
use Rattle.file_relay.proofs.relaying.relay_main.Goals as goal

pub relay_inputs-requires-clause-ready : goal.relay_inputs-requires-clause-ready
relay_inputs-requires-clause-ready g c κs within =
    are-ready g.R.Read.remaining c.args.readers.items c.in_ok-inputs.inputs.items c.in_ok-inputs.ensures.read c.requires.few

pub returns-clause-relays : goal.returns-clause-relays
returns-clause-relays g c =
    let inputs = c.in_ok-inputs.inputs.items in
    let writer : Written = record { old = g.W.Write.contents c.args.writer.now; new = g.W.Write.contents c.write_outcome-written.new.writer } in
    let told = c.write_outcome-written.ensures in
    let relays = was-written c.args.args.now writer inputs c.in_ok-relayed.relayed c.write_outcome-written.result c.in_ok-relayed.ensures.relayed told.all told.fault told.front in
    from-readers g.R.Read.remaining c.args.readers.items inputs (RelaysInputs c.args.args.now writer) c.write_outcome-written.result c.in_ok-inputs.ensures.read told.fault relays
