use Rattle.std.specs.Io.KnownBytes.{Appends}
use Rattle.file_relay.specs.Outcome.{outcome_text}
use Rattle.file_relay.proofs.Fronts.{audit-stopped, list-stopped, went-out, both-out, audit-out}
use Rattle.file_relay.proofs.outcome.write_outcome.Goals.{then-list+in_ok-write_list, else-list}
use Rattle.file_relay.proofs.outcome.write_outcome.Goals as goal

pub returns-in_err-write_audit-clause-front : goal.returns-in_err-write_audit-clause-front
returns-in_err-write_audit-clause-front g c =
    audit-stopped c.args.list c.args.relayed.now _ _ c.in_err-write_audit.field-0.0 c.in_err-write_audit.ensures

pub returns-in_err-write_list-clause-front : goal.returns-in_err-write_list-clause-front
returns-in_err-write_list-clause-front g c =
    list-stopped c.args.list c.args.relayed.now _ _ _ c.in_err-write_list.field-0.0 c.if-list.true c.in_ok-write_audit.ensures c.in_err-write_list.ensures

pub returns-clause-front : goal.returns-clause-front
returns-clause-front g c =
    let text = outcome_text c.args.list c.args.relayed.now in
    let old = g.W.Write.contents c.args.writer.now in
    let all : Appends old (g.W.Write.contents c.if-list.writer) text = elim c.if-list.branch [
      | then-list+in_ok-write_list w ↦ rw w.writer-is (both-out c.args.list c.args.relayed.now old _ _ w.if-list.true c.in_ok-write_audit.ensures w.in_ok-write_list.ensures)
      | else-list w ↦ rw w.writer-is (audit-out c.args.list c.args.relayed.now old _ w.if-list.false c.in_ok-write_audit.ensures)
    ] in
    went-out text old _ _ all c.flush.ensures.bytes
