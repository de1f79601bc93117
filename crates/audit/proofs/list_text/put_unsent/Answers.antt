use Rattle.std.proofs.Common.{codes, flat_map, ap}
use Rattle.std.proofs.lemmas.Result.{err_from_is_err_and}
use Rattle.audit.specs.Texts.{message_line}
use Rattle.audit.proofs.Writing.{Puts-stopped, flat_map-split}
use Rattle.audit.proofs.list_text.put_unsent.Goals as goal

pub returns-in_err-put_messages : goal.returns-in_err-put_messages
returns-in_err-put_messages g c =
    let p = err_from_is_err_and c.from_residual.result c.from_residual.ensures.1 in
    let lines = ap (flat_map (message_line (codes "unsent"))) c.deref.ensures.value in
    let whole = flat_map-split (λ messages. flat_map (message_line (codes "unsent")) messages.items) c.args.unsent.now c.loop-messages.messages-index c.messages-item.result _
    c.loop-messages-test.true c.messages-item.is lines in
    rw (p.1, p.2) (Puts-stopped (Unit {0}) (Unit {0}) _ _ _ _ _ _ _ c.in_err-put_messages.field-0.0 whole c.loop-messages.invariant c.in_err-put_messages.ensures)
