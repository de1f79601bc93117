use Rattle.std.proofs.Common.{ap, append-nil}
use Rattle.std.proofs.lemmas.Result.{err_from_is_err_and}
use Rattle.audit.specs.Texts.{message_line}
use Rattle.audit.proofs.Writing.{Puts-stopped, Sends-trans, flat_map-split, flat_map-next}
use Rattle.audit.proofs.list_text.put_messages.Goals as goal

pub returns-in_err-put_message : goal.returns-in_err-put_message
returns-in_err-put_message g c =
    let p = err_from_is_err_and c.from_residual.result c.from_residual.ensures.1 in
    let word = c.args.word.now in
    let message = c.message-item.result in
    let line = ap (λ w. message_line w message) (append-nil word) in
    let whole = flat_map-split (message_line word) c.args.messages.now c.loop-message.message-index message _ c.loop-message-test.true c.message-item.is line in
    rw (p.1, p.2) (Puts-stopped (Unit {0}) (Unit {0}) _ _ _ _ _ _ _ c.in_err-put_message.field-0.0 whole c.loop-message.invariant c.in_err-put_message.ensures)

pub loop-message-preserved : goal.loop-message-preserved
loop-message-preserved g c =
    let word = c.args.word.now in
    let message = c.message-item.result in
    let line = ap (λ w. message_line w message) (append-nil word) in
    let next = flat_map-next (message_line word) c.args.messages.now c.loop-message.message-index message _ c.loop-message-test.true c.message-item.is line in
    rw next (Sends-trans _ _ _ _ _ c.loop-message.invariant c.in_ok-put_message.ensures)
