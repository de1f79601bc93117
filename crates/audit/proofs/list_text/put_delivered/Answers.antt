use Rattle.std.proofs.Common.{◌++◌, codes, ap, ◌∙◌}
use Rattle.std.proofs.lemmas.Result.{err_from_is_err_and}
use Rattle.audit.specs.Texts.{message_line, take_line}
use Rattle.audit.proofs.Writing.{Puts-stopped, Sends-trans, flat_map-split, flat_map-next}
use Rattle.audit.proofs.list_text.put_delivered.Goals as goal

pub returns-in_err-put_message : goal.returns-in_err-put_message
returns-in_err-put_message g c =
    let p = err_from_is_err_and c.from_residual.result c.from_residual.ensures.1 in
    let taken = c.taken-item.result in
    let line = ap (λ n. message_line (codes "take " ++ n) taken.message) (c.as_slice.ensures ∙ c.of-number.ensures) in
    let whole = flat_map-split take_line c.args.delivered.now c.loop-taken.taken-index taken _ c.loop-taken-test.true c.taken-item.is line in
    rw (p.1, p.2) (Puts-stopped (Unit {0}) (Unit {0}) _ _ _ _ _ _ _ c.in_err-put_message.field-0.0 whole c.loop-taken.invariant c.in_err-put_message.ensures)

pub loop-taken-preserved : goal.loop-taken-preserved
loop-taken-preserved g c =
    let taken = c.taken-item.result in
    let line = ap (λ n. message_line (codes "take " ++ n) taken.message) (c.as_slice.ensures ∙ c.of-number.ensures) in
    let next = flat_map-next take_line c.args.delivered.now c.loop-taken.taken-index taken _ c.loop-taken-test.true c.taken-item.is line in
    rw next (Sends-trans _ _ _ _ _ c.loop-taken.invariant c.in_ok-put_message.ensures)
