use Rattle.std.proofs.lemmas.Result.{err_from_is_err_and}
use Rattle.audit.proofs.Writing.{Puts-stopped, flat_map-at}
use Rattle.audit.proofs.output.put_all.Goals as goal

pub returns-in_err-put : goal.returns-in_err-put
returns-in_err-put g c =
    let p = err_from_is_err_and c.from_residual.result c.from_residual.ensures.1 in
    let parts = c.args.parts.now in
    let i = c.loop-part.part-index in
    let whole = flat_map-at (λ part. part.now) parts i _ c.loop-part-test.true in
    rw (p.1, p.2) (Puts-stopped (Unit {0}) (Unit {0}) _ _ _ _ _ _ _ c.in_err-put.field-0.0 whole c.loop-part.invariant c.in_err-put.ensures)
