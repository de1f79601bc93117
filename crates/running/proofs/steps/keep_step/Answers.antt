use Rattle.std.proofs.Common.{[], refl, ap, subst}
use Rattle.running.specs.Going.{Found}
use Rattle.running.proofs.steps.keep_step.Goals as goal

pub returns-then-not-is_there-clause-steps : goal.returns-then-not-is_there-clause-steps
returns-then-not-is_there-clause-steps g c = let a = c.args in
    subst (λ v. Found (g.M.Machine.machine a.table.now.key) a.operation.now v c.store_step.new.seat.me.0 a.new []) (ap (λ m. m.0) (c.if-not-is_there.ensures.other refl)) c.store_step.ensures.steps

pub returns-else-not-is_there-clause-steps : goal.returns-else-not-is_there-clause-steps
returns-else-not-is_there-clause-steps g c = c.if-not-is_there.ensures.steps refl
