use Rattle.std.proofs.Common.{subst}
use Rattle.treiber_stack.specs.Calls.{begun_of}
use Rattle.lockfree_c.specs.Stacks.{IsStackWork}
use Rattle.lockfree_c.proofs.Works.{fold_worked}
use Rattle.lockfree_c.proofs.calls.stack.StackU64Tries.work_on.Goals as goal

pub returns-in-Fold-clause-of : goal.returns-in-Fold-clause-of
returns-in-Fold-clause-of c =
    let on = c.args.self.now in
    let is = subst (λ work. IsStackWork on work) c.in-Fold.is c.requires in
    fold_worked on is.1 (begun_of on c.in-Fold.op.pass) is.0 c.fold_on.result (c.fold_on.ensures.tried is.0 is.1 is.2)
