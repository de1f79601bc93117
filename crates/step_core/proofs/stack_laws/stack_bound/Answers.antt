use Rattle.step_core.proofs.stack.Ends.{stack_bounded}
use Rattle.step_core.proofs.stack_laws.stack_bound.Goals as goal

pub returns : goal.returns
returns g c = stack_bounded
