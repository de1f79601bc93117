use Rattle.step_core.proofs.stack.Run.{stack_lawful}
use Rattle.step_core.proofs.stack_laws.stack_core.Goals as goal

pub returns : goal.returns
returns g c = stack_lawful
