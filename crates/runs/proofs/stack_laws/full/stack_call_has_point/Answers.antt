use Rattle.runs.proofs.stack.FullPuts.{has_point}
use Rattle.runs.proofs.stack_laws.full.stack_call_has_point.Goals as goal

pub returns : goal.returns
returns g c = has_point
