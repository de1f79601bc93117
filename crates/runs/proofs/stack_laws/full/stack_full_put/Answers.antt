use Rattle.runs.proofs.stack.FullPuts.{full}
use Rattle.runs.proofs.stack_laws.full.stack_full_put.Goals as goal

pub returns : goal.returns
returns g c = full
