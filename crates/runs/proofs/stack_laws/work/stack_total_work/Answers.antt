use Rattle.runs.proofs.stack.Total.{total_work}
use Rattle.runs.proofs.stack_laws.work.stack_total_work.Goals as goal

pub returns : goal.returns
returns g c = λ n limit r left some_node small ran sound nobody. total_work n limit some_node small r left ran sound nobody
