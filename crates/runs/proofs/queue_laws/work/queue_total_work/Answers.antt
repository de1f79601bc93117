use Rattle.runs.proofs.queue.Total.{total_work}
use Rattle.runs.proofs.queue_laws.work.queue_total_work.Goals as goal

pub returns : goal.returns
returns g c = λ n limit r left some_cell small some_tag ran sound nobody. total_work n limit some_cell small some_tag r left ran sound nobody
