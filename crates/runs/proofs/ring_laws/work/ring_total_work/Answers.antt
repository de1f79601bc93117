use Rattle.runs.proofs.ring.Total.{total_work}
use Rattle.runs.proofs.ring_laws.work.ring_total_work.Goals as goal

pub returns : goal.returns
returns g c = λ n laps passes r left some_slot ran sound nobody. total_work n laps passes some_slot r left ran sound nobody
