use Rattle.runs.proofs.ring.Ended.{calls_end_at}
use Rattle.runs.proofs.ring_laws.lock_free.ring_acts_are_lock_free.Goals as goal

pub returns : goal.returns
returns g c = λ n laps passes numbers later earlier some_slot some_pass low allowed fresh. calls_end_at n laps passes numbers some_slot some_pass later earlier low allowed fresh
