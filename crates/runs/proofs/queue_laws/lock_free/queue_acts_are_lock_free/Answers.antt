use Rattle.runs.proofs.queue.Ended.{at_once, of_all}
use Rattle.runs.proofs.queue_laws.lock_free.queue_acts_are_lock_free.Goals as goal

pub returns : goal.returns
returns g c = record { at_once = at_once; of_all = of_all }
