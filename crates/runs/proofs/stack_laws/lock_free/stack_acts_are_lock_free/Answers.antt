use Rattle.runs.proofs.stack.Ended.{at_once, of_all, of_one_value}
use Rattle.runs.proofs.stack_laws.lock_free.stack_acts_are_lock_free.Goals as goal

pub returns : goal.returns
returns g c = record { at_once = at_once; of_all = of_all; of_one_value = of_one_value }
