use Rattle.ms_queue.specs.code.Taking.{took}
use Rattle.ms_queue.proofs.naming.take_name.Goals as goal

pub returns-in-GiveBack : goal.returns-in-GiveBack
returns-in-GiveBack g c = rw c.in-GiveBack.is (c.give_step.ensures (took c.in-GiveBack.taken))
