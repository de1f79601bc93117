use Rattle.std.proofs.Common.{refl}
use Rattle.ring_machine.specs.declared.lines.Front.TheVariants.{ToLook}
use Rattle.ring_queue.specs.code.Walking.{to_front}
use Rattle.ring_queue.proofs.naming.RingQueueNamed.step_name.Goals as goal

pub returns-in-Look : goal.returns-in-Look
returns-in-Look g c = rw c.in-Look.is (c.walk_step.ensures (to_front ToLook) refl)
