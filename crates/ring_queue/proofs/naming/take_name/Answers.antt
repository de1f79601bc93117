use Rattle.std.proofs.Common.{refl}
use Rattle.ring_machine.specs.declared.lines.Front.TheVariants.{ToTake}
use Rattle.ring_queue.specs.code.Walking.{to_front}
use Rattle.ring_queue.proofs.naming.take_name.Goals as goal

pub returns-in-Walking : goal.returns-in-Walking
returns-in-Walking g c = λ n. rw c.in-Walking.is (c.walk_step.ensures (to_front ToTake) refl)
