use Rattle.std.proofs.Common.{refl}
use Rattle.ring_machine.specs.declared.lines.Back.TheVariants.{ToClose}
use Rattle.ring_machine.specs.declared.lines.Front.TheVariants.{ToShut}
use Rattle.ring_queue.specs.code.Walking.{to_back, to_front}
use Rattle.ring_queue.proofs.naming.mark_name.Goals as goal

pub returns-in-Closed : goal.returns-in-Closed
returns-in-Closed g c = rw (c.in-Walking.is, c.in-Closed.is) (c.walk_step.ensures (to_back ToClose) refl)

pub returns-in-Shut : goal.returns-in-Shut
returns-in-Shut g c = rw (c.in-Walking.is, c.in-Shut.is) (c.walk_step-in-Shut.ensures (to_front ToShut) refl)
