use Rattle.std.proofs.Common.{refl}
use Rattle.ring_machine.specs.declared.lines.Back.TheVariants.{ToPut}
use Rattle.ring_queue.specs.code.Walking.{to_back}
use Rattle.ring_queue.proofs.naming.put_name.Goals as goal

pub returns-in-Walking : goal.returns-in-Walking
returns-in-Walking g c = rw c.in-Walking.is (c.walk_step.ensures (to_back (ToPut c.in-Walking.field-0.value)) refl)
