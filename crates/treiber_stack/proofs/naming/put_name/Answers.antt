use Rattle.std.proofs.Common.{refl}
use Rattle.treiber_stack.specs.code.Putting.{refusing}
use Rattle.treiber_stack.proofs.naming.put_name.Goals as goal

pub returns-in-GiveBack : goal.returns-in-GiveBack
returns-in-GiveBack g c = rw c.in-GiveBack.is (c.give_step.ensures (refusing c.in-GiveBack.field-0 c.in-GiveBack.index) refl)
