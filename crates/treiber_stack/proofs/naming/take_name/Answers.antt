use Rattle.std.proofs.Common.{refl}
use Rattle.treiber_stack.specs.code.Taking.{giving}
use Rattle.treiber_stack.proofs.naming.take_name.Goals as goal

pub returns-in-GiveBack : goal.returns-in-GiveBack
returns-in-GiveBack g c = rw c.in-GiveBack.is (c.give_step.ensures (giving c.in-GiveBack.taken) refl)
