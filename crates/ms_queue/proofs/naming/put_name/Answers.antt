use Rattle.queue_machine.specs.declared.lines.Seeking.TheVariants.{ToLink, ToRefuse}
use Rattle.ms_queue.specs.code.Putting.{linking, refused}
use Rattle.ms_queue.proofs.naming.put_name.Goals as goal

pub returns-in-Refusing : goal.returns-in-Refusing
returns-in-Refusing g c = rw c.in-Refusing.is (c.seek_step.ensures (ToRefuse c.in-Refusing.field-0))

pub returns-in-Seeking : goal.returns-in-Seeking
returns-in-Seeking g c = rw c.in-Seeking.is (c.seek_step-in-Seeking.ensures (ToLink (linking c.in-Seeking.field-0.value c.in-Seeking.field-1)))

pub returns-in-GiveBack : goal.returns-in-GiveBack
returns-in-GiveBack g c = rw c.in-GiveBack.is (c.give_step.ensures (refused c.in-GiveBack.field-0))
