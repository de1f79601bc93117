use Rattle.queue_machine.specs.declared.lines.Seeking.TheVariants.{ToClose}
use Rattle.ms_queue.proofs.naming.close_name.Goals as goal

pub returns-in-Seeking : goal.returns-in-Seeking
returns-in-Seeking g c = rw c.in-Seeking.is (c.seek_step.ensures ToClose)
