use Rattle.step_core.proofs.queue.Run.{queue_lawful}
use Rattle.step_core.proofs.queue_laws.queue_core.Goals as goal

pub returns : goal.returns
returns g c = queue_lawful
