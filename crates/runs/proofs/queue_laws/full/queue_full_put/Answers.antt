use Rattle.runs.proofs.queue.FullPuts.{full}
use Rattle.runs.proofs.queue_laws.full.queue_full_put.Goals as goal

pub returns : goal.returns
returns g c = full
