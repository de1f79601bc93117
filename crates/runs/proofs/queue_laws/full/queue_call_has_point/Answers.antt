use Rattle.runs.proofs.queue.FullPuts.{has_point}
use Rattle.runs.proofs.queue_laws.full.queue_call_has_point.Goals as goal

pub returns : goal.returns
returns g c = has_point
