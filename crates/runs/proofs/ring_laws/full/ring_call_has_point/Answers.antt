use Rattle.runs.proofs.ring.FullPuts.{has_point}
use Rattle.runs.proofs.ring_laws.full.ring_call_has_point.Goals as goal

pub returns : goal.returns
returns g c = has_point
