use Rattle.runs.proofs.ring.FullPuts.{full}
use Rattle.runs.proofs.ring_laws.full.ring_full_put.Goals as goal

pub returns : goal.returns
returns g c = full
