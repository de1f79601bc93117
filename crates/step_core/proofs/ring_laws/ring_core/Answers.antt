use Rattle.step_core.proofs.ring.Run.{ring_lawful}
use Rattle.step_core.proofs.ring_laws.ring_core.Goals as goal

pub returns : goal.returns
returns g c = ring_lawful
