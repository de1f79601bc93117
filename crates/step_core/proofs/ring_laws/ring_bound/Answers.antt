use Rattle.step_core.proofs.ring.Run.{run_meets}
use Rattle.step_core.proofs.ring.Ends.{ring_unhindered}
use Rattle.step_core.proofs.ring_laws.ring_bound.Goals as goal

pub returns : goal.returns
returns g c = record { wherever_the_rule_holds = ring_unhindered; in_every_schedule = run_meets }
