use Rattle.std.proofs.Common.{arith}
use Rattle.step_core.proofs.queue.Run.{run_meets}
use Rattle.step_core.proofs.queue.Ends.{queue_unhindered}
use Rattle.step_core.proofs.queue_laws.queue_bound.Goals as goal

pub returns : goal.returns
returns g c = record { wherever_the_rule_holds = λ n limit p s stretch rules alone. omega (arith, queue_unhindered n limit p s stretch rules alone); in_every_schedule = run_meets }
