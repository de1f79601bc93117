use Rattle.step_core.proofs.ring.InOrder.{in_order, puts_count, takes_counted}
use Rattle.step_core.proofs.ring_laws.ring_order.Goals as goal

pub returns : goal.returns
returns g c = record { values = in_order; puts = puts_count; takes = takes_counted }
