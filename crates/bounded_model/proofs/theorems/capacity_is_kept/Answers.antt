use Rattle.bounded_model.proofs.Hands.{within_capacity}
use Rattle.bounded_model.proofs.theorems.capacity_is_kept.Goals as goal

pub returns : goal.returns
returns g c = within_capacity
