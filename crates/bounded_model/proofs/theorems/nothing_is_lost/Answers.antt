use Rattle.bounded_model.proofs.Balance.{all_there}
use Rattle.bounded_model.proofs.theorems.nothing_is_lost.Goals as goal

pub returns : goal.returns
returns g c = all_there
