use Rattle.runs.proofs.InTime.{in_one_order}
use Rattle.runs.proofs.order.calls_in_one_order.Goals as goal

pub returns : goal.returns
returns g c = in_one_order
