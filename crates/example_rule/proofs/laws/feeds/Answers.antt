use Rattle.example_rule.proofs.Feeding.{feeds}
use Rattle.example_rule.proofs.laws.feeds.Goals as goal

pub returns : goal.returns
returns g c = λ boss f n limit. feeds boss f n limit
