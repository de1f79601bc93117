use Rattle.example_rule.proofs.NearMisses.{right, other_value, wrong_sum, other_pass}
use Rattle.example_rule.proofs.laws.feeds_near_misses.Goals as goal

pub returns : goal.returns
returns c = record { right = right; other_value = other_value; wrong_sum = wrong_sum; other_pass = other_pass }
