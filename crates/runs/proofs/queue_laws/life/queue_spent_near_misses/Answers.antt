use Rattle.std.proofs.Common.{refl, arith}
use Rattle.runs.proofs.queue.WrongLives.{half_life-refused, no_values-refused, first-life}
use Rattle.runs.proofs.queue_laws.life.queue_spent_near_misses.Goals as goal

pub returns : goal.returns
returns c = record {
  first_put_spent = refl;
  first_history = refl;
  first_life = first-life;
  half_life_worn = omega arith;
  half_life_refused = half_life-refused;
  no_values_refused = no_values-refused;
}
