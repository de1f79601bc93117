-- Which histories have used up a queue, of those of specs/Life.
use Rattle.std.proofs.Common.{◌≡◌, ℕ, refl, arith}
use Rattle.runs.specs.queue.Life.{IsSpent, backed_out, one_put}

pub first-life : IsSpent 1 1 (backed_out 1)
first-life = record { all = refl; put = λ open_now. omega arith }

pub half_life-refused : ¬ IsSpent 1 2 one_put
half_life-refused spent = let same : ◌≡◌ {A = ℕ} 1 2 = spent.all in absurd (omega (arith, same))

pub no_values-refused : ¬ IsSpent 1 3 (backed_out 3)
no_values-refused spent = absurd (omega (arith, spent.put refl))
