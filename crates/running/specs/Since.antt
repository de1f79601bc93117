-- Which acts are new, of those that a pass keeps, after some steps of an operation.
use Rattle.std.specs.Prelude.{◌≡◌, ℕ, Bool, true, false, ◌∷◌, ◌++◌}
use Rattle.machine.specs.declared.seats.View.{View}
use Rattle.machine.specs.Seats.{Acts, acts_now, pass_of}
use Rattle.running.specs.Machine.{Names}
use Rattle.running.specs.Acts.{Doing, Begins, Looks, Hears, sum_of, begins_in}
use Rattle.running.specs.Rule.{line_in}

module _ {L : Type 0} where
  -- Pass x has begun one operation since it kept these acts. First come acts of others, among which x at most looked and heard, then its begin, and
  -- then its steps among acts of others
  pub record BeganSince (kept now : Acts L) (x : ℕ) : Type 0 where
    pub first : L
    pub others : Acts L
    pub since : Acts L
    pub is : now ≡ since ++ (x, Begins first) ∷ (others ++ kept)
    pub once : begins_in x since ≡ 0
    pub idle : (f : Doing L → ℕ) → f Looks ≡ 0 → f Hears ≡ 0 → sum_of f x others ≡ 0

  -- it has begun none
  pub record StayedSince (kept now : Acts L) (x : ℕ) : Type 0 where
    pub since : Acts L
    pub is : now ≡ since ++ kept
    pub once : begins_in x since ≡ 0

  -- after some steps of an operation: it was begun by the first of them if its pass was between its operations
  abbrev pub NewActs : Bool → Acts L → Acts L → ℕ → Type 0
  NewActs true kept now x = BeganSince kept now x
  NewActs false kept now x = StayedSince kept now x

module _ {T L O : Type 0} (names : Names L O) where
  -- the acts that a pass keeps after some steps, by its views before and after
  abbrev pub HasNew : View T L → View T L → Type 0
  HasNew v w = NewActs (names.is_idle (line_in names v)) (acts_now v) (acts_now w) (pass_of v).number
