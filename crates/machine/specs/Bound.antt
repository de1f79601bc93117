-- How many of its own steps a call makes if no other pass wins an exchange. The other passes may make any other steps. A call that ends in
-- this way also ends when it runs alone: obstruction-freedom (Herlihy, Luchangco and Moir 2003).
use Rattle.std.specs.Prelude.{◌≡◌, ◌⊎◌, ℕ, ◌+◌, ◌==◌, if◌then◌else◌, Bool, false, not, [], ◌∷◌}
use mathlib.Core.Option.{Option, none, some}
use lib.ListN.{get_elem?}
use Rattle.machine.specs.Schedule.{Machine, Pass, State, Act, Begin, Step, Schedule, next}

module _ {M L C E : Type 0} (x : Machine M L C E) where
  abbrev pub wins_at : M → Act C → Option (Pass L C E) → Bool
  wins_at m Step (some v) = x.wins m v.line
  wins_at m a v = false

  -- a schedule in which no pass but p wins an exchange
  abbrev pub IsStretch : ℕ → Schedule C → State M L C E → Type 0
  IsStretch p [] s = Unit {0}
  IsStretch p (a ∷ more) s = ((a.0 ≡ p) ⊎ (wins_at s.memory a.1 (get_elem? s.passes a.0) ≡ false)) × IsStretch p more (next x s a)

  abbrev pub is_busy : Option (Pass L C E) → Bool
  is_busy none = false
  is_busy (some v) = not (x.is_idle v.line)

  abbrev pub counted : Act C → ℕ
  counted (Begin call) = 0
  counted Step = 1

  -- how many steps p makes in a schedule before the call that it is in has ended
  abbrev pub own_steps : ℕ → Schedule C → State M L C E → ℕ
  own_steps p [] s = 0
  own_steps p (a ∷ more) s =
      if is_busy (get_elem? s.passes p)
      then (if a.0 == p then counted a.1 else 0) + own_steps p more (next x s a)
      else 0

-- what holds of the line of a pass, if there is one
abbrev pub AtLine : {L C E : Type 0} → (L → Type 0) → Option (Pass L C E) → Type 0
AtLine P none = Unit {0}
AtLine P (some v) = P v.line
