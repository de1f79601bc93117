-- Progress without any fairness. A machine is lock-free (Herlihy 1993, there "non-blocking") if some call ends whenever the passes together
-- have made enough steps. Here "enough" is a number. Passes may stop for good anywhere, and a pass that is overtaken for ever may never end
-- its call.
use Rattle.std.specs.Prelude.{ℕ, ◌+◌, ◌<◌, ◌≤◌, ◌==◌, if◌then◌else◌, [], ◌∷◌}
use mathlib.Core.Option.{Option, none, some}
use lib.ListN.{get_elem?}
use Rattle.machine.specs.Words.{total}
use Rattle.machine.specs.Schedule.{Machine, Pass, State, Act, Begin, Step, Schedule, next, after}
use Rattle.machine.specs.Bound.{wins_at, is_busy}

-- a schedule begins no calls but these
abbrev pub IsAllowed : {C : Type 0} → (C → Type 0) → Act C → Type 0
IsAllowed Q (Begin call) = Q call
IsAllowed Q Step = Unit {0}

abbrev pub Only : {C : Type 0} → (C → Type 0) → Schedule C → Type 0
Only Q [] = Unit {0}
Only Q (a ∷ more) = IsAllowed Q a.1 × Only Q more

module _ {M L C E : Type 0} (x : Machine M L C E) where
  -- Of one act of a pass, if there is such a pass: is it a step, ..
  abbrev pub steps_at : Act C → Option (Pass L C E) → ℕ
  steps_at a none = 0
  steps_at (Begin call) (some v) = 0
  steps_at Step (some v) = if x.is_idle v.line then 0 else 1

  -- .. does that step end the call ..
  abbrev pub ends_at : M → ℕ → Act C → Option (Pass L C E) → ℕ
  ends_at m p a none = 0
  ends_at m p (Begin call) (some v) = 0
  ends_at m p Step (some v) = if x.is_idle v.line then 0 else if x.is_idle (x.step m p v.line).line then 1 else 0

  -- .. and what does the call cost that it begins, if any
  abbrev pub costs_at : (C → ℕ) → Act C → Option (Pass L C E) → ℕ
  costs_at cost a none = 0
  costs_at cost (Begin call) (some v) = if x.is_idle v.line then cost call else 0
  costs_at cost Step (some v) = 0

  -- how many steps the passes make in a schedule, all together
  abbrev pub steps_made : Schedule C → State M L C E → ℕ
  steps_made [] s = 0
  steps_made (a ∷ more) s = steps_at a.1 (get_elem? s.passes a.0) + steps_made more (next x s a)

  -- how many calls end in it
  abbrev pub calls_ended : Schedule C → State M L C E → ℕ
  calls_ended [] s = 0
  calls_ended (a ∷ more) s = ends_at s.memory a.0 a.1 (get_elem? s.passes a.0) + calls_ended more (next x s a)

  -- what the calls that are begun in it cost, all together
  abbrev pub calls_cost : (C → ℕ) → Schedule C → State M L C E → ℕ
  calls_cost cost [] s = 0
  calls_cost cost (a ∷ more) s = costs_at cost a.1 (get_elem? s.passes a.0) + calls_cost cost more (next x s a)

  -- how many exchanges other passes win before the call that p is in has ended
  abbrev pub others_win : ℕ → Schedule C → State M L C E → ℕ
  others_win p [] s = 0
  others_win p (a ∷ more) s =
      if is_busy x (get_elem? s.passes p)
      then (if a.0 == p then 0 else if wins_at x s.memory a.1 (get_elem? s.passes a.0) then 1 else 0) + others_win p more (next x s a)
      else 0

  -- how many passes are in a call
  abbrev pub in_call : State M L C E → ℕ
  in_call s = total (λ v. if x.is_idle v.line then 0 else 1) s.passes

  -- never are more than `most` passes in a call at once
  abbrev pub AtOnce : ℕ → Schedule C → State M L C E → Type 0
  AtOnce most [] s = in_call s ≤ most
  AtOnce most (a ∷ more) s = (in_call s ≤ most) × AtOnce most more (next x s a)

  -- if a schedule has more than `most` steps, some call ends in it
  abbrev pub SomeEnds : ℕ → Schedule C → State M L C E → Type 0
  SomeEnds most schedule s = most < steps_made schedule s → 0 < calls_ended schedule s

  -- Lock-free: this holds of every schedule of this number of passes after any other
  abbrev pub LockFree : ℕ → ℕ → Type 0
  LockFree passes most = (before during : Schedule C) → SomeEnds most during (after x passes before)

  -- the same if no calls but these are begun
  abbrev pub LockFreeOf : (C → Type 0) → ℕ → ℕ → Type 0
  LockFreeOf Q passes most = (before during : Schedule C) → Only Q before → Only Q during → SomeEnds most during (after x passes before)
