-- The schedules with which near misses are played, and the lines to which they lead.
use Rattle.std.specs.Prelude.{ℕ, List, [], ◌∷◌, ◌++◌, replicate}
use mathlib.Core.Option.{Option, none, some}
use Rattle.machine.specs.Schedule.{Pass, Begin, Step, Schedule}

-- a pass makes this number of steps; a pass begins a call and makes this number of steps
abbrev pub steps : {C : Type 0} → ℕ → ℕ → Schedule C
steps p count = replicate count (p, Step)

abbrev pub begins : {C : Type 0} → ℕ → C → ℕ → Schedule C
begins p call count = (p, Begin call) ∷ steps p count

-- passes 0 and 1 make two steps each in turn, for this number of rounds
abbrev pub rounds : (C : Type 0) → ℕ → Schedule C
rounds C k = one_by_one (replicate k ((0, Step) ∷ (0, Step) ∷ (1, Step) ∷ (1, Step) ∷ []))
  where
    one_by_one : List (Schedule C) → Schedule C
    one_by_one [] = []
    one_by_one (acts ∷ more) = acts ++ one_by_one more

-- the line of a pass, if there is one
abbrev pub line_of : {L C E : Type 0} → L → Option (Pass L C E) → L
line_of rest none = rest
line_of rest (some v) = v.line
