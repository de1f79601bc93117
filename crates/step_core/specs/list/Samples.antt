-- A run of the list's machine, computed, and a wrong machine that breaks the law.
use Rattle.std.specs.Prelude.{◌≡◌, ℕ, false, List, [], ◌∷◌, ◌++◌, replicate}
use Rattle.machine.specs.Words.{total}
use Rattle.machine.specs.Schedule.{Machine, Act, Begin, Step, run, start}
use Rattle.step_core.specs.list.Machine.{Memory, At, Call, Take, Give, Events, Outcome, State, step, list}
use Rattle.step_core.specs.list.Law.{holds, Lawful}

abbrev pub Acts : Type 0
Acts = List (ℕ × Act Call)

-- a whole take of pass p, and a whole give of the index at a place of its hand
abbrev pub takes : ℕ → Acts
takes p = (p, Begin Take) ∷ replicate 3 (p, Step)

abbrev pub gives : ℕ → ℕ → Acts
gives p place = (p, Begin (Give place)) ∷ replicate 3 (p, Step)

-- Pass 0 has read the top and its link. Meanwhile pass 1 takes both indexes and gives the first one
-- back, so that the top names the index that pass 0 has read
abbrev pub stale : Acts
stale = (0, Begin Take) ∷ replicate 2 (0, Step) ++ takes 1 ++ takes 1 ++ gives 1 1

abbrev pub last_of : Machine Memory At Call Events → State
last_of m = run m (stale ++ (0, Step) ∷ []) (start m 2)

-- the tag tells pass 0 that the top has changed: its exchange is lost
abbrev pub StaleLost : Type 0
StaleLost = (last_of (list 2 7)).memory.top ≡ record { index = 0; mark = false; second = false; tag = 2 }

-- the wrong machine: no take raises the tag
abbrev pub untagged : Memory → Memory
untagged m = record m { top = record { index = m.top.index; mark = m.top.mark; second = m.top.second; tag = 0 } }

abbrev pub wrong_step : Memory → ℕ → At → Outcome
wrong_step m p at = let o = step 7 m at.line at.hand in record o { memory = untagged o.memory }

abbrev pub last : State
last = last_of (record (list 2 7) { step = wrong_step })

-- pass 0 wins, and the top names an index that pass 1 holds
abbrev pub TopHeld : Type 0
TopHeld = (last.memory.top.index ≡ 1) × (total (λ v. holds 1 v.line) last.passes ≡ 1)

abbrev pub UntaggedUnlawful : Type 0
UntaggedUnlawful = ¬ Lawful 2 7 last
