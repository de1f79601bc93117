-- The acts that led to a table, as a schedule of the pure machine.
use Rattle.std.specs.Prelude.{◌≡◌, ℕ, ◌<◌, [], ◌∷◌, ◌++◌, length}
use Rattle.std.specs.List.{AllByRecursion as Every}
use mathlib.Core.Option.{some}
use lib.ListN.{get_elem?}
use Rattle.bounded_model.specs.declared.history.Event.{Event}
use Rattle.machine.specs.Seats.{Acts}
use Rattle.machine.specs.Schedule.{Machine as Pure, Pass, State, Begin, Step, Schedule}
use Rattle.running.specs.Machine.{Names, Machine}
use Rattle.running.specs.Acts.{Doing, Begins, Steps, Looks, Hears, Now}

-- these acts are of passes with a number below n
abbrev pub Below : {L : Type 0} → ℕ → Acts L → Type 0
Below n acts = Every (λ a. a.0 < n) acts

module _ {L C : Type 0} (call_at : L → C) where
  -- one act: a load that belongs to no line is none of the machine's, nor is a meeting or a note heard
  abbrev pub one : ℕ → Doing L → Schedule C
  one p (Begins first) = (p, Begin (call_at first)) ∷ []
  one p Steps = (p, Step) ∷ []
  one p Looks = []
  one p Hears = []

  -- the oldest first
  abbrev pub schedule_of : Acts L → Schedule C
  schedule_of [] = []
  schedule_of (a ∷ older) = schedule_of older ++ one a.0 a.1

module _ {T L O C : Type 0} {names : Names L O} (m : Machine T L O names) (x : Pure m.core.Memory L C (Event T)) (call_at : L → C) where
  -- x is the machine that runs on the table, and a first line tells the call
  pub record IsRunning : Type 0 where
    pub first : x.first ≡ m.core.first
    pub rest : (p : ℕ) → x.rest p ≡ m.core.rest p
    pub idle : (l : L) → x.is_idle l ≡ names.is_idle l
    pub steps : (memory : m.core.Memory) (p : ℕ) (l : L) → x.step memory p l ≡ record { memory = m.core.after memory p l; line = m.core.lands memory p l; events = m.core.adds memory p l }
    pub starts : (o : O) (rest l : L) → x.starts (call_at (names.first o rest)) l ≡ names.first o rest

  -- a state of n passes is where the acts led
  pub record Shows (n : ℕ) (s : State m.core.Memory L C (Event T)) (k : Now names m.core) : Type 0 where
    pub memory : s.memory ≡ k.memory
    pub history : s.history ≡ k.history
    pub many : length s.passes ≡ n
    pub lines : (p : ℕ) (v : Pass L C (Event T)) → get_elem? s.passes p ≡ some v → v.line ≡ k.line p
