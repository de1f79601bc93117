-- A pure machine and its schedules: any number of passes begin calls and make steps, one act after
-- another, in any order. A container shows its machine as one record, and this runs it.
use Rattle.std.specs.Prelude.{ℕ, zero, suc, ◌+◌, if◌then◌else◌, Bool, List, [], ◌∷◌, ◌++◌, set}
use mathlib.Core.Option.{Option, none, some}
use lib.ListN.{get_elem?}

-- What one step does: it leaves this memory, the pass continues at this line, and the history grows
-- by these events
pub record Outcome (M L E : Type 0) : Type 0 where
  pub memory : M
  pub line : L
  pub events : List E

-- A machine of memories, lines, calls and events
pub record Machine (M L C E : Type 0) : Type 0 where
  -- the memory before the first act, and the line of each pass that has begun nothing
  pub first : M
  pub rest : ℕ → L
  -- whether a pass at a line is between two calls, and the line at which it then begins one
  pub is_idle : L → Bool
  pub starts : C → L → L
  -- the step of a pass at a line, and whether it is an exchange that wins
  pub step : M → ℕ → L → Outcome M L E
  pub wins : M → L → Bool

-- A pass: the line of its next step, the call that it began last, the history as it was then, and the
-- history that the pass has seen by now
pub record Pass (L C E : Type 0) : Type 0 where
  pub line : L
  pub call : Option C
  pub begun : List E
  pub seen : List E

pub record State (M L C E : Type 0) : Type 0 where
  pub memory : M
  pub passes : List (Pass L C E)
  pub history : List E

-- What a schedule has a pass do
pub data Act (C : Type 0) : Type 0 where
  Begin : (call : C) → Act C
  Step : Act C

-- which pass does what, one act after another
abbrev pub Schedule : Type 0 → Type 0
Schedule C = List (ℕ × Act C)

module _ {M L C E : Type 0} (x : Machine M L C E) where
  -- pass v after a step; it has then seen all that has happened
  abbrev pub having_stepped : State M L C E → Pass L C E → Outcome M L E → Pass L C E
  having_stepped s v o = record v { line = o.line; seen = o.events ++ s.history }

  -- and after a begin, at which the call's time starts
  abbrev pub having_begun : State M L C E → Pass L C E → C → Pass L C E
  having_begun s v call = record v { line = x.starts call v.line; call = some call; begun = s.history; seen = s.history }

  abbrev pub stepped : State M L C E → ℕ → Pass L C E → Outcome M L E → State M L C E
  stepped s p v o = record { memory = o.memory; passes = set s.passes p (having_stepped s v o); history = o.events ++ s.history }

  -- a begin is no atomic step and changes no word
  abbrev pub begun : State M L C E → ℕ → Pass L C E → C → State M L C E
  begun s p v call = record s { passes = set s.passes p (having_begun s v call) }

  -- a begin of a busy pass does nothing, nor does a step of an idle one
  abbrev pub acts : State M L C E → ℕ → Act C → Pass L C E → State M L C E
  acts s p (Begin call) v = if x.is_idle v.line then begun s p v call else s
  acts s p Step v = if x.is_idle v.line then s else stepped s p v (x.step s.memory p v.line)

  abbrev pub acts_at : State M L C E → ℕ → Act C → Option (Pass L C E) → State M L C E
  acts_at s p a none = s
  acts_at s p a (some v) = acts s p a v

  -- the state after the first act
  abbrev pub next : State M L C E → ℕ × Act C → State M L C E
  next s a = acts_at s a.0 a.1 (get_elem? s.passes a.0)

  -- one act after another
  abbrev pub run : Schedule C → State M L C E → State M L C E
  run [] s = s
  run (a ∷ more) s = run more (next s a)

  abbrev pub first_pass : ℕ → Pass L C E
  first_pass p = record { line = x.rest p; call = none; begun = []; seen = [] }

  -- this number of passes, from pass p on
  abbrev pub first_passes : ℕ → ℕ → List (Pass L C E)
  first_passes p zero = []
  first_passes p (suc k) = first_pass p ∷ first_passes (p + 1) k

  abbrev pub start : ℕ → State M L C E
  start passes = record { memory = x.first; passes = first_passes 0 passes; history = [] }

  -- the state after a schedule of this number of passes
  abbrev pub after : ℕ → Schedule C → State M L C E
  after passes schedule = run schedule (start passes)
