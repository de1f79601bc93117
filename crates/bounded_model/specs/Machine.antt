-- The bounded machine: what each event needs, and what it does.
-- A history is a list of events, the newest first.
use Rattle.std.specs.Prelude.{◌≡◌, ℕ, ◌+◌, ◌-◌, ◌<◌, ◌≤◌, ◌==◌, if◌then◌else◌, Bool, true, false, List, [], ◌∷◌, ◌++◌, length, reverse}
use Rattle.bounded_model.specs.declared.history.Order.{Order}
use Rattle.bounded_model.specs.declared.history.Order.TheVariants.{Fifo, Lifo}
use Rattle.bounded_model.specs.declared.history.Event.{Event}
use Rattle.bounded_model.specs.declared.history.Event.TheVariants.{Hold, Put, Take, TakeAll, Free, Close, Shut}

-- what a container was made for: its order, how many cells it has, how high a tag may rise, and how many passes may be
-- out at one time
pub record Shape : Type 0 where
  pub order : Order
  pub capacity : ℕ
  pub limit : ℕ
  pub passes : ℕ

-- a queue's values stand from the front, a stack's from the top; `held` is the sum of all hands;
-- the last three count the Holds, the puts and the takes so far
pub record State (T : Type 0) : Type 0 where
  pub values : List T
  pub hand : ℕ → ℕ
  pub held : ℕ
  pub closed : Bool
  pub shut : Bool
  pub holds : ℕ
  pub puts : ℕ
  pub takes : ℕ

abbrev pub start : {T : Type 0} → State T
start = record { values = []; hand = λ _. 0; held = 0; closed = false; shut = false; holds = 0; puts = 0; takes = 0 }

-- the hands after pass p's became n
abbrev pub with_hand : (ℕ → ℕ) → ℕ → ℕ → ℕ → ℕ
with_hand hand p n q = if q == p then n else hand q

-- a queue appends, a stack pushes one after another
abbrev pub put_on : {T : Type 0} → Order → List T → List T → List T
put_on Fifo values new = values ++ new
put_on Lifo values new = reverse new ++ values

-- a queue takes one value in one put, a stack one or more
abbrev pub MayPut : {T : Type 0} → Order → List T → Type 0
MayPut Fifo new = length new ≡ 1
MayPut Lifo new = 0 < length new

-- a queue numbers its puts and its takes each from 0, a stack numbers all of them together
abbrev pub next_put : {T : Type 0} → Order → State T → ℕ
next_put Fifo s = s.puts
next_put Lifo s = s.puts + s.takes

abbrev pub next_take : {T : Type 0} → Order → State T → ℕ
next_take Fifo s = s.takes
next_take Lifo s = s.puts + s.takes

abbrev pub IsStack : Order → Type 0
IsStack Fifo = ⊥
IsStack Lifo = Unit {0}

abbrev pub without_first : {T : Type 0} → List T → List T
without_first [] = []
without_first (x ∷ xs) = xs

abbrev pub StartsWith : {T : Type 0} → T → List T → Type 0
StartsWith {T} v values = (rest : List T) × (values ≡ v ∷ rest)

-- what an event needs of the state that it meets
abbrev pub Needs : {T : Type 0} → Shape → State T → Event T → Type 0
Needs c s (Hold p) = length s.values + s.held < c.capacity
Needs c s (Put p vs n) = (s.closed ≡ false) × MayPut c.order vs × (length vs ≤ s.hand p) × (n ≡ next_put c.order s)
Needs c s (Take p v n) = (s.shut ≡ false) × StartsWith v s.values × (n ≡ next_take c.order s)
Needs c s (TakeAll p vs n) = (s.shut ≡ false) × IsStack c.order × (s.values ≡ vs) × (0 < length vs) × (n ≡ next_take c.order s)
Needs c s (Free p k) = (0 < k) × (k ≤ s.hand p)
Needs c s (Close p) = s.closed ≡ false
Needs c s (Shut p) = s.shut ≡ false

-- what an event does to it
abbrev pub after : {T : Type 0} → Shape → State T → Event T → State T
after c s (Hold p) = record s { hand = with_hand s.hand p (s.hand p + 1); held = s.held + 1; holds = s.holds + 1 }
after c s (Put p vs n) = record s { values = put_on c.order s.values vs; hand = with_hand s.hand p (s.hand p - length vs); held = s.held - length vs; puts = s.puts + 1 }
after c s (Take p v n) = record s { values = without_first s.values; hand = with_hand s.hand p (s.hand p + 1); held = s.held + 1; takes = s.takes + 1 }
after c s (TakeAll p vs n) = record s { values = []; hand = with_hand s.hand p (s.hand p + length vs); held = s.held + length vs; takes = s.takes + 1 }
after c s (Free p k) = record s { hand = with_hand s.hand p (s.hand p - k); held = s.held - k }
after c s (Close p) = record s { closed = true }
after c s (Shut p) = record s { shut = true }

-- the state at the end of a history
abbrev pub state : {T : Type 0} → Shape → List (Event T) → State T
state c [] = start
state c (e ∷ h) = after c (state c h) e

-- each event met what it needs
abbrev pub Legal : {T : Type 0} → Shape → List (Event T) → Type 0
Legal c [] = Unit {0}
Legal c (e ∷ h) = Needs c (state c h) e × Legal c h
