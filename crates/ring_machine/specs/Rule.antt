-- What holds of the ring between any two steps: of its words and cells, and of its history. T is the number of takes
-- and the place of the front. P is the number of puts and the place of the back.
use Rattle.std.specs.Prelude.{◌≡◌, ℕ, zero, suc, ◌+◌, ◌-◌, ◌*◌, ◌<◌, ◌≤◌, Bool, true, false, ltb, if◌then◌else◌, List, [], ◌∷◌, length, None, Some}
use mathlib.Core.Option.{some}
use lib.ListN.{get_elem?}
use Rattle.bounded_model.specs.declared.history.Event.{Event}
use Rattle.bounded_model.specs.Machine as bounded
use Rattle.machine.specs.Words.{Tagged, times, total}
use Rattle.ring_machine.specs.declared.lines.Walk.{Walk}
use Rattle.ring_machine.specs.declared.lines.Back.{Back}
use Rattle.ring_machine.specs.declared.lines.Back.TheVariants.{ToPut, ToClose, ToCount, ToGauge}
use Rattle.ring_machine.specs.declared.lines.Line.{Line}
use Rattle.ring_machine.specs.declared.lines.Line.TheVariants.{Idle, FetchTail, LoadTail, LoadBack, MoveTail, PutCell, PassTail, MarkBack, LoadHead, LoadFront, MoveHead, TakeCell, PassHead, Stow, ShutFront, CheckFront}
use Rattle.ring_machine.specs.Machine.{Memory, place, empty_at, full_at, stride, cell_of, is_home, held_cells}
use Rattle.ring_machine.specs.Answers.{IsRight, shape, state}

-- How far the ring has come: the places that the hints name, the number of puts and the number of takes. None of these
-- ever falls
pub record Progress : Type 0 where
  pub tail : ℕ
  pub head : ℕ
  pub puts : ℕ
  pub takes : ℕ

-- What passes have read. It is all about places, so no pass can undo it

-- a position that is no further than this place
pub record IsBefore (n most : ℕ) (w : Tagged) : Type 0 where
  pub slot : w.index < n
  pub before : place n w ≤ most

-- a walk from the position of a hint. Each position was put, or taken, before the walk passed it. `hint` is the place
-- that the hint names now, and `most` that of the back or the front
pub record Walks (n hint most : ℕ) (w : Walk) : Type 0 where
  pub at : IsBefore n most w.at
  pub from : place n w.from ≤ hint
  pub gone : place n w.at ≡ place n w.from + w.gone
  pub short : w.gone < stride

-- a walk that has gone as far as it may
pub record HasWalked (n most : ℕ) (w : Walk) : Type 0 where
  pub at : IsBefore n most w.at
  pub gone : place n w.at ≡ place n w.from + stride

-- it has come to a position that was put, or taken, by its pass
pub record HasPassed (n most : ℕ) (w : Walk) : Type 0 where
  pub slot : w.at.index < n
  pub before : place n w.at < most
  pub gone : place n w.from ≤ place n w.at

module _ {T : Type 0} (n laps : ℕ) (g : Progress) where
  abbrev pub Seeks : Back T → Type 0
  Seeks (ToPut v) = Unit {0}
  Seeks ToClose = Unit {0}
  Seeks (ToCount front) = IsBefore n g.takes front
  Seeks ToGauge = Unit {0}

  abbrev pub IsFine : Line T → Type 0
  IsFine (Idle c a) = Unit {0}
  IsFine (FetchTail c v) = Unit {0}
  IsFine (LoadTail c s) = Seeks s
  IsFine (LoadBack w s) = Walks n g.tail g.puts w × Seeks s
  IsFine (MoveTail w s) = HasWalked n g.puts w × Seeks s
  IsFine (PutCell w v x) = Walks n g.tail g.puts w × (x.mark ≡ false) × (x.tag ≡ empty_at w.at.tag) × (w.at.tag < laps)
  IsFine (PassTail w) = HasPassed n g.puts w
  IsFine (MarkBack w x) = Walks n g.tail g.puts w × (x.mark ≡ false) × (x.tag ≤ empty_at w.at.tag)
  IsFine (LoadHead c s) = Unit {0}
  IsFine (LoadFront w s) = Walks n g.head g.takes w
  IsFine (MoveHead w s) = HasWalked n g.takes w
  IsFine (TakeCell w x) = Walks n g.head g.takes w × (x.second ≡ false) × (x.tag ≡ full_at w.at.tag)
  IsFine (PassHead w v) = HasPassed n g.takes w
  IsFine (Stow w a) = Unit {0}
  IsFine (ShutFront w x) = Walks n g.head g.takes w × (x.second ≡ false) × (x.tag ≤ full_at w.at.tag)
  IsFine (CheckFront c front back) = IsBefore n g.takes front

-- A hint names a position that is not after the one that it hints at, and at most a stride before it
pub record Hints (n exact : ℕ) (w : Tagged) : Type 0 where
  pub at : IsBefore n exact w
  pub near : exact ≤ place n w + stride

-- The slots: the positions below T are taken, those from T to P - 1 are full, and those from P on are not yet filled.
-- Slot i at lap l is the place l * n + i
pub record Turned (n laps puts takes : ℕ) (slot : ℕ → Tagged) : Type 0 where
  pub put : (i lap : ℕ) → i < n → lap * n + i < puts → empty_at lap < (slot i).tag
  pub unput : (i lap : ℕ) → i < n → puts ≤ lap * n + i → (slot i).tag ≤ empty_at lap
  pub taken : (i lap : ℕ) → i < n → lap * n + i < takes → full_at lap < (slot i).tag
  pub untaken : (i lap : ℕ) → i < n → takes ≤ lap * n + i → (slot i).tag ≤ full_at lap
  pub within : (i : ℕ) → i < n → (slot i).tag ≤ 2 * laps

-- The marks: the ring is closed exactly if the slot at the back has the mark, and shut exactly if the slot at the front
-- has the second mark. If the ring is not closed, no slot has the mark; if it is not shut, no slot has the second mark
pub record Marked (n puts takes : ℕ) (closed shut : Bool) (slot : ℕ → Tagged) : Type 0 where
  pub closed_marked : closed ≡ true → (i lap : ℕ) → i < n → lap * n + i ≡ puts → (slot i).mark ≡ true
  pub marked_closed : (i : ℕ) → i < n → (slot i).mark ≡ true → closed ≡ true
  pub shut_marked : shut ≡ true → (i lap : ℕ) → i < n → lap * n + i ≡ takes → (slot i).second ≡ true
  pub marked_shut : (i : ℕ) → i < n → (slot i).second ≡ true → shut ≡ true

-- the cells of n slots
abbrev pub cells_in : ℕ → (ℕ → Tagged) → List ℕ
cells_in zero slot = []
cells_in (suc n) slot = (slot n).index ∷ cells_in n slot

module _ (T : Type 0) where
  -- The values: the cell of an empty slot is empty, and that of a full slot has the value that was put there. That
  -- value's index among the values is the slot's place less the front's
  pub record Filled (n takes : ℕ) (m : Memory T) (values : List T) : Type 0 where
    pub empty : (i lap : ℕ) → i < n → (m.slot i).tag ≡ empty_at lap → m.home (m.slot i).index ≡ some None
    pub stored : (i lap : ℕ) (v : T) → i < n → (m.slot i).tag ≡ full_at lap → get_elem? values (lap * n + i - takes) ≡ some v → m.home (m.slot i).index ≡ some (Some v)

  -- The history is legal, and its state is that of the ring. No hand has anything between two steps: a put takes its
  -- cell in the step in which it puts, and a take gives its cell back in the step in which it takes
  pub record Told (n laps : ℕ) (history : List (Event T)) : Type 0 where
    pub legal : bounded.Legal (shape n laps) history
    pub hands : (p : ℕ) → (state n laps history).hand p ≡ 0
    pub held : (state n laps history).held ≡ 0
    pub holds : (state n laps history).holds ≡ (state n laps history).puts
    pub balance : (state n laps history).puts ≡ (state n laps history).takes + length (state n laps history).values

  -- how far a ring has come that has this history
  abbrev pub progress : ℕ → ℕ → Memory T → List (Event T) → Progress
  progress n laps m history = record { tail = place n m.tail; head = place n m.head; puts = (state n laps history).puts; takes = (state n laps history).takes }

  -- each of the `cells` cells is in one slot or the spare one of one pass, once, and no other cell is anywhere
  abbrev pub Once : ℕ → ℕ → Memory T → List (Line T) → Type 0
  Once n cells m lines = (c : ℕ) → times c (cells_in n m.slot) + total (λ l. times c (held_cells l)) lines ≡ if ltb c cells then 1 else 0

  -- a spare cell that no pass has in hand is at home, and empty
  abbrev pub Spares : Memory T → List (Line T) → Type 0
  Spares m lines = (q : ℕ) (l : Line T) → get_elem? lines q ≡ some l → is_home l ≡ true → m.home (cell_of l) ≡ some None

  pub record Good (n laps cells : ℕ) (m : Memory T) (lines : List (Line T)) (history : List (Event T)) : Type 0 where
    pub tail : Hints n (state n laps history).puts m.tail
    pub head : Hints n (state n laps history).takes m.head
    pub turned : Turned n laps (state n laps history).puts (state n laps history).takes m.slot
    pub marked : Marked n (state n laps history).puts (state n laps history).takes (state n laps history).closed (state n laps history).shut m.slot
    pub filled : Filled n (state n laps history).takes m (state n laps history).values
    pub spares : Spares m lines
    pub once : Once n cells m lines
    pub told : Told n laps history
    pub fine : (q : ℕ) (l : Line T) → get_elem? lines q ≡ some l → IsFine n laps (progress n laps m history) l

-- What a line says of the histories that its pass had seen at the begin and has seen by now. The answer is right. The
-- line of a count says where the back was while the front had not been passed
module _ {T : Type 0} (n laps : ℕ) (begun seen : List (Event T)) where
  pub record Counts (front back : Tagged) : Type 0 where
    pub puts : (state n laps seen).puts ≡ place n back
    pub takes : place n front ≤ (state n laps seen).takes
    pub balance : (state n laps seen).puts ≡ (state n laps seen).takes + length (state n laps seen).values

  abbrev pub Tells : Line T → Type 0
  Tells (Idle c (Some a)) = IsRight n laps begun seen a
  Tells (Stow w a) = IsRight n laps begun seen a
  Tells (CheckFront c front back) = Counts front back
  Tells l = Unit {0}
