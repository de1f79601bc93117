-- The ring as a machine: any number of passes put, take, close, shut, look, count and gauge, one atomic step at a
-- time. `table` has its lines.
use Rattle.std.specs.Prelude.{ℕ, ◌+◌, ◌-◌, ◌*◌, ◌==◌, leb, ltb, if◌then◌else◌, Bool, true, false, List, [], ◌∷◌, Option as Slot, Some, None, Ok, Err}
use mathlib.Core.Option.{Option, none, some}
use Rattle.bounded_model.specs.declared.answers.Word.TheVariants.{Next as NextWord}
use Rattle.bounded_model.specs.declared.answers.PutRefused.TheVariants.{Full as PutFull, Closed as PutClosed, Spent as PutSpent}
use Rattle.bounded_model.specs.declared.answers.TakeRefused.TheVariants.{Empty as TakeEmpty, Closed as TakeClosed, Shut as TakeShut}
use Rattle.bounded_model.specs.declared.history.Event.{Event}
use Rattle.bounded_model.specs.declared.history.Event.TheVariants.{Hold, Put, Take, Free, Close, Shut}
use Rattle.bounded_model.specs.Machine.{Shape}
use Rattle.machine.specs.Schedule as schedule
use Rattle.machine.specs.Words.{Tagged, raised, marked, with_second, start_word}
use Rattle.machine.specs.Chains.{with_home}
use Rattle.machine.specs.Program.{Memories, becomes, Then, stays, returns, brings, Deed, rests, loads, fetches, stows, attempts, swaps, answered, does, wins as won_by}
use Rattle.ring_machine.specs.declared.lines.Walk.{Walk}
use Rattle.ring_machine.specs.declared.lines.Back.{Back}
use Rattle.ring_machine.specs.declared.lines.Back.TheVariants.{ToPut, ToClose, ToCount, ToGauge}
use Rattle.ring_machine.specs.declared.lines.Front.{Front}
use Rattle.ring_machine.specs.declared.lines.Front.TheVariants.{ToTake, ToShut, ToLook, ToCount as ToCountFrom}
use Rattle.ring_machine.specs.declared.lines.Answer.{Answer}
use Rattle.ring_machine.specs.declared.lines.Answer.TheVariants.{Put as AnswerPut, Take as AnswerTake, Close as AnswerClose, Shut as AnswerShut, Look as AnswerLook, Len as AnswerLen, Gauge as AnswerGauge}
use Rattle.ring_machine.specs.declared.lines.Place.{Place}
use Rattle.ring_machine.specs.declared.lines.Place.TheVariants.{Head as AtHead, Tail as AtTail, Slot as AtSlot}
use Rattle.ring_machine.specs.declared.lines.Line.{Line}
use Rattle.ring_machine.specs.declared.lines.Line.TheVariants.{Idle, FetchTail, LoadTail, LoadBack, MoveTail, PutCell, PassTail, MarkBack, LoadHead, LoadFront, MoveHead, TakeCell, PassHead, Stow, ShutFront, CheckFront}
use Rattle.ring_machine.specs.declared.lines.Call.{Call}
use Rattle.ring_machine.specs.declared.lines.Call.TheVariants.{Put as CallPut, Take as CallTake, Close as CallClose, Shut as CallShut, Look as CallLook, Len as CallLen, Gauge as CallGauge}

-- The words, and the value of each cell: none while a pass has the cell in hand, some None if the cell is empty at
-- home. `head` and `tail` name positions near the front and the back
pub record Memory (T : Type 0) : Type 0 where
  pub head : Tagged
  pub tail : Tagged
  pub slot : ℕ → Tagged
  pub home : ℕ → Option (Slot T)

-- the words after one was stored at i
abbrev pub store_word : (ℕ → Tagged) → ℕ → Tagged → ℕ → Tagged
store_word slot i x j = if j == i then x else slot j

-- A position of a ring of n slots. A word's index says which slot, and its tag in which lap. Its place in the order of
-- all positions, and the next position
abbrev pub place : ℕ → Tagged → ℕ
place n w = w.tag * n + w.index

abbrev pub behind : ℕ → Tagged → Tagged
behind n w = if w.index + 1 == n then record w { index = 0; tag = w.tag + 1 } else record w { index = w.index + 1 }

-- a slot's tag at a lap, empty and full
abbrev pub empty_at : ℕ → ℕ
empty_at lap = 2 * lap

abbrev pub full_at : ℕ → ℕ
full_at lap = 2 * lap + 1

-- a walk passes fewer positions than this, and then moves `HEAD` or `TAIL`
abbrev pub stride : ℕ
stride = 4

abbrev pub walk : ℕ → Tagged → Walk
walk cell w = record { cell = cell; from = w; at = w; gone = 0 }

abbrev pub further : ℕ → Walk → Walk
further n w = record w { at = behind n w.at; gone = w.gone + 1 }

-- the walk has another spare cell
abbrev pub with_cell : Walk → ℕ → Walk
with_cell w c = record w { cell = c }

module _ {T : Type 0} where
  -- What the steps that change a word leave

  -- a cell is taken in hand, and laid back
  abbrev pub after_fetch : Memory T → ℕ → Memory T
  after_fetch m c = record m { home = with_home m.home c none }

  abbrev pub after_stow : Memory T → ℕ → Memory T
  after_stow m c = record m { home = with_home m.home c (some None) }

  -- A slot's cell is exchanged for the spare one. In a put the spare cell comes home with a value; in a take the cell
  -- of the slot leaves home
  abbrev pub after_put : Memory T → Walk → Tagged → T → Memory T
  after_put m w x v = record m { slot = store_word m.slot w.at.index (raised x w.cell); home = with_home m.home w.cell (some (Some v)) }

  abbrev pub after_take : Memory T → Walk → Tagged → Memory T
  after_take m w x = record m { slot = store_word m.slot w.at.index (raised x w.cell); home = with_home m.home x.index none }

  abbrev pub after_slot : Memory T → Walk → Tagged → Memory T
  after_slot m w x = record m { slot = store_word m.slot w.at.index x }

  abbrev pub after_tail : Memory T → Tagged → Memory T
  after_tail m w = record m { tail = w }

  abbrev pub after_head : Memory T → Tagged → Memory T
  after_head m w = record m { head = w }

  -- The next line of a pass, from its line and the word that it found

  abbrev pub ends : ℕ → Answer T → Line T
  ends c a = Idle c (Some a)

  -- the slot was put already
  abbrev pub beyond_back : ℕ → Walk → Back T → Line T
  beyond_back n w s = if w.gone + 1 == stride then MoveTail (further n w) s else LoadBack (further n w) s

  abbrev pub found_to_put : ℕ → Walk → T → Tagged → Line T
  found_to_put limit w v x =
      if x.mark then Stow w (AnswerPut (Err (PutClosed v)))
      else if x.tag == empty_at w.at.tag then (if leb limit (x.tag + 1) then Stow w (AnswerPut (Err (PutSpent v (NextWord w.at.index) x.tag))) else PutCell w v x)
      else Stow w (AnswerPut (Err (PutFull v)))

  abbrev pub at_back : ℕ → ℕ → Walk → Back T → Tagged → Line T
  at_back n limit w (ToPut v) x = found_to_put limit w v x
  at_back n limit w ToClose x = if x.mark then ends w.cell (AnswerClose false) else MarkBack w x
  at_back n limit w (ToCount front) x = CheckFront w.cell front w.at
  at_back n limit w ToGauge x = ends w.cell (AnswerGauge x.mark (place n w.at))

  abbrev pub found_back : ℕ → ℕ → Walk → Back T → Tagged → Line T
  found_back n limit w s x = if ltb (empty_at w.at.tag) x.tag then beyond_back n w s else at_back n limit w s x

  -- the slot was taken already
  abbrev pub beyond_front : ℕ → Walk → Front → Line T
  beyond_front n w s = if w.gone + 1 == stride then MoveHead (further n w) s else LoadFront (further n w) s

  abbrev pub found_to_take : Walk → Tagged → Line T
  found_to_take w x =
      if x.second then ends w.cell (AnswerTake (Err TakeShut))
      else if x.tag == full_at w.at.tag then TakeCell w x
      else if x.mark then ends w.cell (AnswerTake (Err TakeClosed))
      else ends w.cell (AnswerTake (Err TakeEmpty))

  abbrev pub at_front : Walk → Front → Tagged → Line T
  at_front w ToTake x = found_to_take w x
  at_front w ToShut x = if x.second then ends w.cell (AnswerShut false) else ShutFront w x
  at_front w ToLook x = ends w.cell (AnswerLook (x.tag == empty_at w.at.tag))
  at_front w ToCountFrom x = LoadTail w.cell (ToCount w.at)

  abbrev pub found_front : ℕ → Walk → Front → Tagged → Line T
  found_front n w s x = if ltb (full_at w.at.tag) x.tag then beyond_front n w s else at_front w s x

  -- if another pass took a value meanwhile, the count begins again
  abbrev pub found_again : ℕ → ℕ → Tagged → Tagged → Tagged → Line T
  found_again n c front back x = if ltb (full_at front.tag) x.tag then LoadHead c ToCountFrom else ends c (AnswerLen (place n back - place n front))

  -- the number of the put, or of the take, is the place to which the walk has come
  abbrev pub put_done : ℕ → Walk → Answer T
  put_done n w = AnswerPut (Ok (place n w.at))

  abbrev pub take_done : ℕ → Walk → T → Answer T
  take_done n w v = AnswerTake (Ok (v, place n w.at))

  abbrev pub has_put : ℕ → Walk → Line T
  has_put n w = if w.gone + 1 == stride then PassTail w else ends w.cell (put_done n w)

  abbrev pub has_taken : ℕ → Walk → T → Line T
  has_taken n w v = if w.gone + 1 == stride then PassHead w v else Stow w (take_done n w v)

abbrev pub same_place : Place → Place → Bool
same_place AtHead AtHead = true
same_place AtTail AtTail = true
same_place (AtSlot i) (AtSlot j) = i == j
same_place a b = false

-- What one step does
abbrev pub Outcome : Type 0 → Type 0
Outcome T = schedule.Outcome (Memory T) (Line T) (Event T)

module _ {T : Type 0} where
  abbrev pub goes_on : Memory T → Line T → Outcome T
  goes_on m l = record { memory = m; line = l; events = [] }

  abbrev pub wins : Memory T → Line T → List (Event T) → Outcome T
  wins m l events = record { memory = m; line = l; events = events }

  -- the memory as its places; it has no plain numbers
  abbrev pub word_in : Memory T → Place → Tagged
  word_in m AtHead = m.head
  word_in m AtTail = m.tail
  word_in m (AtSlot i) = m.slot i

  abbrev pub memories : Memories T (Memory T) Place ⊥
  memories = record {
    same_place = same_place;
    same_link = λ a b. true;
    top_of = λ at. none;
    keeps = λ at. true;
    link_of = λ at. none;
    of = λ word number home. record { head = word AtHead; tail = word AtTail; slot = λ i. word (AtSlot i); home = home };
    word = word_in;
    link = λ m at. 0;
    home = λ m. m.home;
  }

  -- a won exchange leads to a line, by one event or by two, the newest first
  abbrev pub by : Line T → (ℕ → List (Event T)) → Then (Line T) (Event T)
  by l events = record { line = l; events = events }

  -- The cell of the slot is now the pass's spare one. After a put it stays at home, empty; after a take it comes with
  -- the value
  abbrev pub took : ℕ → Walk → ℕ → List (Option (Slot T)) → Option (Then (Line T) (Event T))
  took n w c (some (Some v) ∷ others) = some (by (has_taken n (with_cell w c) v) (λ p. Free p 1 ∷ Take p v (place n w.at) ∷ []))
  took n w c were = none

  -- What each line does in a ring of n slots, with tags up to a limit
  abbrev pub table : ℕ → ℕ → Line T → Deed T (Memory T) Place ⊥ (Line T) (Event T)
  table n limit (Idle c a) = rests
  -- to the back: to put, to close, to count, to gauge
  table n limit (FetchTail c v) = fetches AtTail (c ∷ []) (λ w. LoadBack (walk c w) (ToPut v))
  table n limit (LoadTail c s) = loads AtTail (λ w. LoadBack (walk c w) s)
  table n limit (LoadBack w s) = loads (AtSlot w.at.index) (found_back n limit w s)
  table n limit (MoveTail w s) = attempts AtTail w.from w.at (LoadTail w.cell s)
  table n limit (PutCell w v x) = swaps (AtSlot w.at.index) x (becomes (raised x w.cell)) (returns ((w.cell, Some v) ∷ []) (by (has_put n (with_cell w x.index)) (λ p. Put p (v ∷ []) (place n w.at) ∷ Hold p ∷ []))) (LoadBack w (ToPut v))
  table n limit (PassTail w) = attempts AtTail w.from (behind n w.at) (ends w.cell (put_done n w))
  table n limit (MarkBack w x) = swaps (AtSlot w.at.index) x (becomes (marked x)) (stays (by (ends w.cell (AnswerClose true)) (λ p. Close p ∷ []))) (LoadBack w ToClose)
  -- to the front: to take, to shut, to look, to count
  table n limit (LoadHead c s) = loads AtHead (λ w. LoadFront (walk c w) s)
  table n limit (LoadFront w s) = loads (AtSlot w.at.index) (found_front n w s)
  table n limit (MoveHead w s) = attempts AtHead w.from w.at (LoadHead w.cell s)
  table n limit (TakeCell w x) = swaps (AtSlot w.at.index) x (becomes (raised x w.cell)) (brings false (λ m. x.index ∷ []) (λ is. took n w x.index)) (LoadFront w ToTake)
  table n limit (PassHead w v) = attempts AtHead w.from (behind n w.at) (Stow w (take_done n w v))
  table n limit (ShutFront w x) = swaps (AtSlot w.at.index) x (becomes (with_second x)) (stays (by (ends w.cell (AnswerShut true)) (λ p. Shut p ∷ []))) (LoadFront w ToShut)
  -- a cell in hand goes home
  table n limit (Stow w a) = stows (AtSlot w.at.index) ((w.cell, None) ∷ []) (ends w.cell a)
  -- the front that the count began at
  table n limit (CheckFront c front back) = loads (AtSlot front.index) (found_again n c front back)

  -- the spare cell that a pass has at a line
  abbrev pub cell_of : Line T → ℕ
  cell_of (Idle c a) = c
  cell_of (FetchTail c v) = c
  cell_of (LoadTail c s) = c
  cell_of (LoadBack w s) = w.cell
  cell_of (MoveTail w s) = w.cell
  cell_of (PutCell w v x) = w.cell
  cell_of (PassTail w) = w.cell
  cell_of (MarkBack w x) = w.cell
  cell_of (LoadHead c s) = c
  cell_of (LoadFront w s) = w.cell
  cell_of (MoveHead w s) = w.cell
  cell_of (TakeCell w x) = w.cell
  cell_of (PassHead w v) = w.cell
  cell_of (Stow w a) = w.cell
  cell_of (ShutFront w x) = w.cell
  cell_of (CheckFront c front back) = c

  -- whether it lies at home at a line
  abbrev pub back_rests : Back T → Bool
  back_rests (ToPut v) = false
  back_rests s = true

  abbrev pub is_home : Line T → Bool
  is_home (LoadTail c s) = back_rests s
  is_home (LoadBack w s) = back_rests s
  is_home (MoveTail w s) = back_rests s
  is_home (PutCell w v x) = false
  is_home (PassHead w v) = false
  is_home (Stow w a) = false
  is_home l = true

  abbrev pub held_cells : Line T → List ℕ
  held_cells l = cell_of l ∷ []

  -- a pass with this spare cell between two calls
  abbrev pub resting : ℕ → Line T
  resting c = Idle c None

  -- the step of pass p at a line, and whether it is an exchange that wins
  abbrev pub step : Shape → Memory T → ℕ → Line T → Outcome T
  step c m p l = does memories (resting (cell_of l)) m p l (table c.capacity c.limit l)

  abbrev pub wins_exchange : Memory T → Line T → Bool
  wins_exchange m l = won_by memories m (table 0 0 l)

  -- what the exchanges of PutCell and of TakeCell leave
  abbrev pub wins_put : ℕ → Memory T → ℕ → Walk → T → Tagged → Outcome T
  wins_put n m p w v x = wins (after_put m w x v) (has_put n (with_cell w x.index)) (Put p (v ∷ []) (place n w.at) ∷ Hold p ∷ [])

  abbrev pub wins_value : ℕ → Memory T → ℕ → Walk → Tagged → Option (Slot T) → Outcome T
  wins_value n m p w x was = answered memories (resting w.cell) m p (AtSlot w.at.index) (raised x w.cell) (x.index ∷ []) (took n w x.index (was ∷ []))

  abbrev pub is_idle : Line T → Bool
  is_idle (Idle c a) = true
  is_idle l = false

  -- the first step of an operation of a pass with spare cell c
  abbrev pub first_of : ℕ → Call T → Line T
  first_of c (CallPut v) = FetchTail c v
  first_of c CallTake = LoadHead c ToTake
  first_of c CallClose = LoadTail c ToClose
  first_of c CallShut = LoadHead c ToShut
  first_of c CallLook = LoadHead c ToLook
  first_of c CallLen = LoadHead c ToCountFrom
  first_of c CallGauge = LoadTail c ToGauge

  abbrev pub starts : Call T → Line T → Line T
  starts call l = first_of (cell_of l) call

-- the words of a new ring: slot i has cell i, pass p has cell n + p, and all cells are empty
abbrev pub start : {T : Type 0} → Shape → Memory T
start c = record {
  head = start_word 0;
  tail = start_word 0;
  slot = start_word;
  home = λ i. some None;
}

-- the whole machine, for schedules
abbrev pub ring : {T : Type 0} → Shape → schedule.Machine (Memory T) (Line T) (Call T) (Event T)
ring c = record {
  first = start c;
  rest = λ p. resting (c.capacity + p);
  is_idle = is_idle;
  starts = starts;
  step = step c;
  wins = wins_exchange;
}

abbrev pub Pass : Type 0 → Type 0
Pass T = schedule.Pass (Line T) (Call T) (Event T)

abbrev pub State : Type 0 → Type 0
State T = schedule.State (Memory T) (Line T) (Call T) (Event T)
