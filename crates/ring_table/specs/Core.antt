-- The ring's machine on its table, as the running layer sees it.
use Rattle.std.specs.Prelude.{ℕ, ◌+◌, ◌*◌, ltb, if◌then◌else◌, List, None, Option as Slot}
use mathlib.Core.Option.{none, some}
use Rattle.bounded_model.specs.declared.history.Event.{Event}
use Rattle.bounded_model.specs.declared.views.Answered.{Answered}
use Rattle.bounded_model.specs.declared.views.Answered.TheVariants.{Heard}
use Rattle.bounded_model.specs.Machine.{Shape}
use Rattle.machine.specs.Words.{start_word}
use Rattle.machine.specs.Program.{Deed, rests}
use Rattle.ring_machine.specs.declared.lines.Place.{Place}
use Rattle.ring_machine.specs.Machine.{Memory, memories, table, cell_of, resting}
use Rattle.ring_machine.specs.Answers.{shape}
use Rattle.ring_machine.specs.Rule.{Good, Tells}
use Rattle.ring_machine.specs.Deeds.{Deeds}
use Rattle.ring_machine.specs.Places.{WinsUnheld}
use Rattle.running.specs.Machine.{Core, Machine}
use Rattle.running.specs.Tables.{Board, Rules, core_of}
use Rattle.running.specs.Ties.{no_rule}
use Rattle.ring_table.specs.declared.line.SeatLine.{SeatLine}
use Rattle.ring_table.specs.declared.line.SeatLine.TheVariants.{At, Stock}
use Rattle.ring_table.specs.declared.operation.Operation.{Operation}
use Rattle.ring_table.specs.Layout.{layout}
use Rattle.ring_table.specs.Effects.{effect}
use Rattle.ring_table.specs.Lines.{call_of, reply, Brings, Says}
use Rattle.ring_table.specs.Seats.{passes_of, cells_from, IsStock, deed_at, names}
use Rattle.ring_table.specs.Free.{FreeAt}

-- What holds of a line of the machine, for a line of a seat. For a seat that is not a pass's nothing is claimed, and it makes no step
module _ {T : Type 0} where
  abbrev pub stopped_at : SeatLine T → SeatLine T
  stopped_at (At l) = At (resting (cell_of l))
  stopped_at (Stock cs) = Stock cs

  abbrev pub BringsAt : SeatLine T → List (ℕ × Slot T) → Type 0
  BringsAt (At l) zs = Brings l zs
  BringsAt (Stock cs) zs = Unit {0}

  abbrev pub table_at : ℕ → ℕ → SeatLine T → Deed T (Memory T) Place ⊥ (SeatLine T) (Event T)
  table_at n laps (At l) = deed_at (table n (2 * laps) l)
  table_at n laps (Stock cs) = rests

  abbrev pub SaysAt : ℕ → ℕ → ℕ → SeatLine T → ℕ → Type 0
  SaysAt n laps cells (At l) y = Says n laps cells l y
  SaysAt n laps cells (Stock cs) y = Unit {0}

  abbrev pub DeedsAt : ℕ → Operation T → ℕ → SeatLine T → List (Event T) → List (Event T) → Type 0
  DeedsAt n o p (At l) b seen = Deeds n p (call_of o) l b seen
  DeedsAt n o p (Stock cs) b seen = Unit {0}

  abbrev pub TellsAt : ℕ → ℕ → List (Event T) → List (Event T) → SeatLine T → Type 0
  TellsAt n laps b seen (At l) = Tells n laps b seen l
  TellsAt n laps b seen (Stock cs) = Unit {0}

  abbrev pub reply_at : SeatLine T → Answered T
  reply_at (At l) = reply l
  reply_at (Stock cs) = Heard

  abbrev pub WinsUnheldAt : ℕ → Memory T → List (SeatLine T) → SeatLine T → SeatLine T → Type 0
  WinsUnheldAt n m seats (At l) (At l') = WinsUnheld n m (passes_of seats) l l'
  WinsUnheldAt n m seats s s' = Unit {0}

-- a ring of n slots, each of which can be filled `laps` times, and for `passes` passes: it has a cell for each slot and each pass
module _ (T : Type 0) (n laps passes : ℕ) where
  abbrev pub cells : ℕ
  cells = n + passes

  abbrev pub board : Board T (Memory T) Place ⊥ (SeatLine T)
  board = record {
    memories = memories;
    layout = layout n cells;
    idle = stopped_at;
    table = table_at n laps;
    Brings = BringsAt;
    Says = SaysAt n laps cells;
    Plain = λ at x. ⊥;
  }

  -- the memory that a new table shows; for a word or cell that it does not have, it shows 0 or nothing
  abbrev pub first_memory : Memory T
  first_memory = record {
    head = start_word 0;
    tail = start_word 0;
    slot = λ i. if ltb i n then start_word i else start_word 0;
    home = λ i. if ltb i cells then some None else none;
  }

  abbrev pub shape_for : Shape
  shape_for = record (shape n laps) { passes = passes }

  -- between two steps no pass has anything in hand, as the history counts it
  abbrev pub rules : Rules T (Memory T) (SeatLine T) (Operation T)
  rules = record {
    first = first_memory;
    shape = shape_for;
    holding = λ l. 0;
    reply = reply_at;
    Reads = ⊥;
    Peeks = λ o. ⊥;
    Effect = effect;
    rest = λ p. At (resting (n + p));
    stock = Stock (cells_from n passes);
    IsStock = IsStock passes;
    Good = λ m who seats h. Good T n laps cells m (passes_of seats) h;
    Deeds = DeedsAt n;
    Tells = TellsAt n laps;
    WinsUnheld = WinsUnheldAt n;
    Free = FreeAt n cells;
  }

  abbrev pub core : Core T (SeatLine T) (Operation T)
  core = core_of board rules

  -- the machine of a client with this rule, and of one with none
  abbrev pub ring_with : (List (Event T) → Type 0) → Machine T (SeatLine T) (Operation T) names
  ring_with rule = record { core = core; rule = rule }

  abbrev pub ring_on : Machine T (SeatLine T) (Operation T) names
  ring_on = ring_with no_rule
