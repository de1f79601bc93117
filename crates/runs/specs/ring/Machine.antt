-- The ring as a machine of any number of passes, more than it has spare cells. In the machine `ring` each pass keeps its first spare cell
-- for ever. In a running ring the spare cell of a joined pass goes to a later pass, with a new number. So here a call is begun from a
-- line of a seat, which has the cell. Apart from that this is `ring`, on the lines of seats.
use Rattle.std.specs.Prelude.{ℕ, ◌+◌, Bool, false, []}
use Rattle.bounded_model.specs.declared.history.Event.{Event}
use Rattle.bounded_model.specs.Machine.{Shape}
use Rattle.machine.specs.Schedule as schedule
use Rattle.ring_machine.specs.declared.lines.Call.{Call}
use Rattle.ring_machine.specs.Machine.{Memory, cell_of, first_of, resting, step, wins_exchange}
use Rattle.ring_machine.specs.Machine as ring
use Rattle.ring_machine.specs.Answers.{shape}
use Rattle.ring_table.specs.declared.line.SeatLine.{SeatLine}
use Rattle.ring_table.specs.declared.line.SeatLine.TheVariants.{At, Stock}
use Rattle.ring_table.specs.Seats.{is_idle}
use Rattle.ring_table.specs.Core.{first_memory}

-- what is begun: the line of the seat that begins it, and the call
abbrev pub From : Type 0 → Type 0
From T = SeatLine T × Call T

abbrev pub Pass : Type 0 → Type 0
Pass T = schedule.Pass (SeatLine T) (From T) (Event T)

abbrev pub State : Type 0 → Type 0
State T = schedule.State (Memory T) (SeatLine T) (From T) (Event T)

module _ {T : Type 0} where
  -- the first step of a call, with the spare cell of the line that it is begun from; a seat that is none of a pass begins nothing
  abbrev pub starts : From T → SeatLine T
  starts (At l, call) = At (first_of (cell_of l) call)
  starts (Stock cs, call) = Stock cs

  -- a step of `ring`, at a line of a seat
  abbrev pub at_seat : ring.Outcome T → schedule.Outcome (Memory T) (SeatLine T) (Event T)
  at_seat o = record { memory = o.memory; line = At o.line; events = o.events }

  abbrev pub step_at : Shape → Memory T → ℕ → SeatLine T → schedule.Outcome (Memory T) (SeatLine T) (Event T)
  step_at c m p (At l) = at_seat (step c m p l)
  step_at c m p (Stock cs) = record { memory = m; line = Stock cs; events = [] }

  abbrev pub wins_at : Memory T → SeatLine T → Bool
  wins_at m (At l) = wins_exchange m l
  wins_at m (Stock cs) = false

  -- A ring of n slots, each of which can be filled `laps` times, for `passes` passes at once. It has a cell for each slot and for each of
  -- these passes. Any number of passes may run on it, one after another. The cell in the line of a pass between two calls says nothing:
  -- the next call brings its own
  abbrev pub cell_ring : ℕ → ℕ → ℕ → schedule.Machine (Memory T) (SeatLine T) (From T) (Event T)
  cell_ring n laps passes = record {
    first = first_memory T n laps passes;
    rest = λ p. At (resting (n + p));
    is_idle = is_idle;
    starts = λ from l. starts from;
    step = step_at (shape n laps);
    wins = wins_at;
  }
