-- What any table of a ring says as a whole.
use Rattle.std.specs.Prelude.{ℕ, ◌+◌, List, map, Option as Slot}
use Rattle.atomic_table.specs.Table.{State}
use Rattle.bounded_model.specs.declared.history.Event.{Event}
use Rattle.machine.specs.declared.seats.View.{View}
use Rattle.ring_machine.specs.Answers.{shape, state}
use Rattle.ring_machine.specs.Places.{NothingTwice}
use Rattle.ring_table.specs.declared.line.SeatLine.{SeatLine}
use Rattle.ring_table.specs.Core.{core, ring_with}
use Rattle.ring_table.specs.Memories.{memory_of}
use Rattle.ring_table.specs.Seats.{names, passes_of}
use Rattle.running.specs.Rule.{Rule, line_in}
use Rattle.step_core.specs.ring.Law.{Represents}
use Rattle.step_core.specs.ring.Object.{object}
use Rattle.runs.specs.Heard.{IsLinearizable}
use Rattle.runs.specs.Table.{HoldAtMost, IsQueueHistory, OneHistory, LedTo}
use Rattle.runs.specs.ring.Bounded.{call_in}
use Rattle.runs.specs.ring.Linearizable.{answer_at}

-- Its history is that of one bounded queue, which holds the values in the slots from the front to the back. All its seats have seen parts of that history.
-- No cell is in two places. The acts that led to the table have made that history, and their calls are linearizable. The
-- history keeps the rule of the client, if it has one
pub record Headline (T : Type 0) (n laps passes : ℕ) {rule : List (Event T) → Type 0} (s : State (Slot T) (View T (SeatLine T))) (r : Rule (ring_with T n laps passes rule) s) : Type 0 where
  pub history : IsQueueHistory (shape n laps) r.history
  pub stored : Represents n laps (memory_of n (n + passes) s.words s.homes) (state n laps r.history)
  pub hands : HoldAtMost (shape n laps) 1 r.history
  pub seats : OneHistory r.history s.views
  pub places : NothingTwice n (n + passes) (memory_of n (n + passes) s.words s.homes) (passes_of (map (line_in names) s.views))
  pub led : LedTo names (core T n laps passes) r.led.acts (memory_of n (n + passes) s.words s.homes) r.history s.views
  pub calls : IsLinearizable names (core T n laps passes) call_in answer_at (object n laps) r.led.acts
  pub tied : rule r.history
