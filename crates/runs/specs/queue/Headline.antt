-- What any table of a queue says as a whole.
use Rattle.std.specs.Prelude.{◌≡◌, ℕ, List, map, Option as Slot}
use Rattle.atomic_table.specs.Table.{State}
use Rattle.bounded_model.specs.declared.history.Event.{Event}
use Rattle.machine.specs.declared.seats.View.{View}
use Rattle.queue_machine.specs.declared.lines.Line.{Line}
use Rattle.queue_machine.specs.Answers.{shape, state}
use Rattle.queue_machine.specs.Places.{NothingTwice}
use Rattle.queue_table.specs.Lines.{names}
use Rattle.queue_table.specs.Core.{core, queue_with}
use Rattle.queue_table.specs.Memories.{memory_of}
use Rattle.running.specs.Rule.{Rule, line_in}
use Rattle.step_core.specs.queue.Law.{values_left}
use Rattle.step_core.specs.queue.Object.{object, answer}
use Rattle.runs.specs.Heard.{IsLinearizable}
use Rattle.runs.specs.Table.{HoldAtMost, IsQueueHistory, OneHistory, LedTo}
use Rattle.runs.specs.queue.Bounded.{call_at}

-- Its history is that of one bounded queue, which holds the values in the cells along the chain. All its seats have seen parts of that history. No cell
-- and no node is in two places. The acts that led to the table have made that history, and their calls are linearizable. The
-- history keeps the rule of the client, if it has one
pub record Headline (T : Type 0) (n limit : ℕ) {rule : List (Event T) → Type 0} (s : State (Slot T) (View T (Line T))) (r : Rule (queue_with T n limit rule) s) : Type 0 where
  pub history : IsQueueHistory (shape n limit) r.history
  pub stored : values_left n (memory_of s.words s.homes) ≡ (state n limit r.history).values
  pub hands : HoldAtMost (shape n limit) 1 r.history
  pub seats : OneHistory r.history s.views
  pub places : NothingTwice n (memory_of s.words s.homes) (map (line_in names) s.views)
  pub led : LedTo names (core T n limit) r.led.acts (memory_of s.words s.homes) r.history s.views
  pub calls : IsLinearizable names (core T n limit) call_at answer (object n limit) r.led.acts
  pub tied : rule r.history
