-- What any table of a stack says as a whole.
use Rattle.std.specs.Prelude.{◌≡◌, ℕ, List, map, Option as Slot}
use Rattle.atomic_table.specs.Table.{State}
use Rattle.machine.specs.Chains.{chain_from, values_in}
use Rattle.bounded_model.specs.declared.history.Event.{Event}
use Rattle.machine.specs.declared.seats.View.{View}
use Rattle.stack_machine.specs.declared.lines.Line.{Line}
use Rattle.stack_machine.specs.Answers.{shape, state}
use Rattle.stack_machine.specs.Machine.{Memory}
use Rattle.stack_machine.specs.Places.{NoNodeTwice}
use Rattle.stack_table.specs.Lines.{names}
use Rattle.stack_table.specs.Core.{core, stack_with}
use Rattle.stack_table.specs.Memories.{memory_of}
use Rattle.running.specs.Rule.{Rule, line_in}
use Rattle.step_core.specs.stack.Object.{object, answer}
use Rattle.runs.specs.Heard.{IsLinearizable}
use Rattle.runs.specs.Table.{IsStackHistory, OneHistory, LedTo}
use Rattle.runs.specs.stack.Bounded.{call_at}

-- the values in a stack of n nodes, along the links from the top
abbrev pub values_left : {T : Type 0} → ℕ → Memory T → List T
values_left n m = values_in m.home (chain_from n m.link m.top.index)

-- Its history is that of one bounded stack, which holds the values in the nodes along the links from the top. All its seats have seen parts of that
-- history. No node is in two places. The acts that led to the table have made that history, and their calls are linearizable. The
-- history keeps the rule of the client, if it has one
pub record Headline (T : Type 0) (n limit : ℕ) {rule : List (Event T) → Type 0} (s : State (Slot T) (View T (Line T))) (r : Rule (stack_with T n limit rule) s) : Type 0 where
  pub history : IsStackHistory (shape n limit) r.history
  pub stored : values_left n (memory_of s.words s.homes) ≡ (state n limit r.history).values
  pub seats : OneHistory r.history s.views
  pub places : NoNodeTwice n (memory_of s.words s.homes) (map (line_in names) s.views)
  pub led : LedTo names (core T n limit) r.led.acts (memory_of s.words s.homes) r.history s.views
  pub calls : IsLinearizable names (core T n limit) call_at answer (object n limit) r.led.acts
  pub tied : rule r.history
