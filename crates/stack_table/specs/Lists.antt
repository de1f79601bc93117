-- The free list and the stack as lists of a host: where they lie, and which step on them each line is.
use Rattle.std.specs.Prelude.{ℕ, ◌==◌, true, if◌then◌else◌}
use mathlib.Core.Option.{Option}
use Rattle.index_list.specs.Kinds.{Kind}
use Rattle.stack_machine.specs.declared.lines.Line.{Line}
use Rattle.stack_machine.specs.Answers.{shape}
use Rattle.stack_machine.specs.Machine.{memories, table, held}
use Rattle.running.specs.Lists.{Lists, step_of}
use Rattle.stack_table.specs.Layout.{free_at, top_at, link_at}

module _ {T : Type 0} where
  -- no step on a list knows the limits
  abbrev pub list_step : Line T → Option (ℕ × Kind)
  list_step l = step_of memories (table (shape 0 0) l)

  abbrev pub lists : Lists (Line T)
  lists = record {
    layout = record {
      top = λ l. if l == 0 then free_at else top_at;
      link = λ l i. link_at i;
      keeps = λ l. l == 0;
      carries = λ l. true;
    };
    held = λ l line. held line;
    step = list_step;
  }
