-- The free cells and the free nodes as lists of a host: where they lie, and which step on them each line is.
use Rattle.std.specs.Prelude.{ℕ, ◌==◌, true, if◌then◌else◌}
use mathlib.Core.Option.{Option}
use Rattle.index_list.specs.Kinds.{Kind}
use Rattle.queue_machine.specs.declared.lines.Line.{Line}
use Rattle.queue_machine.specs.Machine.{memories, table, held_cells, held_nodes}
use Rattle.running.specs.Lists.{Lists, step_of}
use Rattle.queue_table.specs.Layout.{cells_at, nodes_at, clink_at, nlink_at}

module _ {T : Type 0} where
  -- no step on a list knows the limit
  abbrev pub list_step : Line T → Option (ℕ × Kind)
  list_step l = step_of memories (table 0 l)

  abbrev pub lists : Lists (Line T)
  lists = record {
    layout = record {
      top = λ l. if l == 0 then cells_at else nodes_at;
      link = λ l i. if l == 0 then clink_at i else nlink_at i;
      keeps = λ l. true;
      carries = λ l. l == 0;
    };
    held = λ l line. if l == 0 then held_cells line else held_nodes line;
    step = list_step;
  }
