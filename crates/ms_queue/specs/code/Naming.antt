-- The names of a queue's steps, from its machine's table.
use Rattle.std.specs.Prelude.{ℕ}
use Rattle.queue_machine.specs.declared.lines.Place.{Place}
use Rattle.queue_machine.specs.declared.lines.Place.TheVariants.{Cells, Nodes, Head, Tail, Next}
use Rattle.step_names.specs.declared.location.Location.{Location}
use Rattle.step_names.specs.declared.location.Location.TheVariants as location
use Rattle.queue_machine.specs.declared.lines.Number.{Number}
use Rattle.queue_machine.specs.declared.lines.Number.TheVariants.{CellLink, NodeLink, Cell}
use Rattle.queue_machine.specs.Machine.{Memory, table}
use Rattle.step_names.specs.Names.{Naming, IsNamed}
use Rattle.step_names.specs.declared.step_name.StepName.{StepName}
use Rattle.ms_queue.specs.Prelude.{Event, Line}
use Rattle.ms_queue.specs.code.Every.{every_line}
use Rattle.ms_queue.specs.Calls.{AnyOp}

abbrev pub word_at : Place → Location
word_at Cells = location.Cells
word_at Nodes = location.Nodes
word_at Head = location.Head
word_at Tail = location.Tail
word_at (Next node) = location.Next node

abbrev pub number_at : Number → Location
number_at (CellLink cell) = location.CellLink cell
number_at (NodeLink node) = location.NodeLink node
number_at (Cell node) = location.Cell node

module _ {T : Type 0} where
  abbrev pub naming : ℕ → Naming T (Memory T) Place Number (Line T) (Event T)
  naming limit = record { table = table limit; word = word_at; number = number_at }

  -- the next step of an operation at this line has this name, whatever the limit of the tags
  abbrev pub IsNextStep : Line T → StepName → Type 0
  IsNextStep line name = (limit : ℕ) → IsNamed (naming limit) line name

  -- the next step of an operation has this name
  abbrev pub IsStep : AnyOp T → StepName → Type 0
  IsStep op name = IsNextStep (every_line op.at) name
