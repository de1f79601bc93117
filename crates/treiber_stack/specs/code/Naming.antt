-- The names of a stack's steps, from its machine's table.
use Rattle.stack_machine.specs.declared.lines.Top.{Top}
use Rattle.stack_machine.specs.declared.lines.Top.TheVariants.{Free, Stack}
use Rattle.step_names.specs.declared.location.Location.{Location}
use Rattle.step_names.specs.declared.location.Location.TheVariants as location
use Rattle.stack_machine.specs.declared.lines.Link.{Link}
use Rattle.stack_machine.specs.Machine.{Memory, table}
use Rattle.step_names.specs.Names.{Naming, IsNamed}
use Rattle.step_names.specs.declared.step_name.StepName.{StepName}
use Rattle.treiber_stack.specs.Prelude.{Event, Line, Shape}
use Rattle.treiber_stack.specs.code.Every.{every_line}
use Rattle.treiber_stack.specs.Calls.{AnyOp}

abbrev pub word_at : Top → Location
word_at Free = location.Free
word_at Stack = location.Top

-- a node has one link, whichever list it is on
abbrev pub number_at : Link → Location
number_at link = location.Link link.index

module _ {T : Type 0} where
  abbrev pub naming : Shape → Naming T (Memory T) Top Link (Line T) (Event T)
  naming shape = record { table = table shape; word = word_at; number = number_at }

  -- the next step of an operation at this line has this name, whatever the stack's shape
  abbrev pub IsNextStep : Line T → StepName → Type 0
  IsNextStep line name = (shape : Shape) → IsNamed (naming shape) line name

  -- the next step of an operation has this name
  abbrev pub IsStep : AnyOp T → StepName → Type 0
  IsStep op name = IsNextStep (every_line op.at) name
