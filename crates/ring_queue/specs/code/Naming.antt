-- The names of a ring's steps, from its machine's table.
use Rattle.std.specs.Prelude.{ℕ}
use Rattle.ring_machine.specs.declared.lines.Place.{Place}
use Rattle.ring_machine.specs.declared.lines.Place.TheVariants.{Head, Tail, Slot}
use Rattle.step_names.specs.declared.location.Location.{Location}
use Rattle.step_names.specs.declared.location.Location.TheVariants as location
use Rattle.ring_machine.specs.Machine.{table}
use Rattle.step_names.specs.Names.{Naming, IsNamed}
use Rattle.step_names.specs.declared.step_name.StepName.{StepName}
use Rattle.ring_queue.specs.Prelude.{Event, Line, Memory, ToLook}
use Rattle.ring_queue.specs.code.Walking.{Aim, to_back, to_front, walk_line}
use Rattle.ring_queue.specs.code.Closing.{mark_line}
use Rattle.ring_queue.specs.code.Putting.{put_line}
use Rattle.ring_queue.specs.code.Taking.{take_line}
use Rattle.ring_queue.specs.declared.code.every.RingAt.{RingAt}
use Rattle.ring_queue.specs.declared.code.every.RingAt.TheVariants as calls
use Rattle.ring_queue.specs.Calls.{AnyOp}

abbrev pub word_at : Place → Location
word_at Head = location.Head
word_at Tail = location.Tail
word_at (Slot index) = location.Slot index

-- the hint of a walk
abbrev pub hint_at : {T : Type 0} → Aim T → Location
hint_at (to_back s) = location.Tail
hint_at (to_front s) = location.Head

module _ {T : Type 0} where
  abbrev pub naming : ℕ → ℕ → Naming T (Memory T) Place ⊥ (Line T) (Event T)
  naming n limit = record { table = table n limit; word = word_at; number = λ q. absurd q }

  -- the next step of an operation at this line has this name, for any number of slots and any limit of the tags
  abbrev pub IsNextStep : Line T → StepName → Type 0
  IsNextStep line name = (n limit : ℕ) → IsNamed (naming n limit) line name

  -- the next step of an operation has this name
  abbrev pub IsStepAt : RingAt T → StepName → Type 0
  IsStepAt (calls.Put at) name = IsNextStep (put_line at) name
  IsStepAt (calls.Take at) name = (n : ℕ) → IsNextStep (take_line n at) name
  IsStepAt (calls.Mark at) name = IsNextStep (mark_line at) name
  IsStepAt (calls.Look at) name = IsNextStep (walk_line (to_front ToLook) at.at) name

  abbrev pub IsStep : AnyOp T → StepName → Type 0
  IsStep op name = IsStepAt op.at name
