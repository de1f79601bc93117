-- The machine of a stack with these limits, which of its operations makes a call, and what an operation has answered.
use Rattle.std.specs.Prelude.{◌≡◌, List}
use Rattle.running.specs.Machine.{Machine}
pub use Rattle.running.specs.Ties.{no_rule}
use Rattle.stack_table.specs.declared.operation.Listed.TheVariants.{End}
use Rattle.stack_table.specs.declared.operation.Operation.TheVariants.{Put as PutFirst}
use Rattle.running.specs.declared.kept.Answered as answers
use Rattle.treiber_stack.specs.Prelude.{Close, CloseFirst, Command, Event, Limits, Line, Look, LookFirst, Operation, Put, Shape, Shut, ShutFirst}
use Rattle.treiber_stack.specs.Prelude.{Take, TakeFirst, capacity_of, names, shape, stack_with, tag_limit_of}

-- for a client with this rule, and for one with none
abbrev pub machine_for : {T : Type 0} → (List (Event T) → Type 0) → Limits → Machine T (Line T) (Operation T) names
machine_for {T} rule k = stack_with T (capacity_of k) (tag_limit_of k) rule

abbrev pub machine_at : {T : Type 0} → Limits → Machine T (Line T) (Operation T) names
machine_at k = machine_for no_rule k

abbrev pub shape_at : Limits → Shape
shape_at k = shape (capacity_of k) (tag_limit_of k)

module _ {T : Type 0} where
  -- the operation of a put of x
  abbrev pub put_of : T → Operation T
  put_of x = PutFirst (record { marker = record {}; value = x }) End

  abbrev pub is_call : Command T → Operation T → Type 0
  is_call (Put x) o = o ≡ put_of x
  is_call Take o = o ≡ TakeFirst
  is_call Close o = o ≡ CloseFirst
  is_call Shut o = o ≡ ShutFirst
  is_call Look o = o ≡ LookFirst

abbrev pub Answered : Type 0 → Type 0
Answered A = answers.Answered (Unit {0}) A
