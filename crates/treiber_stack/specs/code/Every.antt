-- How the state of any call of a stack is read, as one operation.
use Rattle.std.specs.Prelude.{ℕ, List, [], Option as Slot}
use Rattle.bounded_model.specs.declared.commands.Reply.TheVariants as reply
use Rattle.stack_machine.specs.declared.lines.Answer as lines
use Rattle.treiber_stack.specs.Prelude.{Account, AnswerClose, AnswerLook, AnswerShut, AnswerTake, Limits, Line, LookFirst, Operation}
use Rattle.treiber_stack.specs.Prelude.{Reply, TakeFirst, capacity_of, ends, tag_limit_of, to_answer}
use Rattle.treiber_stack.specs.code.Machine.{put_of, Answered}
use Rattle.treiber_stack.specs.code.Closing.{mark_name, sets, mark_line}
use Rattle.treiber_stack.specs.code.Putting.{put_value, put_line, put_slots, HasReadToPut, put_answer}
use Rattle.treiber_stack.specs.declared.code.every.StackAt.{StackAt}
use Rattle.treiber_stack.specs.declared.code.every.StackAt.TheVariants.{Put, Take, Mark, Look}
use Rattle.treiber_stack.specs.code.Looking.{look_line}
use Rattle.treiber_stack.specs.code.Taking.{take_line, take_slots, HasReadToTake}

module _ {T : Type 0} where
  abbrev pub every_operation : StackAt T → Operation T
  every_operation (Put at) = put_of (put_value at)
  every_operation (Take at) = TakeFirst
  every_operation (Mark at) = mark_name (sets at)
  every_operation (Look at) = LookFirst

  abbrev pub every_line : StackAt T → Line T
  every_line (Put at) = put_line at
  every_line (Take at) = take_line at
  every_line (Mark at) = mark_line at
  every_line (Look at) = look_line at

  abbrev pub every_slots : StackAt T → List (ℕ × Slot T)
  every_slots (Put at) = put_slots at
  every_slots (Take at) = take_slots at
  every_slots at = []

  abbrev pub EveryKnows : Limits → StackAt T → Type 0
  EveryKnows k (Put at) = HasReadToPut (capacity_of k) (tag_limit_of k) at
  EveryKnows k (Take at) = HasReadToTake (capacity_of k) (tag_limit_of k) at
  EveryKnows k at = Unit {0}

  abbrev pub every_answer : Reply T → lines.Answer T
  every_answer (reply.Put r) = put_answer r
  every_answer (reply.Take r) = AnswerTake r
  every_answer (reply.Close b) = AnswerClose b
  every_answer (reply.Shut b) = AnswerShut b
  every_answer (reply.Look b) = AnswerLook b

  -- how it is read
  abbrev pub every_account : Limits → Account T (Line T) (Operation T) (StackAt T) (Answered (Reply T))
  every_account k = to_answer every_operation every_line every_slots (EveryKnows k) (λ o a. ends (every_answer a.reply))
