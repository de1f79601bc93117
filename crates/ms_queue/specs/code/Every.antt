-- How the state of any call of a queue is read, as one operation.
use Rattle.std.specs.Prelude.{ℕ, List, [], Option as Slot}
use Rattle.bounded_model.specs.declared.commands.Reply.TheVariants as reply
use Rattle.queue_machine.specs.declared.lines.Answer as lines
use Rattle.ms_queue.specs.Prelude.{Account, AnswerClose, AnswerLook, AnswerPut, AnswerShut, AnswerTake, CloseFirst, Limits, Line}
use Rattle.ms_queue.specs.Prelude.{LookFirst, Operation, Reply, ShutFirst, TakeFirst, capacity_of, ends, tag_limit_of}
use Rattle.ms_queue.specs.Prelude.{to_answer}
use Rattle.ms_queue.specs.code.Machine.{put_of, Answered}
use Rattle.ms_queue.specs.code.Putting.{put_value, put_line, put_slots, HasReadToPut}
use Rattle.ms_queue.specs.declared.code.every.QueueAt.{QueueAt}
use Rattle.ms_queue.specs.declared.code.every.QueueAt.TheVariants.{Put, Take, Close, Shut, Look}
use Rattle.ms_queue.specs.code.Closing.{close_line, HasReadToClose}
use Rattle.ms_queue.specs.code.Looking.{look_line, HasReadToLook}
use Rattle.ms_queue.specs.code.Shutting.{shut_line}
use Rattle.ms_queue.specs.code.Taking.{take_line, take_slots, HasReadToTake}

module _ {T : Type 0} where
  abbrev pub every_operation : QueueAt T → Operation T
  every_operation (Put at) = put_of (put_value at)
  every_operation (Take at) = TakeFirst
  every_operation (Close at) = CloseFirst
  every_operation (Shut at) = ShutFirst
  every_operation (Look at) = LookFirst

  abbrev pub every_line : QueueAt T → Line T
  every_line (Put at) = put_line at
  every_line (Take at) = take_line at
  every_line (Close at) = close_line at
  every_line (Shut at) = shut_line at
  every_line (Look at) = look_line at

  abbrev pub every_slots : QueueAt T → List (ℕ × Slot T)
  every_slots (Put at) = put_slots at
  every_slots (Take at) = take_slots at
  every_slots at = []

  abbrev pub EveryKnows : Limits → QueueAt T → Type 0
  EveryKnows k (Put at) = HasReadToPut (capacity_of k) (tag_limit_of k) at
  EveryKnows k (Take at) = HasReadToTake (capacity_of k) (tag_limit_of k) at
  EveryKnows k (Close at) = HasReadToClose (capacity_of k) (tag_limit_of k) at
  EveryKnows k (Shut at) = Unit {0}
  EveryKnows k (Look at) = HasReadToLook (capacity_of k) at

  abbrev pub every_answer : Reply T → lines.Answer T
  every_answer (reply.Put r) = AnswerPut r
  every_answer (reply.Take r) = AnswerTake r
  every_answer (reply.Close b) = AnswerClose b
  every_answer (reply.Shut b) = AnswerShut b
  every_answer (reply.Look b) = AnswerLook b

  -- how it is read
  abbrev pub every_account : Limits → Account T (Line T) (Operation T) (QueueAt T) (Answered (Reply T))
  every_account k = to_answer every_operation every_line every_slots (EveryKnows k) (λ o a. ends (every_answer a.reply))
