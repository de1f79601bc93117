-- How the state of any call of a ring is read, as one operation.
use Rattle.std.specs.Prelude.{ℕ, List, [], Option as Slot}
use Rattle.bounded_model.specs.declared.commands.Reply.TheVariants as reply
use Rattle.ring_machine.specs.declared.lines.Answer as lines
use Rattle.ring_queue.specs.Prelude.{Account, AnswerClose, AnswerLook, AnswerPut, AnswerShut, AnswerTake, At, Limits, LookFirst}
use Rattle.ring_queue.specs.Prelude.{Operation, Reply, SeatLine, TakeFirst, capacity_of, ends, to_answer}
use Rattle.ring_queue.specs.code.Machine.{put_of, laps_at, Answered}
use Rattle.ring_queue.specs.code.Closing.{mark_of_step, operation_of, mark_line, HasReadToMark}
use Rattle.ring_queue.specs.code.Putting.{put_value, put_line, put_slots, HasReadToPut}
use Rattle.ring_queue.specs.declared.code.every.RingAt.{RingAt}
use Rattle.ring_queue.specs.declared.code.every.RingAt.TheVariants.{Put, Take, Mark, Look}
use Rattle.ring_queue.specs.code.Looking.{look_line}
use Rattle.ring_queue.specs.code.Taking.{take_line, take_slots, HasReadToTake}
use Rattle.ring_queue.specs.code.Walking.{IsRead}

module _ {T : Type 0} where
  abbrev pub every_operation : RingAt T → Operation T
  every_operation (Put at) = put_of (put_value at)
  every_operation (Take at) = TakeFirst
  every_operation (Mark at) = operation_of (mark_of_step at)
  every_operation (Look at) = LookFirst

  abbrev pub every_line : ℕ → RingAt T → SeatLine T
  every_line n (Put at) = At (put_line at)
  every_line n (Take at) = At (take_line n at)
  every_line n (Mark at) = At (mark_line at)
  every_line n (Look at) = look_line at

  abbrev pub every_slots : RingAt T → List (ℕ × Slot T)
  every_slots (Put at) = put_slots at
  every_slots (Take at) = take_slots at
  every_slots at = []

  abbrev pub EveryKnows : Limits → RingAt T → Type 0
  EveryKnows k (Put at) = HasReadToPut (capacity_of k) (laps_at k) at
  EveryKnows k (Take at) = HasReadToTake (capacity_of k) (laps_at k) at
  EveryKnows k (Mark at) = HasReadToMark (capacity_of k) at
  EveryKnows k (Look at) = IsRead (capacity_of k) at.at

  abbrev pub every_answer : Reply T → lines.Answer T
  every_answer (reply.Put r) = AnswerPut r
  every_answer (reply.Take r) = AnswerTake r
  every_answer (reply.Close b) = AnswerClose b
  every_answer (reply.Shut b) = AnswerShut b
  every_answer (reply.Look b) = AnswerLook b

  -- how it is read
  abbrev pub every_account : Limits → Account T (SeatLine T) (Operation T) (RingAt T) (Answered (Reply T))
  every_account k = to_answer every_operation (every_line (capacity_of k)) every_slots (EveryKnows k) (λ o a. At (ends a.kept.index (every_answer a.reply)))
