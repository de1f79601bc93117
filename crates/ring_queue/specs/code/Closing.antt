-- Closes and shuts made by steps: each sets a mark of a slot.
use Rattle.std.specs.Prelude.{ℕ, Bool, []}
use Rattle.ring_machine.specs.declared.lines.Back.TheVariants.{ToClose}
use Rattle.ring_machine.specs.declared.lines.Front.TheVariants.{ToShut}
use Rattle.bounded_model.specs.declared.commands.Reply.TheVariants as reply
use Rattle.ring_machine.specs.declared.lines.Line.TheVariants.{MarkBack, ShutFront}
use Rattle.ring_queue.specs.Prelude.{Account, Answer, AnswerClose, AnswerShut, At, CloseFirst, Limits, Line, Operation, Reply, SeatLine, ShutFirst}
use Rattle.ring_queue.specs.Prelude.{capacity_of, ends, fields_of, mark_of, second_of, to_answer}
use Rattle.ring_queue.specs.declared.code.closing.Mark.{Mark}
use Rattle.ring_queue.specs.declared.code.closing.Mark.TheVariants.{Closed, Shut}
use Rattle.ring_queue.specs.declared.code.closing.MarkAt.{MarkAt}
use Rattle.ring_queue.specs.declared.code.closing.MarkAt.TheVariants.{Walking, Setting}
use Rattle.ring_queue.specs.declared.code.walking.WalkAt.TheVariants.{LoadSlot}
use Rattle.ring_queue.specs.code.Walking.{IsRead, Aim, to_back, to_front, walk_line, line_of}
use Rattle.ring_queue.specs.code.Machine.{Answered}

-- is the mark set in this word
abbrev pub is_set : Mark → ℕ → Bool
is_set Closed w = mark_of w
is_set Shut w = second_of w

abbrev pub mark_of_step : MarkAt → Mark
mark_of_step (Walking mark at) = mark
mark_of_step (Setting mark end) = mark

-- what was read is of a slot
abbrev pub HasReadToMark : ℕ → MarkAt → Type 0
HasReadToMark n (Walking mark at) = IsRead n at
HasReadToMark n (Setting mark end) = IsRead n (LoadSlot end.walk)

module _ {T : Type 0} where
  abbrev pub operation_of : Mark → Operation T
  operation_of Closed = CloseFirst
  operation_of Shut = ShutFirst

  -- where its walk goes, and why
  abbrev pub aim_of : Mark → Aim T
  aim_of Closed = to_back ToClose
  aim_of Shut = to_front ToShut

  -- the reply of the call that sets it
  abbrev pub mark_reply : Mark → Bool → Reply T
  mark_reply Closed done = reply.Close done
  mark_reply Shut done = reply.Shut done

  -- what a shut answers, or else a close
  abbrev pub answer_of : Operation T → Bool → Answer T
  answer_of ShutFirst done = AnswerShut done
  answer_of o done = AnswerClose done

  -- the machine's line
  abbrev pub mark_line : MarkAt → Line T
  mark_line (Walking mark at) = walk_line (aim_of mark) at
  mark_line (Setting Closed end) = MarkBack (line_of end.walk) (fields_of end.slot)
  mark_line (Setting Shut end) = ShutFront (line_of end.walk) (fields_of end.slot)

  -- how it is read
  abbrev pub mark_account : Limits → Account T (SeatLine T) (Operation T) MarkAt (Answered Bool)
  mark_account k = to_answer (λ s. operation_of (mark_of_step s)) (λ s. At (mark_line s)) (λ s. []) (λ s. HasReadToMark (capacity_of k) s) (λ o a. At (ends a.kept.index (answer_of o a.reply)))
