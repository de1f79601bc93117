-- Closes and shuts made by steps: each sets a mark of the top.
use Rattle.std.specs.Prelude.{Bool, []}
use Rattle.machine.specs.Words.{Tagged}
use Rattle.bounded_model.specs.declared.commands.Reply.TheVariants as reply
use Rattle.stack_machine.specs.declared.lines.Line.TheVariants.{LoadTopToClose, MarkTop, LoadTopToShut, ShutTop}
use Rattle.treiber_stack.specs.Prelude.{Account, Answer, AnswerClose, AnswerShut, CloseFirst, Limits, Line, Operation, Reply, ShutFirst, ends}
use Rattle.treiber_stack.specs.Prelude.{fields_of, to_answer}
use Rattle.treiber_stack.specs.declared.code.closing.Mark.{Mark}
use Rattle.treiber_stack.specs.declared.code.closing.MarkAt.{MarkAt}
use Rattle.treiber_stack.specs.declared.code.closing.MarkAt.TheVariants.{Load, Set}
use Rattle.treiber_stack.specs.declared.code.closing.Mark.TheVariants.{Closed, Shut}
use Rattle.treiber_stack.specs.code.Machine.{Answered}

-- which mark it sets
abbrev pub sets : MarkAt → Mark
sets (Load mark) = mark
sets (Set mark w) = mark

-- is the mark set
abbrev pub is_set : Mark → Tagged → Bool
is_set Closed w = w.mark
is_set Shut w = w.second

module _ {T : Type 0} where
  abbrev pub mark_name : Mark → Operation T
  mark_name Closed = CloseFirst
  mark_name Shut = ShutFirst

  -- the reply of the call that sets it
  abbrev pub mark_reply : Mark → Bool → Reply T
  mark_reply Closed done = reply.Close done
  mark_reply Shut done = reply.Shut done

  -- what a shut answers, or else a close
  abbrev pub answer_of : Operation T → Bool → Answer T
  answer_of ShutFirst done = AnswerShut done
  answer_of o done = AnswerClose done

  -- the machine's line: a load of the top, or the exchange once the top was read
  abbrev pub mark_line : MarkAt → Line T
  mark_line (Load Closed) = LoadTopToClose
  mark_line (Load Shut) = LoadTopToShut
  mark_line (Set Closed w) = MarkTop (fields_of w)
  mark_line (Set Shut w) = ShutTop (fields_of w)

  -- how it is read
  abbrev pub mark_account : Limits → Account T (Line T) (Operation T) MarkAt (Answered Bool)
  mark_account k = to_answer (λ at. mark_name (sets at)) mark_line (λ at. []) (λ at. Unit {0}) (λ o a. ends (answer_of o a.reply))
