-- Shuts made by steps.
use Rattle.std.specs.Prelude.{Bool, []}
use Rattle.queue_machine.specs.declared.lines.Line.TheVariants.{LoadHeadToShut, ShutHead}
use Rattle.ms_queue.specs.Prelude.{Account, AnswerShut, Limits, Line, Operation, ShutFirst, ends, fields_of, to_answer}
use Rattle.ms_queue.specs.declared.code.shutting.ShutAt.{ShutAt}
use Rattle.ms_queue.specs.declared.code.shutting.ShutAt.TheVariants.{LoadHead, Mark}
use Rattle.ms_queue.specs.code.Machine.{Answered}

module _ {T : Type 0} where
  -- the machine's line
  abbrev pub shut_line : ShutAt → Line T
  shut_line LoadHead = LoadHeadToShut
  shut_line (Mark h) = ShutHead (fields_of h)

  -- how it is read
  abbrev pub shut_account : Limits → Account T (Line T) (Operation T) ShutAt (Answered Bool)
  shut_account k = to_answer (λ at. ShutFirst) shut_line (λ at. []) (λ at. Unit {0}) (λ o a. ends (AnswerShut a.reply))
