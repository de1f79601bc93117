-- Looks made by steps.
use Rattle.std.specs.Prelude.{ℕ, ◌+◌, ◌<◌, Bool, []}
use Rattle.queue_machine.specs.declared.lines.Line.TheVariants.{LoadHeadToLook, LoadNextToLook, CheckHeadToLook}
use Rattle.ms_queue.specs.Prelude.{Account, AnswerLook, Limits, Line, LookFirst, Operation, capacity_of, ends, fields_of, index_of, to_answer}
use Rattle.ms_queue.specs.declared.code.looking.LookAt.{LookAt}
use Rattle.ms_queue.specs.declared.code.looking.LookAt.TheVariants.{LoadHead, LoadNext, CheckHead}
use Rattle.ms_queue.specs.code.Machine.{Answered}

-- what was read names a node
abbrev pub HasReadToLook : ℕ → LookAt → Type 0
HasReadToLook n LoadHead = Unit {0}
HasReadToLook n (LoadNext h) = index_of h < n + 1
HasReadToLook n (CheckHead h x) = Unit {0}

module _ {T : Type 0} where
  -- the machine's line
  abbrev pub look_line : LookAt → Line T
  look_line LoadHead = LoadHeadToLook
  look_line (LoadNext h) = LoadNextToLook (fields_of h)
  look_line (CheckHead h x) = CheckHeadToLook (fields_of h) (fields_of x)

  -- how it is read
  abbrev pub look_account : Limits → Account T (Line T) (Operation T) LookAt (Answered Bool)
  look_account k = to_answer (λ at. LookFirst) look_line (λ at. []) (λ at. HasReadToLook (capacity_of k) at) (λ o a. ends (AnswerLook a.reply))
