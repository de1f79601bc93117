-- Counts made by steps.
use Rattle.std.specs.Prelude.{ℕ, ◌+◌, ◌<◌, []}
use Rattle.queue_machine.specs.declared.lines.Line.TheVariants.{LoadHeadToCount, LoadTailToCount, LoadNextToCount, CheckHeadToCount}
use Rattle.ms_queue.specs.Prelude.{Account, AnswerLen, LenFirst, Limits, Line, Operation, capacity_of, ends, fields_of, index_of, to_answer}
use Rattle.ms_queue.specs.declared.code.counting.LenAt.{LenAt}
use Rattle.ms_queue.specs.declared.code.counting.LenAt.TheVariants.{LoadNext, LoadHead, LoadTail, CheckHead}
use Rattle.ms_queue.specs.code.Machine.{Answered}

-- what was read names a node
abbrev pub HasReadToCount : ℕ → LenAt → Type 0
HasReadToCount n (LoadNext h w) = index_of w < n + 1
HasReadToCount n at = Unit {0}

module _ {T : Type 0} where
  -- the machine's line
  abbrev pub len_line : LenAt → Line T
  len_line LoadHead = LoadHeadToCount
  len_line (LoadTail h) = LoadTailToCount (fields_of h)
  len_line (LoadNext h w) = LoadNextToCount (fields_of h) (fields_of w)
  len_line (CheckHead h w x) = CheckHeadToCount (fields_of h) (fields_of w) (fields_of x)

  -- how it is read
  abbrev pub len_account : Limits → Account T (Line T) (Operation T) LenAt (Answered ℕ)
  len_account k = to_answer (λ at. LenFirst) len_line (λ at. []) (λ at. HasReadToCount (capacity_of k) at) (λ o a. ends (AnswerLen a.reply))
