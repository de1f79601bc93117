-- Counts made by steps.
use Rattle.std.specs.Prelude.{ℕ, ◌<◌, []}
use Rattle.ring_machine.specs.declared.lines.Line.TheVariants.{CheckFront}
use Rattle.ring_machine.specs.declared.lines.Answer.TheVariants.{Len as AnswerLen}
use Rattle.ring_queue.specs.Prelude.{Account, At, LenFirst, Limits, Line, Operation, SeatLine, ToCount, ToCountFrom, capacity_of, ends, fields_of}
use Rattle.ring_queue.specs.Prelude.{index_of, to_answer}
use Rattle.ring_queue.specs.declared.code.counting.LenAt.{LenAt}
use Rattle.ring_queue.specs.declared.code.counting.LenAt.TheVariants.{ToFront, ToBack, CheckFront as CheckAgain}
use Rattle.ring_queue.specs.code.Walking.{IsRead, to_back, to_front, walk_line}
use Rattle.ring_queue.specs.code.Machine.{Answered}

-- what was read is of a slot
abbrev pub HasReadToCount : ℕ → LenAt → Type 0
HasReadToCount n (ToFront at) = IsRead n at
HasReadToCount n (ToBack front at) = (index_of front < n) × IsRead n at
HasReadToCount n (CheckAgain c front back) = index_of front < n

module _ {T : Type 0} where
  -- the machine's line
  abbrev pub len_line : LenAt → Line T
  len_line (ToFront at) = walk_line (to_front ToCountFrom) at
  len_line (ToBack front at) = walk_line (to_back (ToCount (fields_of front))) at
  len_line (CheckAgain c front back) = CheckFront c.index (fields_of front) (fields_of back)

  -- how it is read
  abbrev pub len_account : Limits → Account T (SeatLine T) (Operation T) LenAt (Answered ℕ)
  len_account k = to_answer (λ s. LenFirst) (λ s. At (len_line s)) (λ s. []) (λ s. HasReadToCount (capacity_of k) s) (λ o a. At (ends a.kept.index (AnswerLen a.reply)))
