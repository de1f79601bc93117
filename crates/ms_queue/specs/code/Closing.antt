-- Closes made by steps.
use Rattle.std.specs.Prelude.{ℕ, ◌+◌, ◌<◌, Bool, []}
use Rattle.queue_machine.specs.declared.lines.Line.TheVariants.{MarkNext}
use Rattle.ms_queue.specs.Prelude.{Account, AnswerClose, CloseFirst, Limits, Line, Operation, ToClose, capacity_of, ends, fields_of, index_of}
use Rattle.ms_queue.specs.Prelude.{tag_limit_of, tag_of, to_answer}
use Rattle.ms_queue.specs.declared.code.closing.CloseAt.{CloseAt}
use Rattle.ms_queue.specs.declared.code.closing.CloseAt.TheVariants.{Seeking, Mark}
use Rattle.ms_queue.specs.code.Seeking.{IsRead, seek_line}
use Rattle.ms_queue.specs.code.Machine.{Answered}

-- what was read names a node, and the tag has room to rise
abbrev pub HasReadToClose : ℕ → ℕ → CloseAt → Type 0
HasReadToClose n limit (Seeking at) = IsRead n limit at
HasReadToClose n limit (Mark w x) = (index_of w < n + 1) × (tag_of x < limit)

module _ {T : Type 0} where
  -- the machine's line
  abbrev pub close_line : CloseAt → Line T
  close_line (Seeking at) = seek_line ToClose at
  close_line (Mark w x) = MarkNext (fields_of w) (fields_of x)

  -- how it is read
  abbrev pub close_account : Limits → Account T (Line T) (Operation T) CloseAt (Answered Bool)
  close_account k = to_answer (λ at. CloseFirst) close_line (λ at. []) (λ at. HasReadToClose (capacity_of k) (tag_limit_of k) at) (λ o a. ends (AnswerClose a.reply))
