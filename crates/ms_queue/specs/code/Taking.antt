-- A take made by steps.
use Rattle.std.specs.Prelude.{ℕ, Result, Ok, List, [], Option as Slot, ◌≢◌, ◌+◌, ◌<◌, ◌≤◌}
use Rattle.queue_machine.specs.declared.lines.Answer as lines
use Rattle.queue_machine.specs.declared.lines.Line.TheVariants.{LoadTailToTake, LoadHeadNext, CheckHead, SwingTailToTake, LoadCell, TakeHead}
use Rattle.ms_queue.specs.Prelude.{Account, AnswerTake, Limits, Line, LoadHead, NULL, Operation, TakeFirst, TakeRefused, capacity_of, ends, fields_of}
use Rattle.ms_queue.specs.Prelude.{index_of, tag_limit_of, tag_of, to_answer}
use Rattle.ms_queue.specs.code.Machine.{Answered}
use Rattle.ms_queue.specs.declared.code.taking.Taken.{Taken}
use Rattle.ms_queue.specs.declared.code.taking.TakeAt.{TakeAt}
use Rattle.ms_queue.specs.declared.code.taking.TakeAt.TheVariants.{LoadHead as LoadHeadFirst, LoadTail, LoadNext, CheckHead as CheckHeadAgain, SwingTail, LoadCell as LoadFirstCell, TakeHead as TakeFirstNode, GiveBack}
use Rattle.ms_queue.specs.code.Giving.{give_line, held_slot, AreHeld}

abbrev pub Answer : Type 0 → Type 0
Answer T = Answered (Result (T × ℕ) TakeRefused)

module _ {T : Type 0} where
  abbrev pub took : Taken T → lines.Answer T
  took t = AnswerTake (Ok (t.value, t.number))

  -- the machine's line
  abbrev pub take_line : TakeAt T → Line T
  take_line LoadHeadFirst = LoadHead
  take_line (LoadTail h) = LoadTailToTake (fields_of h)
  take_line (LoadNext h w) = LoadHeadNext (fields_of h) (fields_of w)
  take_line (CheckHeadAgain h w x) = CheckHead (fields_of h) (fields_of w) (fields_of x)
  take_line (SwingTail w x) = SwingTailToTake (fields_of w) (fields_of x)
  take_line (LoadFirstCell h x) = LoadCell (fields_of h) (fields_of x)
  take_line (TakeFirstNode h x k) = TakeHead (fields_of h) (fields_of x) k
  take_line (GiveBack t at) = give_line (took t) t.held at

  -- the slots in hand
  abbrev pub take_slots : TakeAt T → List (ℕ × Slot T)
  take_slots (GiveBack t at) = held_slot t.held
  take_slots at = []

  -- what was read names nodes and a cell, and the tag of the word to be exchanged has room to rise
  abbrev pub HasReadToTake : ℕ → ℕ → TakeAt T → Type 0
  HasReadToTake n limit LoadHeadFirst = Unit {0}
  HasReadToTake n limit (LoadTail h) = index_of h < n + 1
  HasReadToTake n limit (LoadNext h w) = index_of h < n + 1
  HasReadToTake n limit (CheckHeadAgain h w x) = (index_of h < n + 1) × (index_of x ≢ NULL → index_of x < n + 1)
  HasReadToTake n limit (SwingTail w x) = (index_of x < n + 1) × (tag_of w < limit)
  HasReadToTake n limit (LoadFirstCell h x) = (index_of h < n + 1) × (index_of x < n + 1)
  HasReadToTake n limit (TakeFirstNode h x k) = (index_of h < n + 1) × (index_of x < n + 1) × (k ≤ NULL) × (tag_of h < limit)
  HasReadToTake n limit (GiveBack t at) = AreHeld n t.held

  -- how it is read
  abbrev pub take_account : Limits → Account T (Line T) (Operation T) (TakeAt T) (Answer T)
  take_account k = to_answer (λ at. TakeFirst) take_line take_slots (λ at. HasReadToTake (capacity_of k) (tag_limit_of k) at) (λ o a. ends (AnswerTake a.reply))
