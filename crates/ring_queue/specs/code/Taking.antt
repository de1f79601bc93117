-- A take made by steps.
use Rattle.std.specs.Prelude.{ℕ, Result, ◌+◌, ◌*◌, ◌==◌, if◌then◌else◌, Option as Slot, None, Some, List, [], ◌∷◌, ◌≡◌}
use Rattle.ring_machine.specs.declared.lines.Line.TheVariants.{PassHead as PassLine}
use Rattle.ring_machine.specs.Machine.{take_done}
use Rattle.ring_queue.specs.Prelude.{Account, AnswerTake, At, Limits, Line, Operation, SeatLine, StowLine, TakeCell, TakeClosed, TakeEmpty, TakeFirst}
use Rattle.ring_queue.specs.Prelude.{TakeRefused, TakeShut, ToTake, capacity_of, ends, fields_of, index_of, mark_of, second_of, slot_at, tag_of}
use Rattle.ring_queue.specs.Prelude.{to_answer}
use Rattle.ring_queue.specs.code.Machine.{Answered, laps_at}
use Rattle.ring_queue.specs.declared.code.taking.TakeAt.{TakeAt}
use Rattle.ring_queue.specs.declared.code.taking.TakeAt.TheVariants.{Walking, Exchange, PassHead, Stow}
use Rattle.ring_queue.specs.code.Walking.{to_front, walk_line, line_of, IsRead, IsEnd, IsAt, MayPass}

abbrev pub Answer : Type 0 → Type 0
Answer T = Answered (Result (T × ℕ) TakeRefused)

-- why nothing can be taken at this position and slot of the front, if nothing can
abbrev pub refusal_at : ℕ → ℕ → Slot TakeRefused
refusal_at at slot =
    if second_of slot then Some TakeShut
    else if tag_of slot == 2 * tag_of at + 1 then None
    else if mark_of slot then Some TakeClosed
    else Some TakeEmpty

module _ {T : Type 0} where
  -- the machine's line, in a ring of n slots
  abbrev pub take_line : ℕ → TakeAt T → Line T
  take_line n (Walking at) = walk_line (to_front ToTake) at
  take_line n (Exchange end) = TakeCell (line_of end.walk) (fields_of end.slot)
  take_line n (PassHead w v) = PassLine (line_of w) v
  take_line n (Stow w v) = StowLine (line_of w) (take_done n (line_of w) v)

  -- the slots in hand
  abbrev pub take_slots : TakeAt T → List (ℕ × Slot T)
  take_slots (PassHead w v) = (w.spare.index, None) ∷ []
  take_slots (Stow w v) = (w.spare.index, None) ∷ []
  take_slots at = []

  -- what was read is of a slot, and the tag of the word to be exchanged has room to rise
  abbrev pub HasReadToTake : ℕ → ℕ → TakeAt T → Type 0
  HasReadToTake n laps (Walking at) = IsRead n at
  HasReadToTake n laps (Exchange end) = IsEnd n laps 1 end × (tag_of end.slot ≡ 2 * tag_of end.walk.at + 1)
  HasReadToTake n laps (PassHead w v) = MayPass n w × (w.place ≡ slot_at n (index_of w.at))
  HasReadToTake n laps (Stow w v) = IsAt n w

  -- how it is read
  abbrev pub take_account : Limits → Account T (SeatLine T) (Operation T) (TakeAt T) (Answer T)
  take_account k = to_answer (λ s. TakeFirst) (λ s. At (take_line (capacity_of k) s)) take_slots (λ s. HasReadToTake (capacity_of k) (laps_at k) s) (λ o a. At (ends a.kept.index (AnswerTake a.reply)))
