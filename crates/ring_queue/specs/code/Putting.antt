-- A put made by steps.
use Rattle.std.specs.Prelude.{ℕ, Result, ◌+◌, ◌*◌, ◌==◌, ltb, if◌then◌else◌, Bool, false, Err, List, [], ◌∷◌, Option as Slot, Some, None, ◌≡◌, ◌<◌}
use Rattle.ring_machine.specs.declared.lines.Line.TheVariants.{FetchTail as FetchLine, PassTail as PassLine}
use Rattle.ring_queue.specs.Prelude.{Account, AnswerPut, At, Closed, Full, Limits, Line, NextWord, Operation, PutCell, PutRefused, SeatLine, Spent}
use Rattle.ring_queue.specs.Prelude.{StowLine, ToPut, capacity_of, ends, fields_of, index_of, mark_of, tag_of, to_answer}
use Rattle.ring_queue.specs.code.Machine.{Answered, put_of, laps_at}
use Rattle.ring_queue.specs.declared.code.putting.PutAt.{PutAt}
use Rattle.ring_queue.specs.declared.code.putting.PutAt.TheVariants.{FetchTail, Walking, Exchange, PassTail, Stow}
use Rattle.ring_queue.specs.code.Walking.{to_back, walk_line, line_of, spare_at, IsRead, IsEnd, IsAt, MayPass}

abbrev pub Answer : Type 0 → Type 0
Answer T = Answered (Result ℕ (PutRefused T))

-- the ring is open at this slot, which is empty at the position's lap and may be filled once more
abbrev pub has_room : ℕ → ℕ → ℕ → Bool
has_room laps at slot =
    if mark_of slot then false
    else if tag_of slot == 2 * tag_of at then ltb (tag_of slot + 1) (2 * laps)
    else false

module _ {T : Type 0} where
  -- why a value is not put there
  abbrev pub refused_at : ℕ → ℕ → T → PutRefused T
  refused_at at slot v =
      if mark_of slot then Closed v
      else if tag_of slot == 2 * tag_of at then Spent v (NextWord (index_of at)) (tag_of slot)
      else Full v

  -- the value that is put
  abbrev pub refused_value : PutRefused T → T
  refused_value (Full x) = x
  refused_value (Closed x) = x
  refused_value (Spent x word t) = x

  abbrev pub put_value : PutAt T → T
  put_value (FetchTail c x) = x
  put_value (Walking shown at) = shown.value
  put_value (Exchange shown end) = shown.value
  put_value (PassTail shown w) = shown.value
  put_value (Stow w why) = refused_value why

  -- the machine's line
  abbrev pub put_line : PutAt T → Line T
  put_line (FetchTail c x) = FetchLine c.index x
  put_line (Walking shown at) = walk_line (to_back (ToPut shown.value)) at
  put_line (Exchange shown end) = PutCell (line_of end.walk) shown.value (fields_of end.slot)
  put_line (PassTail shown w) = PassLine (line_of w)
  put_line (Stow w why) = StowLine (line_of w) (AnswerPut (Err why))

  -- the slots in hand: that of the spare cell, with the value until it is refused
  abbrev pub put_slots : PutAt T → List (ℕ × Slot T)
  put_slots (Walking shown at) = ((spare_at at).index, Some shown.value) ∷ []
  put_slots (Exchange shown end) = (end.walk.spare.index, Some shown.value) ∷ []
  put_slots (Stow w why) = (w.spare.index, None) ∷ []
  put_slots at = []

  -- what was read is of a slot, and the tag of the word to be exchanged has room to rise
  abbrev pub HasReadToPut : ℕ → ℕ → PutAt T → Type 0
  HasReadToPut n laps (FetchTail c x) = Unit {0}
  HasReadToPut n laps (Walking shown at) = IsRead n at
  HasReadToPut n laps (Exchange shown end) = IsEnd n laps 0 end × (tag_of end.slot ≡ 2 * tag_of end.walk.at) × (tag_of end.slot + 1 < 2 * laps)
  HasReadToPut n laps (PassTail shown w) = MayPass n w
  HasReadToPut n laps (Stow w why) = IsAt n w

  -- how it is read
  abbrev pub put_account : Limits → Account T (SeatLine T) (Operation T) (PutAt T) (Answer T)
  put_account k = to_answer (λ s. put_of (put_value s)) (λ s. At (put_line s)) put_slots (λ s. HasReadToPut (capacity_of k) (laps_at k) s) (λ o a. At (ends a.kept.index (AnswerPut a.reply)))
