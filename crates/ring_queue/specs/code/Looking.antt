-- Looks made by steps.
use Rattle.std.specs.Prelude.{Bool, []}
use Rattle.ring_queue.specs.Prelude.{Account, AnswerLook, At, Limits, LookFirst, Operation, SeatLine, ToLook, capacity_of, ends, to_answer}
use Rattle.ring_queue.specs.declared.code.looking.LookAt.{LookAt}
use Rattle.ring_queue.specs.declared.code.walk.Walk.{Walk}
use Rattle.ring_queue.specs.declared.code.walking.WalkAt.TheVariants.{LoadSlot}
use Rattle.ring_queue.specs.code.Walking.{to_front, walk_line, IsRead}
use Rattle.ring_queue.specs.code.Machine.{Answered}

-- its next load is that of the slot that the walk has come to
abbrev pub slot_loaded : Walk → LookAt
slot_loaded w = record { at = LoadSlot w }

module _ {T : Type 0} where
  -- the machine's line
  abbrev pub look_line : LookAt → SeatLine T
  look_line s = At (walk_line (to_front ToLook) s.at)

  -- how it is read
  abbrev pub look_account : Limits → Account T (SeatLine T) (Operation T) LookAt (Answered Bool)
  look_account k = to_answer (λ s. LookFirst) look_line (λ s. []) (λ s. IsRead (capacity_of k) s.at) (λ o a. At (ends a.kept.index (AnswerLook a.reply)))
