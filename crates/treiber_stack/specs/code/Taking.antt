-- A take made by steps.
use Rattle.std.specs.Prelude.{ℕ, Result, [], ◌∷◌, Ok, List, Option as Slot, ◌<◌, ◌≤◌}
use Rattle.stack_machine.specs.declared.lines.Line.TheVariants.{LoadTopLink, TakeTop}
use Rattle.treiber_stack.specs.Prelude.{Account, AnswerTake, Giving, Limits, Line, LoadTopToTake, NULL, One, Operation, TakeFirst, TakeRefused}
use Rattle.treiber_stack.specs.Prelude.{capacity_of, ends, fields_of, index_of, tag_limit_of, tag_of, to_answer, vacant}
use Rattle.treiber_stack.specs.code.Machine.{Answered}
use Rattle.treiber_stack.specs.declared.code.taking.Taken.{Taken}
use Rattle.treiber_stack.specs.declared.code.taking.TakeAt.{TakeAt}
use Rattle.treiber_stack.specs.declared.code.taking.TakeAt.TheVariants.{Load, Link, Exchange, GiveBack}
use Rattle.treiber_stack.specs.code.Giving.{give_line}

abbrev pub Answer : Type 0 → Type 0
Answer T = Answered (Result (T × ℕ) TakeRefused)

module _ {T : Type 0} where
  -- the node that is given back, and then the answer
  abbrev pub giving : Taken T → Giving T
  giving t = record { chain = t.index ∷ []; answer = AnswerTake (Ok (t.value, t.number)) }

  -- the machine's line
  abbrev pub take_line : TakeAt T → Line T
  take_line Load = LoadTopToTake One
  take_line (Link w) = LoadTopLink (fields_of w)
  take_line (Exchange w k) = TakeTop (fields_of w) k
  take_line (GiveBack t at) = give_line (giving t) at

  -- the slots in hand: that of the node, emptied
  abbrev pub take_slots : TakeAt T → List (ℕ × Slot T)
  take_slots (GiveBack t at) = vacant (t.index ∷ [])
  take_slots at = []

  -- what was read names a node, and the tag of the top has room to rise
  abbrev pub HasReadToTake : ℕ → ℕ → TakeAt T → Type 0
  HasReadToTake n limit Load = Unit {0}
  HasReadToTake n limit (Link w) = (index_of w < n) × (tag_of w < limit)
  HasReadToTake n limit (Exchange w k) = (index_of w < n) × (tag_of w < limit) × (k ≤ NULL)
  HasReadToTake n limit (GiveBack t at) = t.index < n

  -- how it is read
  abbrev pub take_account : Limits → Account T (Line T) (Operation T) (TakeAt T) (Answer T)
  take_account k = to_answer (λ at. TakeFirst) take_line take_slots (λ at. HasReadToTake (capacity_of k) (tag_limit_of k) at) (λ o a. ends (AnswerTake a.reply))
