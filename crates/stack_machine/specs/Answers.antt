-- When an answer of the stack that changes nothing is right.
use Rattle.std.specs.Prelude.{◌≡◌, ℕ, ◌+◌, ◌≤◌, Bool, true, false, List, Ok, Err}
use Rattle.bounded_model.specs.declared.history.Order.TheVariants.{Lifo}
use Rattle.bounded_model.specs.declared.history.Event.{Event}
use Rattle.bounded_model.specs.declared.answers.PutRefused.{PutRefused}
use Rattle.bounded_model.specs.declared.answers.PutRefused.TheVariants.{Full, Closed, Spent}
use Rattle.bounded_model.specs.declared.container.TheConstants.{MAX_PASSES}
use Rattle.bounded_model.specs.Machine as bounded
use Rattle.bounded_model.specs.Justified as right
use Rattle.stack_machine.specs.declared.lines.Answer.{Answer}
use Rattle.stack_machine.specs.declared.lines.Answer.TheVariants.{Put as AnswerPut, Take as AnswerTake, Fold as AnswerFold, Close as AnswerClose, Shut as AnswerShut, Look as AnswerLook, Gauge as AnswerGauge}

-- a stack of n nodes
abbrev pub shape : ℕ → ℕ → bounded.Shape
shape n limit = record { order = Lifo; capacity = n; limit = limit; passes = MAX_PASSES }

-- the bounded machine at the end of a history
abbrev pub state : {T : Type 0} → ℕ → ℕ → List (Event T) → bounded.State T
state n limit history = bounded.state (shape n limit) history

-- Whether the stack is closed at the end of a history, and how many tags of its top are used, which the limit
-- bounds. Each put uses one and each take one, whether of one value or of many
abbrev pub IsGauged : {T : Type 0} → ℕ → ℕ → Bool → ℕ → List (Event T) → Type 0
IsGauged n limit closed used h = ((state n limit h).closed ≡ closed) × ((state n limit h).puts + (state n limit h).takes ≡ used) × (used ≤ limit)

abbrev pub refusal : {X : Type 0} → PutRefused X → right.Answer
refusal (Full values) = right.PutFull
refusal (Closed values) = right.PutClosed
refusal (Spent values word t) = right.PutSpent word t

module _ {T : Type 0} (n limit : ℕ) (begun seen : List (Event T)) where
  -- some history between those seen at the begin and at the end of an operation justifies this answer
  abbrev pub IsJustified : right.Answer → Type 0
  IsJustified answer = right.Sometime begun seen (λ h. right.Justifies (shape n limit) h answer)

  -- an answer that changes nothing is justified
  abbrev pub IsRight : Answer T → Type 0
  IsRight (AnswerPut (Ok done)) = Unit {0}
  IsRight (AnswerPut (Err why)) = IsJustified (refusal why)
  IsRight (AnswerTake (Ok done)) = Unit {0}
  IsRight (AnswerTake (Err why)) = IsJustified (right.take_answer why)
  IsRight (AnswerFold (Ok done)) = Unit {0}
  IsRight (AnswerFold (Err why)) = IsJustified (right.take_answer why)
  IsRight (AnswerClose true) = Unit {0}
  IsRight (AnswerClose false) = IsJustified right.NotClosed
  IsRight (AnswerShut true) = Unit {0}
  IsRight (AnswerShut false) = IsJustified right.NotShut
  IsRight (AnswerLook empty) = IsJustified (right.Looked empty)
  IsRight (AnswerGauge closed used) = right.Sometime begun seen (IsGauged n limit closed used)
