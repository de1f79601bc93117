-- The bounded queue whose history the machine's history is, and which answers of its passes are
-- right.
use Rattle.std.specs.Prelude.{◌≡◌, ℕ, ◌≤◌, Bool, true, false, List, Ok, Err}
use Rattle.bounded_model.specs.declared.history.Order.TheVariants.{Fifo}
use Rattle.bounded_model.specs.declared.history.Event.{Event}
use Rattle.bounded_model.specs.declared.container.TheConstants.{MAX_PASSES}
use Rattle.bounded_model.specs.Machine as bounded
use Rattle.bounded_model.specs.Justified as right
use Rattle.bounded_model.specs.declared.answers.PutRefused.TheVariants.{Full, Closed, Spent}
use Rattle.queue_machine.specs.declared.lines.Answer.{Answer}
use Rattle.queue_machine.specs.declared.lines.Answer.TheVariants.{Put as AnswerPut, Take as AnswerTake, Close as AnswerClose, Shut as AnswerShut, Look as AnswerLook, Len as AnswerLen, Gauge as AnswerGauge}

-- a queue of n cells
abbrev pub shape : ℕ → ℕ → bounded.Shape
shape n limit = record { order = Fifo; capacity = n; limit = limit; passes = MAX_PASSES }

-- the bounded machine at the end of a history
abbrev pub state : {T : Type 0} → ℕ → ℕ → List (Event T) → bounded.State T
state n limit history = bounded.state (shape n limit) history

-- Whether the queue is closed at the end of a history, and how many values were put. That is the number of
-- used tags of the tail, which the limit bounds
abbrev pub IsGauged : {T : Type 0} → ℕ → ℕ → Bool → ℕ → List (Event T) → Type 0
IsGauged n limit closed used h = ((state n limit h).closed ≡ closed) × ((state n limit h).puts ≡ used) × (used ≤ limit)

-- if an answer changes nothing, some history between those seen at the begin and at the end of its
-- operation justifies it
abbrev pub IsRight : {T : Type 0} → ℕ → ℕ → List (Event T) → List (Event T) → Answer T → Type 0
IsRight n limit begun seen (AnswerPut (Ok done)) = Unit {0}
IsRight n limit begun seen (AnswerPut (Err (Full v))) = right.Sometime begun seen (λ h. right.Justifies (shape n limit) h right.PutFull)
IsRight n limit begun seen (AnswerPut (Err (Closed v))) = right.Sometime begun seen (λ h. right.Justifies (shape n limit) h right.PutClosed)
IsRight n limit begun seen (AnswerPut (Err (Spent v word t))) = right.Sometime begun seen (λ h. right.Justifies (shape n limit) h (right.PutSpent word t))
IsRight n limit begun seen (AnswerTake (Ok done)) = Unit {0}
IsRight n limit begun seen (AnswerTake (Err why)) = right.Sometime begun seen (λ h. right.Justifies (shape n limit) h (right.take_answer why))
IsRight n limit begun seen (AnswerClose true) = Unit {0}
IsRight n limit begun seen (AnswerClose false) = right.Sometime begun seen (λ h. right.Justifies (shape n limit) h right.NotClosed)
IsRight n limit begun seen (AnswerShut true) = Unit {0}
IsRight n limit begun seen (AnswerShut false) = right.Sometime begun seen (λ h. right.Justifies (shape n limit) h right.NotShut)
IsRight n limit begun seen (AnswerLook empty) = right.Sometime begun seen (λ h. right.Justifies (shape n limit) h (right.Looked empty))
IsRight n limit begun seen (AnswerLen k) = right.Sometime begun seen (λ h. right.Justifies (shape n limit) h (right.Counted k))
IsRight n limit begun seen (AnswerGauge closed used) = right.Sometime begun seen (IsGauged n limit closed used)
