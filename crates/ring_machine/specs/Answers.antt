-- The bounded queue that the machine's history is one of, and which answers of its passes are right.
use Rattle.std.specs.Prelude.{◌≡◌, ℕ, ◌*◌, ◌≤◌, Bool, true, false, List, length, Ok, Err}
use Rattle.bounded_model.specs.declared.history.Order.TheVariants.{Fifo}
use Rattle.bounded_model.specs.declared.history.Event.{Event}
use Rattle.bounded_model.specs.Machine as bounded
use Rattle.bounded_model.specs.Justified as right
use Rattle.bounded_model.specs.declared.answers.PutRefused.TheVariants.{Full, Closed, Spent}
use Rattle.bounded_model.specs.declared.answers.Word.{Word}
use Rattle.ring_machine.specs.declared.lines.Answer.{Answer}
use Rattle.ring_machine.specs.declared.lines.Answer.TheVariants.{Put as AnswerPut, Take as AnswerTake, Close as AnswerClose, Shut as AnswerShut, Look as AnswerLook, Len as AnswerLen, Gauge as AnswerGauge}

-- a ring of n slots, each of which can be filled `laps` times: a lap raises a slot's tag by two. Its root says how many
-- passes may be out
abbrev pub shape : ℕ → ℕ → bounded.Shape
shape n laps = record { order = Fifo; capacity = n; limit = 2 * laps; passes = 0 }

-- the bounded machine at the end of a history
abbrev pub state : {T : Type 0} → ℕ → ℕ → List (Event T) → bounded.State T
state n laps history = bounded.state (shape n laps) history

-- whether the ring is closed at the end of a history, and how many values were put. They are at most the values that
-- the ring can take: `laps` for each of its n slots
abbrev pub IsGauged : {T : Type 0} → ℕ → ℕ → Bool → ℕ → List (Event T) → Type 0
IsGauged n laps closed used h = ((state n laps h).closed ≡ closed) × ((state n laps h).puts ≡ used) × (used ≤ laps * n)

-- each slot holds a value: a ring counts no cell that is in a pass's hand
abbrev pub HasAllValues : {T : Type 0} → bounded.Shape → List (Event T) → Type 0
HasAllValues c h = length (bounded.state c h).values ≡ c.capacity

-- each slot was filled in each of the laps
abbrev pub HasAllPuts : {T : Type 0} → bounded.Shape → ℕ → List (Event T) → Type 0
HasAllPuts c laps h = (bounded.state c h).puts ≡ laps * c.capacity

-- what makes it right to refuse a put as full, and as spent
abbrev pub IsFullNow : {T : Type 0} → ℕ → ℕ → List (Event T) → Type 0
IsFullNow n laps h = right.Justifies (shape n laps) h right.PutFull × HasAllValues (shape n laps) h

abbrev pub IsSpentNow : {T : Type 0} → ℕ → ℕ → Word → ℕ → List (Event T) → Type 0
IsSpentNow n laps word t h = right.Justifies (shape n laps) h (right.PutSpent word t) × HasAllPuts (shape n laps) laps h

-- some history between those seen at the begin and at the end of an operation justifies its answer, if the answer is
-- one that changes nothing
abbrev pub IsRight : {T : Type 0} → ℕ → ℕ → List (Event T) → List (Event T) → Answer T → Type 0
IsRight n laps begun seen (AnswerPut (Ok done)) = Unit {0}
IsRight n laps begun seen (AnswerPut (Err (Full v))) = right.Sometime begun seen (IsFullNow n laps)
IsRight n laps begun seen (AnswerPut (Err (Closed v))) = right.Sometime begun seen (λ h. right.Justifies (shape n laps) h right.PutClosed)
IsRight n laps begun seen (AnswerPut (Err (Spent v word t))) = right.Sometime begun seen (IsSpentNow n laps word t)
IsRight n laps begun seen (AnswerTake (Ok done)) = Unit {0}
IsRight n laps begun seen (AnswerTake (Err why)) = right.Sometime begun seen (λ h. right.Justifies (shape n laps) h (right.take_answer why))
IsRight n laps begun seen (AnswerClose true) = Unit {0}
IsRight n laps begun seen (AnswerClose false) = right.Sometime begun seen (λ h. right.Justifies (shape n laps) h right.NotClosed)
IsRight n laps begun seen (AnswerShut true) = Unit {0}
IsRight n laps begun seen (AnswerShut false) = right.Sometime begun seen (λ h. right.Justifies (shape n laps) h right.NotShut)
IsRight n laps begun seen (AnswerLook empty) = right.Sometime begun seen (λ h. right.Justifies (shape n laps) h (right.Looked empty))
IsRight n laps begun seen (AnswerLen k) = right.Sometime begun seen (λ h. right.Justifies (shape n laps) h (right.Counted k))
IsRight n laps begun seen (AnswerGauge closed used) = right.Sometime begun seen (IsGauged n laps closed used)
