-- The sequential specification of the bounded queue, as the ring is one (Herlihy and Wing 1990), by calls and answers.
use Rattle.std.specs.Prelude.{◌≡◌, ℕ, true, false, List, [], ◌∷◌, Some, Ok, Err}
use mathlib.Core.Option.{Option, none, some}
use Rattle.bounded_model.specs.declared.history.Event.{Event}
use Rattle.bounded_model.specs.declared.history.Event.TheVariants.{Put, Take, Close, Shut}
use Rattle.bounded_model.specs.declared.answers.PutRefused.TheVariants.{Full, Closed, Spent}
use Rattle.bounded_model.specs.Justified as right
use Rattle.ring_machine.specs.declared.lines.Call.{Call}
use Rattle.ring_machine.specs.declared.lines.Call.TheVariants.{Put as CallPut, Take as CallTake, Close as CallClose, Shut as CallShut, Look as CallLook, Len as CallLen, Gauge as CallGauge}
use Rattle.ring_machine.specs.declared.lines.Answer.{Answer}
use Rattle.ring_machine.specs.declared.lines.Answer.TheVariants.{Put as AnswerPut, Take as AnswerTake, Close as AnswerClose, Shut as AnswerShut, Look as AnswerLook, Len as AnswerLen, Gauge as AnswerGauge}
use Rattle.ring_machine.specs.declared.lines.Line.{Line}
use Rattle.ring_machine.specs.declared.lines.Line.TheVariants.{Idle}
use Rattle.ring_machine.specs.Answers.{shape, state, IsFullNow, IsGauged, IsSpentNow}
use Rattle.step_core.specs.Linearizable.{Object, Entry, Reads}

module _ {T : Type 0} where
  -- an operation that updates the ring makes this event
  abbrev pub Makes : ℕ → Call T → Answer T → Event T → Type 0
  Makes p (CallPut v) (AnswerPut (Ok n)) e = e ≡ Put p (v ∷ []) n
  Makes p CallTake (AnswerTake (Ok r)) e = e ≡ Take p r.0 r.1
  Makes p CallClose (AnswerClose true) e = e ≡ Close p
  Makes p CallShut (AnswerShut true) e = e ≡ Shut p
  Makes p call a e = ⊥

  -- how many cells a pass may have in hand during a call
  abbrev pub most : Call T → ℕ
  most (CallPut v) = 1
  most CallTake = 1
  most call = 0

  -- an operation that reads the ring: the answer is right in the state at the end of this history, which does not change. A refused put
  -- hands its value back
  abbrev pub IsSaidWithAnyHands : ℕ → ℕ → List (Event T) → Call T → Answer T → Type 0
  IsSaidWithAnyHands n laps h (CallPut v) (AnswerPut (Err (Full u))) = (u ≡ v) × IsFullNow n laps h
  IsSaidWithAnyHands n laps h (CallPut v) (AnswerPut (Err (Closed u))) = (u ≡ v) × right.Justifies (shape n laps) h right.PutClosed
  IsSaidWithAnyHands n laps h (CallPut v) (AnswerPut (Err (Spent u word t))) = (u ≡ v) × IsSpentNow n laps word t h
  IsSaidWithAnyHands n laps h CallTake (AnswerTake (Err why)) = right.Justifies (shape n laps) h (right.take_answer why)
  IsSaidWithAnyHands n laps h CallClose (AnswerClose false) = right.Justifies (shape n laps) h right.NotClosed
  IsSaidWithAnyHands n laps h CallShut (AnswerShut false) = right.Justifies (shape n laps) h right.NotShut
  IsSaidWithAnyHands n laps h CallLook (AnswerLook empty) = right.Justifies (shape n laps) h (right.Looked empty)
  IsSaidWithAnyHands n laps h CallLen (AnswerLen k) = right.Justifies (shape n laps) h (right.Counted k)
  IsSaidWithAnyHands n laps h CallGauge (AnswerGauge closed used) = IsGauged n laps closed used h
  IsSaidWithAnyHands n laps h call a = ⊥

  -- the same by pass p, whose put has no cell itself if it is refused as full
  abbrev pub IsSaid : ℕ → ℕ → ℕ → List (Event T) → Call T → Answer T → Type 0
  IsSaid n laps p h (CallPut v) (AnswerPut (Err (Full u))) = (u ≡ v) × IsFullNow n laps h × ((state n laps h).hand p ≡ 0)
  IsSaid n laps p h call a = IsSaidWithAnyHands n laps h call a

  -- the ring of n slots
  abbrev pub object : ℕ → ℕ → Object T (Call T) (Answer T)
  object n laps = record {
    shape = shape n laps;
    most = most;
    updates = λ k e. Makes k.by k.call k.answer e;
    reads = λ k h. IsSaid n laps k.by h k.call k.answer;
  }

  -- the same for `IsLinearizationWithAnyHands`: a put may be refused as full though it has a cell itself
  abbrev pub object_with_any_hands : ℕ → ℕ → Object T (Call T) (Answer T)
  object_with_any_hands n laps = record (object n laps) { reads = λ k h. IsSaidWithAnyHands n laps h k.call k.answer }

  -- the point of a put of v by pass p that is refused as full
  abbrev pub full_put : ℕ → T → T → Entry T (Call T) (Answer T)
  full_put p v u = Reads (record { by = p; call = CallPut v; answer = AnswerPut (Err (Full u)) })

  -- the answer in the response of a pass at a line
  abbrev pub answer : Line T → Option (Answer T)
  answer (Idle c (Some a)) = some a
  answer l = none
