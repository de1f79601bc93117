-- The sequential specification of the bounded stack (Herlihy and Wing 1990), by calls and answers.
use Rattle.std.specs.Prelude.{◌≡◌, ℕ, suc, true, false, List, ◌∷◌, ◌++◌, length, Some, Ok, Err}
use mathlib.Core.Option.{Option, none, some}
use Rattle.bounded_model.specs.declared.answers.PutRefused.{PutRefused}
use Rattle.bounded_model.specs.declared.answers.PutRefused.TheVariants.{Full}
use Rattle.bounded_model.specs.declared.history.Event.{Event}
use Rattle.bounded_model.specs.declared.history.Event.TheVariants.{Put, Take, TakeAll, Close, Shut}
use Rattle.bounded_model.specs.Justified as right
use Rattle.stack_machine.specs.declared.lines.Direction.{Direction}
use Rattle.stack_machine.specs.declared.lines.Taking.TheVariants.{One, Whole}
use Rattle.stack_machine.specs.declared.lines.Call.{Call}
use Rattle.stack_machine.specs.declared.lines.Call.TheVariants.{Put as CallPut, Take as CallTake, Close as CallClose, Shut as CallShut, Look as CallLook, Gauge as CallGauge}
use Rattle.stack_machine.specs.declared.lines.Answer.{Answer}
use Rattle.stack_machine.specs.declared.lines.Answer.TheVariants.{Put as AnswerPut, Take as AnswerTake, Fold as AnswerFold, Close as AnswerClose, Shut as AnswerShut, Look as AnswerLook, Gauge as AnswerGauge}
use Rattle.stack_machine.specs.declared.lines.Line.{Line}
use Rattle.stack_machine.specs.declared.lines.Line.TheVariants.{Idle}
use Rattle.stack_machine.specs.Answers.{shape, state, refusal, IsGauged}
use Rattle.stack_machine.specs.Deeds.{in_order, handed_back}
use Rattle.step_core.specs.Linearizable.{Object, Entry, Reads}

module _ {T : Type 0} where
  -- pass p puts values in one step, the first of those that it was to put, and leaves over those after them
  pub record PutsFirst (p : ℕ) (wanted : List T) (n : ℕ) (left : List T) (e : Event T) : Type 0 where
    pub values : List T
    pub all : values ++ left ≡ wanted
    pub is : e ≡ Put p values n

  -- pass p takes all values at once, and folds them in this direction
  pub record FoldsAll (p : ℕ) (d : Direction) (n : ℕ) (folded : List T) (e : Event T) : Type 0 where
    pub values : List T
    pub is : e ≡ TakeAll p values n
    pub order : folded ≡ in_order d values

  -- an operation that updates the stack makes this event
  abbrev pub Makes : ℕ → Call T → Answer T → Event T → Type 0
  Makes p (CallPut v vs) (AnswerPut (Ok r)) e = PutsFirst p (v ∷ vs) r.0 r.1 e
  Makes p (CallTake One) (AnswerTake (Ok r)) e = e ≡ Take p r.0 r.1
  Makes p (CallTake (Whole d)) (AnswerFold (Ok r)) e = FoldsAll p d r.1 r.0 e
  Makes p CallClose (AnswerClose true) e = e ≡ Close p
  Makes p CallShut (AnswerShut true) e = e ≡ Shut p
  Makes p call a e = ⊥

  -- how many nodes a pass may have in hand during a call on a stack of n nodes: a put of several values takes a node for each, and a fold has
  -- those of all values
  abbrev pub most : ℕ → Call T → ℕ
  most n (CallPut v vs) = suc (length vs)
  most n (CallTake One) = 1
  most n (CallTake (Whole d)) = n
  most n call = 0

  -- a put that is refused as full has no node itself: each node holds a value or is in another pass's hand
  abbrev pub HoldsNone : ℕ → ℕ → ℕ → List (Event T) → PutRefused (List T) → Type 0
  HoldsNone n limit p h (Full values) = (state n limit h).hand p ≡ 0
  HoldsNone n limit p h why = Unit {0}

  -- an operation that reads the stack: the answer is right in the state at the end of this history, which does not change. A refused put
  -- hands its values back
  abbrev pub IsSaidWithAnyHands : ℕ → ℕ → List (Event T) → Call T → Answer T → Type 0
  IsSaidWithAnyHands n limit h (CallPut v vs) (AnswerPut (Err why)) = (handed_back why ≡ v ∷ vs) × right.Justifies (shape n limit) h (refusal why)
  IsSaidWithAnyHands n limit h (CallTake One) (AnswerTake (Err why)) = right.Justifies (shape n limit) h (right.take_answer why)
  IsSaidWithAnyHands n limit h (CallTake (Whole d)) (AnswerFold (Err why)) = right.Justifies (shape n limit) h (right.take_answer why)
  IsSaidWithAnyHands n limit h CallClose (AnswerClose false) = right.Justifies (shape n limit) h right.NotClosed
  IsSaidWithAnyHands n limit h CallShut (AnswerShut false) = right.Justifies (shape n limit) h right.NotShut
  IsSaidWithAnyHands n limit h CallLook (AnswerLook empty) = right.Justifies (shape n limit) h (right.Looked empty)
  IsSaidWithAnyHands n limit h CallGauge (AnswerGauge closed used) = IsGauged n limit closed used h
  IsSaidWithAnyHands n limit h call a = ⊥

  -- the same by pass p, whose put has no node itself if it is refused as full
  abbrev pub IsSaid : ℕ → ℕ → ℕ → List (Event T) → Call T → Answer T → Type 0
  IsSaid n limit p h (CallPut v vs) (AnswerPut (Err why)) = (handed_back why ≡ v ∷ vs) × right.Justifies (shape n limit) h (refusal why) × HoldsNone n limit p h why
  IsSaid n limit p h call a = IsSaidWithAnyHands n limit h call a

  -- the stack of n nodes
  abbrev pub object : ℕ → ℕ → Object T (Call T) (Answer T)
  object n limit = record {
    shape = shape n limit;
    most = most n;
    updates = λ k e. Makes k.by k.call k.answer e;
    reads = λ k h. IsSaid n limit k.by h k.call k.answer;
  }

  -- the same for `IsLinearizationWithAnyHands`: a put may be refused as full though it has a node itself
  abbrev pub object_with_any_hands : ℕ → ℕ → Object T (Call T) (Answer T)
  object_with_any_hands n limit = record (object n limit) { reads = λ k h. IsSaidWithAnyHands n limit h k.call k.answer }

  -- the point of a put of v and vs by pass p that is refused as full
  abbrev pub full_put : ℕ → T → List T → List T → Entry T (Call T) (Answer T)
  full_put p v vs us = Reads (record { by = p; call = CallPut v vs; answer = AnswerPut (Err (Full us)) })

  -- the answer in the response of a pass at a line
  abbrev pub answer : Line T → Option (Answer T)
  answer (Idle (Some a)) = some a
  answer l = none
