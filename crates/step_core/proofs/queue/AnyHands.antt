-- A linearization of the queue's calls is one with any hands.
use Rattle.std.proofs.Common.{ℕ, List, Err}
use Rattle.bounded_model.specs.declared.history.Event.{Event}
use Rattle.bounded_model.specs.declared.answers.PutRefused.TheVariants.{Full}
use Rattle.queue_machine.specs.declared.lines.Answer.{Answer}
use Rattle.queue_machine.specs.declared.lines.Answer.TheVariants.{Put as AnswerPut}
use Rattle.queue_machine.specs.declared.lines.Call.{Call}
use Rattle.queue_machine.specs.declared.lines.Call.TheVariants.{Put as CallPut}
use Rattle.step_core.specs.Linearizable.{Entry, IsLinearization, IsLinearizationWithAnyHands}
use Rattle.step_core.specs.queue.Object.{IsSaid, IsSaidWithAnyHands, object, object_with_any_hands}
use Rattle.step_core.proofs.InTime.{with_any_hands as any_hands}

module _ {T : Type 0} (n limit : ℕ) where
  said : (p : ℕ) (h : List (Event T)) (call : Call T) (a : Answer T) → IsSaid n limit p h call a → IsSaidWithAnyHands n limit h call a
  said p h (CallPut v) (AnswerPut (Err (Full u))) is = (is.0, is.1)
  said p h call a is = is

  pub with_any_hands : (course : List (Entry T (Call T) (Answer T))) → IsLinearization (object n limit) course → IsLinearizationWithAnyHands (object_with_any_hands n limit) course
  with_any_hands course r = any_hands (object n limit) (object_with_any_hands n limit).reads (λ k h. said k.by h k.call k.answer) course r
