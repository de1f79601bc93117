-- Why those of specs/queue/WrongRuns are refused.
use Rattle.std.proofs.Common.{◌≡◌, ℕ, List, [], ◌∷◌, length, None, Some, Ok, Err, refl, sym, ap, subst, ⊎_elim, inl, inr, arith, ◌+◌, ◌*◌, ◌≤◌}
use mathlib.Core.Option.{none, some}
use Rattle.bounded_model.specs.declared.answers.PutRefused.TheVariants.{Full}
use Rattle.bounded_model.specs.declared.answers.TakeRefused.TheVariants.{Empty}
use Rattle.bounded_model.specs.declared.history.Event.{Event}
use Rattle.bounded_model.specs.declared.history.Event.TheVariants.{Hold, Put, Take}
use Rattle.bounded_model.specs.Gathers.{gather, put_of}
use Rattle.bounded_model.specs.Histories.{Among}
use Rattle.machine.specs.Schedule.{after}
use Rattle.queue_machine.specs.declared.lines.Answer.{Answer}
use Rattle.queue_machine.specs.declared.lines.Answer.TheVariants.{Put as AnswerPut, Take as AnswerTake}
use Rattle.queue_machine.specs.declared.lines.Call.{Call}
use Rattle.queue_machine.specs.declared.lines.Call.TheVariants.{Put as CallPut, Take as CallTake}
use Rattle.queue_machine.specs.declared.lines.Line.TheVariants.{Idle}
use Rattle.queue_machine.specs.Machine.{Pass, queue, ends}
use Rattle.queue_machine.specs.Answers.{shape, state}
use Rattle.step_core.specs.Linearizable.{LinearizableWithAnyHands, Responds}
use Rattle.step_core.specs.queue.Object.{Makes, object_with_any_hands, answer}
use Rattle.step_core.proofs.Heard.{Right, none_heard, heard_of_none, stale, at_once}
use Rattle.step_core.specs.queue.Law.{Lawful, NoneUnanswered}
use Rattle.step_core.specs.queue.Cast.{queue_with}
use Rattle.step_core.specs.queue.WrongRuns.{ends_where_it_lost, lost_take, is_always_empty, stale_take, plain_object, full_of_hands, spoils_where_it_lost, both_have_read, starving, in_turn}
use Rattle.machine.specs.Bound.{own_steps}
use Rattle.machine.specs.Progress.{LockFree, steps_made, calls_ended, others_win}

abbrev has_lost : Pass ℕ
has_lost = record { line = Idle None; call = some CallTake; begun = Put 1 (10 ∷ []) 0 ∷ Hold 1 ∷ []; seen = Take 2 10 0 ∷ Put 1 (10 ∷ []) 0 ∷ Hold 1 ∷ [] }

pub lost_take-unanswered : ¬ NoneUnanswered (after (queue_with ends_where_it_lost (shape 1 15)) 3 lost_take)
lost_take-unanswered all = let a = all 0 has_lost CallTake refl refl refl in let no : Idle None ≡ Idle (Some a.0) = a.1 in cc

pub lost_take-not_linearizable : ¬ LinearizableWithAnyHands (queue_with ends_where_it_lost (shape 1 15)) answer (object_with_any_hands 1 15) 3 lost_take
lost_take-not_linearizable l = none_heard (object_with_any_hands 1 15) 0 l.course l.right (subst (Among (Responds 0 none)) (sym l.same_calls) (inl refl))

abbrev no_value : Answer ℕ
no_value = AnswerTake (Err Empty)

abbrev put_done : Answer ℕ
put_done = AnswerPut (Ok 0)

abbrev one_value : List (Event ℕ)
one_value = Put 1 (10 ∷ []) 0 ∷ Hold 1 ∷ []

pub stale_take-unlawful : ¬ Lawful ℕ 1 15 (after (queue_with is_always_empty (shape 1 15)) 2 stale_take)
stale_take-unlawful law =
    let right = at_once one_value _ (law.answered 0 (record { line = ends no_value; call = some CallTake; begun = one_value; seen = one_value }) no_value refl refl) in
    let no : ◌≡◌ {A = List ℕ} (10 ∷ []) [] = right.0 in
    cc

pub stale_take-not_linearizable : ¬ LinearizableWithAnyHands (queue_with is_always_empty (shape 1 15)) answer (object_with_any_hands 1 15) 2 stale_take
stale_take-not_linearizable l = stale (object_with_any_hands 1 15) 10 no_value put_done refl is_empty was_put CallTake (CallPut 10) l.course l.right l.same_calls l.same_history
  where
    is_empty : (p : ℕ) (call : Call ℕ) (newer older : List (Event ℕ)) → Right (object_with_any_hands 1 15) p call no_value newer older → (state 1 15 older).values ≡ []
    is_empty p (CallPut v) newer older r = absurd (⊎_elim (λ s. s) (λ m. m.1.0) r)
    is_empty p CallTake newer older r = ⊎_elim (λ s. s.0) (λ m. absurd m.1.0) r
    is_empty p call newer older r = absurd (⊎_elim (λ s. s) (λ m. m.1.0) r)

    was_put : (p : ℕ) (call : Call ℕ) (newer older : List (Event ℕ)) → Right (object_with_any_hands 1 15) p call put_done newer older → (vs : List ℕ) × Among (Put p vs 0) newer
    was_put p (CallPut v) newer older r = ⊎_elim (λ s. absurd s) (λ m. (v ∷ [], subst (λ (e : Event ℕ). Among e newer) m.1.0 m.1.1)) r
    was_put p call newer older r = absurd (⊎_elim (λ s. s) (λ m. m.1.0) r)

abbrev put_full : Answer ℕ
put_full = AnswerPut (Err (Full 10))

pub full_of_hands-not_plain : ¬ LinearizableWithAnyHands (queue (shape 1 15)) answer plain_object 3 full_of_hands
full_of_hands-not_plain l =
    let x = heard_of_none plain_object 0 put_full l.course l.right (subst (Among (Responds 0 (some put_full))) (sym l.same_calls) (inr (inr (inr (inl refl))))) (ap (gather put_of) l.same_history) in
    ⊎_elim (λ r. absurd (omega (arith, r.1, ap length x.5))) (λ r. no_event x.0 x.1 r.0 r.1.0) x.4
  where
    -- a refusal makes no event
    no_event : (p : ℕ) (call : Call ℕ) (e : Event ℕ) → Makes p call put_full e → ⊥
    no_event p (CallPut v) e m = m
    no_event p call e m = m

pub starving-not_lock_free : ¬ LockFree (queue_with spoils_where_it_lost (shape 1 15)) 2 ((20 + 14 * 1) * 2)
starving-not_lock_free free =
    let made : steps_made (queue_with spoils_where_it_lost (shape 1 15)) in_turn starving ≡ 72 = refl in
    let ended : calls_ended (queue_with spoils_where_it_lost (shape 1 15)) in_turn starving ≡ 0 = refl in
    absurd (omega (arith, ended, free both_have_read in_turn (omega (arith, made))))

pub starving-not_unhindered :
    (let machine = queue_with spoils_where_it_lost (shape 1 15) in ¬ (own_steps machine 0 in_turn starving ≤ 20 + 8 * others_win machine 0 in_turn starving))
starving-not_unhindered few =
    let made : own_steps (queue_with spoils_where_it_lost (shape 1 15)) 0 in_turn starving ≡ 36 = refl in
    let won : others_win (queue_with spoils_where_it_lost (shape 1 15)) 0 in_turn starving ≡ 0 = refl in
    absurd (omega (arith, few, made, won))
