-- Why those of specs/ring/WrongRuns are refused.
use Rattle.std.proofs.Common.{◌≡◌, ◌≤◌, ℕ, ◌+◌, ◌*◌, List, [], ◌∷◌, Some, None, Ok, Err, refl, sym, subst, ⊎_elim, inl, arith}
use mathlib.Core.Option.{none, some}
use Rattle.bounded_model.specs.declared.answers.TakeRefused.TheVariants.{Empty}
use Rattle.bounded_model.specs.declared.history.Event.{Event}
use Rattle.bounded_model.specs.declared.history.Event.TheVariants.{Hold, Put, Take, Free}
use Rattle.bounded_model.specs.Histories.{Among}
use Rattle.machine.specs.Bound.{own_steps}
use Rattle.machine.specs.Progress.{LockFree, steps_made, calls_ended, others_win}
use Rattle.machine.specs.Schedule.{after}
use Rattle.ring_machine.specs.declared.lines.Answer.{Answer}
use Rattle.ring_machine.specs.declared.lines.Answer.TheVariants.{Put as AnswerPut, Take as AnswerTake}
use Rattle.ring_machine.specs.declared.lines.Call.{Call}
use Rattle.ring_machine.specs.declared.lines.Call.TheVariants.{Put as CallPut, Take as CallTake}
use Rattle.ring_machine.specs.declared.lines.Line.TheVariants.{Idle}
use Rattle.ring_machine.specs.Machine.{Pass, ends}
use Rattle.ring_machine.specs.Answers.{shape, state}
use Rattle.step_core.specs.Linearizable.{LinearizableWithAnyHands, Responds}
use Rattle.step_core.specs.ring.Object.{object_with_any_hands, answer}
use Rattle.step_core.proofs.Heard.{Right, none_heard, stale, at_once}
use Rattle.step_core.specs.ring.Law.{Lawful, NoneUnanswered}
use Rattle.step_core.specs.ring.Cast.{ring_with}
use Rattle.step_core.specs.ring.WrongRuns.{ends_where_it_lost, lost_take, is_always_empty, stale_take, spoils_where_it_lost, both_have_read, starving, in_turn}

abbrev one_value : List (Event ℕ)
one_value = Put 1 (10 ∷ []) 0 ∷ Hold 1 ∷ []

abbrev has_lost : Pass ℕ
has_lost = record { line = Idle 1 None; call = some CallTake; begun = one_value; seen = Free 2 1 ∷ Take 2 10 0 ∷ one_value }

pub lost_take-unanswered : ¬ NoneUnanswered (after (ring_with ends_where_it_lost (shape 1 1)) 3 lost_take)
lost_take-unanswered all = let a = all 0 has_lost CallTake refl refl refl in let no : Idle 1 None ≡ Idle a.0 (Some a.1) = a.2 in cc

pub lost_take-not_linearizable : ¬ LinearizableWithAnyHands (ring_with ends_where_it_lost (shape 1 1)) answer (object_with_any_hands 1 1) 3 lost_take
lost_take-not_linearizable l = none_heard (object_with_any_hands 1 1) 0 l.course l.right (subst (Among (Responds 0 none)) (sym l.same_calls) (inl refl))

abbrev no_value : Answer ℕ
no_value = AnswerTake (Err Empty)

abbrev put_done : Answer ℕ
put_done = AnswerPut (Ok 0)

pub stale_take-unlawful : ¬ Lawful ℕ 1 1 3 (after (ring_with is_always_empty (shape 1 1)) 2 stale_take)
stale_take-unlawful law =
    let right = at_once one_value _ (law.answered 0 (record { line = ends 1 no_value; call = some CallTake; begun = one_value; seen = one_value }) 1 no_value refl refl) in
    let no : ◌≡◌ {A = List ℕ} (10 ∷ []) [] = right.0 in
    cc

pub stale_take-not_linearizable : ¬ LinearizableWithAnyHands (ring_with is_always_empty (shape 1 1)) answer (object_with_any_hands 1 1) 2 stale_take
stale_take-not_linearizable l = stale (object_with_any_hands 1 1) 10 no_value put_done refl is_empty was_put CallTake (CallPut 10) l.course l.right l.same_calls l.same_history
  where
    is_empty : (p : ℕ) (call : Call ℕ) (newer older : List (Event ℕ)) → Right (object_with_any_hands 1 1) p call no_value newer older → (state 1 1 older).values ≡ []
    is_empty p (CallPut v) newer older r = absurd (⊎_elim (λ s. s) (λ m. m.1.0) r)
    is_empty p CallTake newer older r = ⊎_elim (λ s. s.0) (λ m. absurd m.1.0) r
    is_empty p call newer older r = absurd (⊎_elim (λ s. s) (λ m. m.1.0) r)

    was_put : (p : ℕ) (call : Call ℕ) (newer older : List (Event ℕ)) → Right (object_with_any_hands 1 1) p call put_done newer older → (vs : List ℕ) × Among (Put p vs 0) newer
    was_put p (CallPut v) newer older r = ⊎_elim (λ s. absurd s) (λ m. (v ∷ [], subst (λ (e : Event ℕ). Among e newer) m.1.0 m.1.1)) r
    was_put p call newer older r = absurd (⊎_elim (λ s. s) (λ m. m.1.0) r)

pub starving-not_lock_free : ¬ LockFree (ring_with spoils_where_it_lost (shape 1 1)) 2 ((31 + 24 * 1) * 2)
starving-not_lock_free free =
    let made : steps_made (ring_with spoils_where_it_lost (shape 1 1)) (in_turn 28) starving ≡ 112 = refl in
    let ended : calls_ended (ring_with spoils_where_it_lost (shape 1 1)) (in_turn 28) starving ≡ 0 = refl in
    absurd (omega (arith, ended, free both_have_read (in_turn 28) (omega (arith, made))))

pub starving-not_unhindered :
    (let machine = ring_with spoils_where_it_lost (shape 1 1) in ¬ (own_steps machine 0 (in_turn 16) starving ≤ 31 + 18 * others_win machine 0 (in_turn 16) starving))
starving-not_unhindered few =
    let made : own_steps (ring_with spoils_where_it_lost (shape 1 1)) 0 (in_turn 16) starving ≡ 32 = refl in
    let won : others_win (ring_with spoils_where_it_lost (shape 1 1)) 0 (in_turn 16) starving ≡ 0 = refl in
    absurd (omega (arith, few, made, won))
