-- Why those of specs/stack/WrongAnswers are refused.
use Rattle.std.proofs.Common.{◌≡◌, ℕ, true, List, reverse, [], ◌∷◌, length, Ok, refl, sym, ap, ◌∙◌, append-nil, arith}
use mathlib.Core.Option.{some}
use Rattle.bounded_model.specs.declared.history.Event.{Event}
use Rattle.bounded_model.specs.declared.history.Event.TheVariants.{Hold, Put, Take, TakeAll, Free, Close}
use Rattle.bounded_model.specs.Histories.{own}
use Rattle.bounded_model.specs.Laws.{holds_of}
use Rattle.stack_machine.specs.declared.lines.Direction.TheVariants.{Down, Up}
use Rattle.stack_machine.specs.declared.lines.Taking.TheVariants.{Whole}
use Rattle.stack_machine.specs.declared.lines.Answer.{Answer}
use Rattle.stack_machine.specs.declared.lines.Answer.TheVariants.{Put as AnswerPut, Take as AnswerTake, Fold as AnswerFold, Close as AnswerClose}
use Rattle.stack_machine.specs.declared.lines.Call.{Call}
use Rattle.stack_machine.specs.declared.lines.Call.TheVariants.{Take as CallTake, Shut as CallShut}
use Rattle.stack_machine.specs.Answers.{shape}
use Rattle.stack_machine.specs.Deeds.{PutAtOnce, FoldedAll, Makes}
use Rattle.stack_machine.specs.Machine.{Pass, ends}
use Rattle.step_core.proofs.Heard.{own_made}
use Rattle.step_core.specs.stack.Law.{HasAnswered, AllDone}
use Rattle.step_core.specs.stack.WrongAnswers.{put_only_the_first, shut_as_a_close, fold_as_a_take, fold_without_a_turn, value_between, two_values}

made : (v : Pass ℕ) (a : Answer ℕ) (call : Call ℕ) → v.call ≡ some call → own 0 v.begun ≡ [] → HasAnswered (shape 3 15) 0 v a → Makes 0 call a (own 0 v.seen)
made v a call of new h = own_made (λ c mine. Makes 0 c a mine) call h.call v.begun v.seen h.done.between (sym h.of ∙ of) new h.done.is h.done.made

abbrev has_put_one : Pass ℕ
has_put_one = record { line = ends (AnswerPut (Ok (0, []))); call = some two_values; begun = []; seen = Put 0 (10 ∷ []) 0 ∷ Hold 0 ∷ [] }

pub put_only_the_first-unlawful : ¬ AllDone (shape 3 15) put_only_the_first
put_only_the_first-unlawful done =
    let at_once : PutAtOnce 0 (10 ∷ 11 ∷ []) 0 [] (Put 0 (10 ∷ []) 0 ∷ Hold 0 ∷ []) = made has_put_one (AnswerPut (Ok (0, []))) two_values refl refl (done 0 has_put_one (AnswerPut (Ok (0, []))) refl refl) in
    one at_once.values at_once.is (sym (append-nil at_once.values) ∙ at_once.all)
  where
    one : (vs : List ℕ) → ◌≡◌ {A = List (Event ℕ)} (Put 0 (10 ∷ []) 0 ∷ Hold 0 ∷ []) (Put 0 vs 0 ∷ holds_of 0 (length vs)) → vs ≡ 10 ∷ 11 ∷ [] → ⊥
    one [] e is = cc
    one (v ∷ []) e is = cc
    one (v ∷ x ∷ vs) e is = cc

abbrev has_closed : Pass ℕ
has_closed = record { line = ends (AnswerClose true); call = some CallShut; begun = []; seen = Close 0 ∷ [] }

pub shut_as_a_close-unlawful : ¬ AllDone (shape 3 15) shut_as_a_close
shut_as_a_close-unlawful done = made has_closed (AnswerClose true) CallShut refl refl (done 0 has_closed (AnswerClose true) refl refl)

abbrev took_one : Answer ℕ
took_one = AnswerTake (Ok (20, 1))

abbrev has_taken : Pass ℕ
has_taken = record { line = ends took_one; call = some (CallTake (Whole Down)); begun = Put 1 (20 ∷ []) 0 ∷ Hold 1 ∷ []; seen = Free 0 1 ∷ Take 0 20 1 ∷ Put 1 (20 ∷ []) 0 ∷ Hold 1 ∷ [] }

pub fold_as_a_take-unlawful : ¬ AllDone (shape 3 15) fold_as_a_take
fold_as_a_take-unlawful done = made has_taken took_one (CallTake (Whole Down)) refl refl (done 0 has_taken took_one refl refl)

abbrev wrong_order : Answer ℕ
wrong_order = AnswerFold (Ok (21 ∷ 20 ∷ [], 1))

abbrev has_folded : Pass ℕ
has_folded = record { line = ends wrong_order; call = some (CallTake (Whole Up)); begun = Put 1 (20 ∷ 21 ∷ []) 0 ∷ Hold 1 ∷ Hold 1 ∷ []; seen = Free 0 2 ∷ TakeAll 0 (21 ∷ 20 ∷ []) 1 ∷ Put 1 (20 ∷ 21 ∷ []) 0 ∷ Hold 1 ∷ Hold 1 ∷ [] }

abbrev front : List ℕ → ℕ
front [] = 0
front (v ∷ vs) = v

-- the values of the take of all among these events
abbrev taken : List (Event ℕ) → List ℕ
taken [] = []
taken (TakeAll p vs k ∷ events) = vs
taken (e ∷ events) = taken events

pub fold_without_a_turn-unlawful : ¬ AllDone (shape 3 15) fold_without_a_turn
fold_without_a_turn-unlawful done =
    let all : FoldedAll 0 Up 1 (21 ∷ 20 ∷ []) (Free 0 2 ∷ TakeAll 0 (21 ∷ 20 ∷ []) 1 ∷ []) = made has_folded wrong_order (CallTake (Whole Up)) refl refl (done 0 has_folded wrong_order refl refl) in
    let is : 21 ∷ 20 ∷ [] ≡ all.values = ap taken all.is in
    let turned : 21 ∷ 20 ∷ [] ≡ reverse (21 ∷ 20 ∷ []) = all.order ∙ ap reverse (sym is) in
    absurd (omega (arith, ap front turned))

abbrev between_events : List (Event ℕ)
between_events = Put 0 (11 ∷ []) 2 ∷ Hold 0 ∷ Put 1 (20 ∷ []) 1 ∷ Hold 1 ∷ Put 0 (10 ∷ []) 0 ∷ Hold 0 ∷ []

abbrev has_put_range : Pass ℕ
has_put_range = record { line = ends (AnswerPut (Ok (2, []))); call = some two_values; begun = []; seen = between_events }

pub value_between-unlawful : ¬ AllDone (shape 3 15) value_between
value_between-unlawful done = at_once (made has_put_range (AnswerPut (Ok (2, []))) two_values refl refl (done 0 has_put_range (AnswerPut (Ok (2, []))) refl refl))
  where
    -- the pass's own events are two puts
    at_once : PutAtOnce {T = ℕ} 0 (10 ∷ 11 ∷ []) 2 [] (Put 0 (11 ∷ []) 2 ∷ Hold 0 ∷ Put 0 (10 ∷ []) 0 ∷ Hold 0 ∷ []) → ⊥
    at_once made = one made.values made.is
      where
        one : (vs : List ℕ) → ◌≡◌ {A = List (Event ℕ)} (Put 0 (11 ∷ []) 2 ∷ Hold 0 ∷ Put 0 (10 ∷ []) 0 ∷ Hold 0 ∷ []) (Put 0 vs 2 ∷ holds_of 0 (length vs)) → ⊥
        one [] e = cc
        one (v ∷ []) e = cc
        one (v ∷ x ∷ vs) e = cc
