-- Why those of specs/queue/WrongAnswers are refused.
use Rattle.std.proofs.Common.{◌≡◌, ℕ, true, List, length, ⊎_elim, [], ◌∷◌, Ok, Err, refl, sym, ap, ◌∙◌, arith}
use mathlib.Core.Option.{some}
use Rattle.bounded_model.specs.declared.answers.PutRefused.TheVariants.{Closed}
use Rattle.bounded_model.specs.declared.history.Event.{Event}
use Rattle.bounded_model.specs.declared.history.Event.TheVariants.{Hold, Put, Close}
use Rattle.bounded_model.specs.Histories.{own}
use Rattle.queue_machine.specs.declared.lines.Answer.{Answer}
use Rattle.queue_machine.specs.declared.lines.Answer.TheVariants.{Put as AnswerPut, Close as AnswerClose}
use Rattle.queue_machine.specs.declared.lines.Call.{Call}
use Rattle.queue_machine.specs.declared.lines.Call.TheVariants.{Put as CallPut, Shut as CallShut}
use Rattle.queue_machine.specs.Machine.{Pass, ends}
use Rattle.queue_machine.specs.Deeds.{Makes}
use Rattle.step_core.proofs.Heard.{own_made}
use Rattle.step_core.specs.queue.Law.{HasAnswered, AllDone}
use Rattle.step_core.specs.queue.WrongAnswers.{put_another, handed_back, kept_cell, closed_instead}

made : (v : Pass ℕ) (a : Answer ℕ) (call : Call ℕ) → v.call ≡ some call → own 0 v.begun ≡ [] → HasAnswered 0 v a → Makes 0 call a (own 0 v.seen)
made v a call of new h = own_made (λ c mine. Makes 0 c a mine) call h.call v.begun v.seen h.done.between (sym h.of ∙ of) new h.done.is h.done.made

abbrev put_done : Answer ℕ
put_done = AnswerPut (Ok 0)

abbrev has_put_another : Pass ℕ
has_put_another = record { line = ends put_done; call = some (CallPut 10); begun = []; seen = Put 0 (11 ∷ []) 0 ∷ Hold 0 ∷ [] }

-- the value of the put among these events
abbrev value_put : List (Event ℕ) → ℕ
value_put [] = 0
value_put (Put p (v ∷ vs) k ∷ events) = v
value_put (e ∷ events) = value_put events

pub put_another-unlawful : ¬ AllDone put_another
put_another-unlawful done =
    let same_value : 11 ≡ 10 = ap value_put (made has_put_another put_done (CallPut 10) refl refl (done 0 has_put_another put_done refl refl)) in
    absurd (omega (arith, same_value))

abbrev put_refused : Answer ℕ
put_refused = AnswerPut (Err (Closed 11))

abbrev was_refused : Pass ℕ
was_refused = record { line = ends put_refused; call = some (CallPut 10); begun = Close 2 ∷ Hold 1 ∷ []; seen = Close 2 ∷ Hold 1 ∷ [] }

pub handed_back-unlawful : ¬ AllDone handed_back
handed_back-unlawful done = absurd (omega (arith, (made was_refused put_refused (CallPut 10) refl refl (done 0 was_refused put_refused refl refl)).0))

abbrev put_closed : Answer ℕ
put_closed = AnswerPut (Err (Closed 10))

abbrev has_kept : Pass ℕ
has_kept = record { line = ends put_closed; call = some (CallPut 10); begun = Close 1 ∷ []; seen = Hold 0 ∷ Close 1 ∷ [] }

pub kept_cell-unlawful : ¬ AllDone kept_cell
kept_cell-unlawful done = ⊎_elim (λ e. absurd (omega (arith, ap length e))) (λ e. absurd (omega (arith, ap length e))) (made has_kept put_closed (CallPut 10) refl refl (done 0 has_kept put_closed refl refl)).1

abbrev closed_it : Answer ℕ
closed_it = AnswerClose true

abbrev has_closed : Pass ℕ
has_closed = record { line = ends closed_it; call = some CallShut; begun = []; seen = Close 0 ∷ [] }

pub closed_instead-unlawful : ¬ AllDone closed_instead
closed_instead-unlawful done = made has_closed closed_it CallShut refl refl (done 0 has_closed closed_it refl refl)
