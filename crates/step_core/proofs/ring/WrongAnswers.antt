-- Why those of specs/ring/WrongAnswers are refused.
use Rattle.std.proofs.Common.{◌≡◌, ◌≤◌, ℕ, true, List, [], ◌∷◌, ◌++◌, length, Ok, Err, refl, sym, ap, ◌∙◌, subst, arith}
use mathlib.Core.Option.{some}
use Rattle.bounded_model.specs.declared.answers.PutRefused.TheVariants.{Full}
use Rattle.bounded_model.specs.declared.history.Event.{Event}
use Rattle.bounded_model.specs.declared.history.Event.TheVariants.{Hold, Put, Take, Free, Close}
use Rattle.bounded_model.specs.Histories.{own}
use Rattle.ring_machine.specs.declared.lines.Answer.{Answer}
use Rattle.ring_machine.specs.declared.lines.Answer.TheVariants.{Put as AnswerPut, Close as AnswerClose, Len as AnswerLen}
use Rattle.ring_machine.specs.declared.lines.Call.{Call}
use Rattle.ring_machine.specs.declared.lines.Call.TheVariants.{Put as CallPut, Shut as CallShut, Len as CallLen}
use Rattle.ring_machine.specs.Machine.{Pass, ends}
use Rattle.ring_machine.specs.Answers.{state}
use Rattle.ring_machine.specs.Deeds.{Makes}
use Rattle.step_core.proofs.Heard.{own_made}
use Rattle.step_core.specs.ring.Law.{Lawful, HasAnswered, AllDone}
use Rattle.step_core.specs.ring.WrongAnswers.{put_another, handed_back, closed_instead, counted_two}

made : (v : Pass ℕ) (a : Answer ℕ) (call : Call ℕ) → v.call ≡ some call → own 0 v.begun ≡ [] → HasAnswered 0 v a → Makes 0 call a (own 0 v.seen)
made v a call of new h = own_made (λ c mine. Makes 0 c a mine) call h.call v.begun v.seen h.done.between (sym h.of ∙ of) new h.done.is h.done.made

abbrev put_done : Answer ℕ
put_done = AnswerPut (Ok 0)

abbrev has_put_another : Pass ℕ
has_put_another = record { line = ends 0 put_done; call = some (CallPut 10); begun = []; seen = Put 0 (11 ∷ []) 0 ∷ Hold 0 ∷ [] }

-- the value of the put among these events
abbrev value_put : List (Event ℕ) → ℕ
value_put [] = 0
value_put (Put p (v ∷ vs) k ∷ events) = v
value_put (e ∷ events) = value_put events

pub put_another-unlawful : ¬ AllDone put_another
put_another-unlawful done =
    let same_value : 11 ≡ 10 = ap value_put (made has_put_another put_done (CallPut 10) refl refl (done 0 has_put_another 0 put_done refl refl)) in
    absurd (omega (arith, same_value))

abbrev put_refused : Answer ℕ
put_refused = AnswerPut (Err (Full 11))

abbrev was_refused : Pass ℕ
was_refused = record { line = ends 1 put_refused; call = some (CallPut 10); begun = Put 1 (12 ∷ []) 0 ∷ Hold 1 ∷ []; seen = Put 1 (12 ∷ []) 0 ∷ Hold 1 ∷ [] }

pub handed_back-unlawful : ¬ AllDone handed_back
handed_back-unlawful done = absurd (omega (arith, (made was_refused put_refused (CallPut 10) refl refl (done 0 was_refused 1 put_refused refl refl)).0))

abbrev closed_it : Answer ℕ
closed_it = AnswerClose true

abbrev has_closed : Pass ℕ
has_closed = record { line = ends 1 closed_it; call = some CallShut; begun = []; seen = Close 0 ∷ [] }

pub closed_instead-unlawful : ¬ AllDone closed_instead
closed_instead-unlawful done = made has_closed closed_it CallShut refl refl (done 0 has_closed 1 closed_it refl refl)

-- a property of a history and of each that came before it
abbrev Always : (List (Event ℕ) → Type 0) → List (Event ℕ) → Type 0
Always P [] = P []
Always P (e ∷ h) = P (e ∷ h) × Always P h

now : (P : List (Event ℕ) → Type 0) (h : List (Event ℕ)) → Always P h → P h
now P [] all = all
now P (e ∷ h) all = all.0

once : (P : List (Event ℕ) → Type 0) (h more at : List (Event ℕ)) → Always P h → h ≡ more ++ at → P at
once P h [] at all e = subst P e (now P h all)
once P [] (x ∷ more) at all e = cc
once P (y ∷ h) (x ∷ more) at all e = let rest : h ≡ more ++ at = cc in once P h more at all.1 rest

abbrev two : Answer ℕ
two = AnswerLen 2

abbrev all_events : List (Event ℕ)
all_events = Put 1 (11 ∷ []) 1 ∷ Hold 1 ∷ Free 1 1 ∷ Take 1 10 0 ∷ Put 1 (10 ∷ []) 0 ∷ Hold 1 ∷ []

abbrev AtMostOne : List (Event ℕ) → Type 0
AtMostOne h = length (state 1 2 h).values ≤ 1

at_most_one : Always AtMostOne all_events
at_most_one = (omega arith, (omega arith, (omega arith, (omega arith, (omega arith, (omega arith, omega arith))))))

pub counted_two-unlawful : ¬ Lawful ℕ 1 2 3 counted_two
counted_two-unlawful law =
    let right = law.answered 0 (record { line = ends 1 two; call = some CallLen; begun = []; seen = all_events }) 1 two refl refl in
    absurd (omega (arith, right.holds, once AtMostOne all_events right.until.more right.at at_most_one right.until.is))
