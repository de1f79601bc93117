-- Why those of specs/ring/Mistakes are refused.
use Rattle.std.proofs.Common.{◌≡◌, ◌≤◌, ⊎_elim, ℕ, ◌*◌, List, [], ◌∷◌, refl, sym, Err, arith}
use Rattle.std.proofs.lemmas.Bool.{false≢true}
use Rattle.bounded_model.specs.declared.answers.PutRefused.TheVariants.{Full}
use Rattle.bounded_model.specs.declared.history.Event.{Event}
use Rattle.bounded_model.specs.declared.history.Event.TheVariants.{Hold, Put, Take, Free, Close, Shut}
use Rattle.bounded_model.specs.Machine.{Legal}
use mathlib.Core.Option.{some}
use Rattle.ring_machine.specs.declared.lines.Answer.{Answer}
use Rattle.ring_machine.specs.declared.lines.Answer.TheVariants.{Put as AnswerPut}
use Rattle.ring_machine.specs.declared.lines.Call.TheVariants.{Put as CallPut}
use Rattle.ring_machine.specs.Machine.{ends}
use Rattle.ring_machine.specs.Answers.{shape}
use Rattle.ring_machine.specs.Places.{NothingTwice}
use Rattle.step_core.specs.ring.Law.{Lawful, lines_of}
use Rattle.step_core.specs.ring.Mistakes.{WinsHeld, cell_held, cell_held_twice, number_again, put_late, taken_early, slot_left_out, closed_full, put_after_close, take_after_shut, open_again, unshut_again, above_limit, not_full}
use Rattle.step_core.proofs.Heard.{at_once}

pub cell_held_by_two : ¬ NothingTwice 1 3 cell_held_twice.memory (lines_of cell_held_twice)
cell_held_by_two apart =
    absurd (omega (arith, apart.one_hand 2 (record { pass = 0; line = _; at = refl; has = omega arith }) (record { pass = 1; line = _; at = refl; has = omega arith })))

pub cell_held_twice-unlawful : ¬ Lawful ℕ 1 2 3 cell_held_twice
cell_held_twice-unlawful law = cell_held_by_two law.once

pub wins_held_cell : WinsHeld (cell_held 3) (cell_held 4)
wins_held_cell won =
    ⊎_elim (λ had. absurd (omega (arith, had))) (λ was. was.unheld (record { pass = 0; line = _; at = refl; has = omega arith })) (won.cells 2 (omega arith))

pub number_again-unlawful : ¬ Lawful ℕ 2 2 3 number_again
number_again-unlawful law =
    let legal : Legal {T = ℕ} (shape 2 2) (Put 0 (11 ∷ []) 0 ∷ Hold 0 ∷ Put 0 (10 ∷ []) 0 ∷ Hold 0 ∷ []) = law.legal in
    absurd (omega (arith, legal.0.3))

pub put_late-unlawful : ¬ Lawful ℕ 2 2 4 put_late
put_late-unlawful law =
    let legal : Legal {T = ℕ} (shape 2 2) (Put 0 (10 ∷ []) 0 ∷ Hold 0 ∷ Free 1 1 ∷ Take 1 11 0 ∷ Put 1 (11 ∷ []) 0 ∷ Hold 1 ∷ []) = law.legal in
    absurd (omega (arith, legal.0.3))

pub taken_early-unlawful : ¬ Lawful ℕ 2 2 3 taken_early
taken_early-unlawful law =
    let legal : Legal {T = ℕ} (shape 2 2) (Free 0 1 ∷ Take 0 12 0 ∷ Put 0 (12 ∷ []) 2 ∷ Hold 0 ∷ Free 0 1 ∷ Take 0 10 0 ∷ Put 0 (11 ∷ []) 1 ∷ Hold 0 ∷ Put 0 (10 ∷ []) 0 ∷ Hold 0 ∷ []) = law.legal in
    absurd (omega (arith, legal.1.0.2))

pub closed_full-unlawful : ¬ Lawful ℕ 1 2 2 closed_full
closed_full-unlawful law =
    let legal : Legal {T = ℕ} (shape 1 2) (Put 0 (11 ∷ []) 1 ∷ Hold 0 ∷ Free 0 1 ∷ Take 0 10 0 ∷ Close 0 ∷ Put 0 (10 ∷ []) 0 ∷ Hold 0 ∷ []) = law.legal in
    false≢true (sym legal.0.0)

pub put_after_close-unlawful : ¬ Lawful ℕ 1 2 3 put_after_close
put_after_close-unlawful law =
    let legal : Legal {T = ℕ} (shape 1 2) (Put 0 (10 ∷ []) 0 ∷ Hold 0 ∷ Close 1 ∷ []) = law.legal in
    false≢true (sym legal.0.0)

pub take_after_shut-unlawful : ¬ Lawful ℕ 1 2 3 take_after_shut
take_after_shut-unlawful law =
    let legal : Legal {T = ℕ} (shape 1 2) (Free 0 1 ∷ Take 0 10 0 ∷ Shut 1 ∷ Put 0 (10 ∷ []) 0 ∷ Hold 0 ∷ []) = law.legal in
    false≢true (sym legal.1.0.0)

pub open_again-unlawful : ¬ Lawful ℕ 1 2 2 open_again
open_again-unlawful law =
    let legal : Legal {T = ℕ} (shape 1 2) (Put 0 (11 ∷ []) 1 ∷ Hold 0 ∷ Free 0 1 ∷ Take 0 10 0 ∷ Close 0 ∷ Put 0 (10 ∷ []) 0 ∷ Hold 0 ∷ []) = law.legal in
    false≢true (sym legal.0.0)

pub unshut_again-unlawful : ¬ Lawful ℕ 1 2 2 unshut_again
unshut_again-unlawful law =
    let legal : Legal {T = ℕ} (shape 1 2) (Free 0 1 ∷ Take 0 10 0 ∷ Put 0 (10 ∷ []) 0 ∷ Hold 0 ∷ Shut 0 ∷ []) = law.legal in
    false≢true (sym legal.1.0.0)

pub above_limit-unlawful : ¬ Lawful ℕ 1 1 2 above_limit
above_limit-unlawful law = let small : 3 ≤ 2 * 1 = law.represents.turned.within 0 (omega arith) in absurd (omega (arith, small))

pub slot_left_out-unlawful : ¬ Lawful ℕ 6 1 7 slot_left_out
slot_left_out-unlawful law = let number : 5 ≡ 4 = law.legal.0.3 in absurd (omega (arith, number))

abbrev put_full : Answer ℕ
put_full = AnswerPut (Err (Full 11))

abbrev one_value : List (Event ℕ)
one_value = Put 0 (10 ∷ []) 0 ∷ Hold 0 ∷ []

pub not_full-unlawful : ¬ Lawful ℕ 2 2 3 not_full
not_full-unlawful law =
    let right = at_once one_value _ (law.answered 0 (record { line = ends 0 put_full; call = some (CallPut 11); begun = one_value; seen = one_value }) 0 put_full refl refl) in
    let no : 1 ≡ 2 = right.1 in
    absurd (omega (arith, no))
