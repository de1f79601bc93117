-- Why hands of passes that are in no call, and more cells than a call may have, are refused.
use Rattle.std.proofs.Common.{◌≡◌, ℕ, ◌≤◌, List, sym, ap, ◌∙◌, arith}
use Rattle.bounded_model.specs.declared.history.Event.{Event}
use Rattle.queue_machine.specs.Answers.{shape, state}
use Rattle.step_core.specs.Linearizable.{events, call_of, IsLinearization, Linearizable}
use Rattle.step_core.specs.queue.Object.{object, answer}
use Rattle.step_core.specs.queue.Cast.{queue_with}
use Rattle.step_core.specs.queue.WrongAnswers.{keeps_cell, keeping}
use Rattle.step_core.proofs.Full.{rests_empty}
use Rattle.step_core.specs.queue.WrongRuns.{resting_hand, full_of_resting_hands, second_cell, full_of_its_own}

pub resting_hand-refused : ¬ IsLinearization (object 1 1) resting_hand
resting_hand-refused r = let may : 1 ≤ 0 = r.1 in absurd (omega (arith, may))

pub full_of_resting_hands-refused : ¬ IsLinearization (object 1 1) full_of_resting_hands
full_of_resting_hands-refused r = let may : 1 ≤ 0 = r.2.1.1 in absurd (omega (arith, may))

pub second_cell-refused : ¬ IsLinearization (object 2 1) second_cell
second_cell-refused r = let may : 2 ≤ 1 = r.1 in absurd (omega (arith, may))

pub full_of_its_own-refused : ¬ IsLinearization (object 1 1) full_of_its_own
full_of_its_own-refused r = let none_held : ◌≡◌ {A = ℕ} 1 0 = r.1.2 in absurd (omega (arith, none_held))

pub kept_cell-not_linearizable : ¬ Linearizable (queue_with keeps_cell (shape 1 15)) answer (object 1 15) 2 keeping
kept_cell-not_linearizable l =
    let none_held : (state 1 15 (events l.course)).hand 0 ≡ 0 = rests_empty (object 1 15) 0 l.course l.right (ap (call_of 0) l.same_calls) in
    let held : ◌≡◌ {A = ℕ} 1 0 = ap (λ (h : List (Event ℕ)). (state 1 15 h).hand 0) (sym l.same_history) ∙ none_held in
    absurd (omega (arith, held))
