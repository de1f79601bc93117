-- Why hands of passes that are in no call, more cells than a call may have, and puts that are refused too early, are refused.
use Rattle.std.proofs.Common.{◌≡◌, ℕ, ◌≤◌, arith}
use Rattle.step_core.specs.Linearizable.{IsLinearization}
use Rattle.step_core.specs.ring.Object.{object}
use Rattle.step_core.specs.ring.WrongRuns.{resting_hand, full_of_resting_hands, second_cell, full_of_its_own, full_of_another_call, spent_too_early}

pub resting_hand-refused : ¬ IsLinearization (object 1 1) resting_hand
resting_hand-refused r = let may : 1 ≤ 0 = r.1 in absurd (omega (arith, may))

pub full_of_resting_hands-refused : ¬ IsLinearization (object 1 1) full_of_resting_hands
full_of_resting_hands-refused r = let may : 1 ≤ 0 = r.2.1.1 in absurd (omega (arith, may))

pub second_cell-refused : ¬ IsLinearization (object 2 1) second_cell
second_cell-refused r = let may : 2 ≤ 1 = r.1 in absurd (omega (arith, may))

pub full_of_its_own-refused : ¬ IsLinearization (object 1 1) full_of_its_own
full_of_its_own-refused r = let none_held : ◌≡◌ {A = ℕ} 1 0 = r.1.2 in absurd (omega (arith, none_held))

pub full_of_another_call-refused : ¬ IsLinearization (object 1 1) full_of_another_call
full_of_another_call-refused r = let all : ◌≡◌ {A = ℕ} 0 1 = r.1.1.1 in absurd (omega (arith, all))

pub spent_too_early-refused : ¬ IsLinearization (object 2 1) spent_too_early
spent_too_early-refused r = let all : ◌≡◌ {A = ℕ} 1 2 = r.1.1.1 in absurd (omega (arith, all))
