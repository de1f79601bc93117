-- A new table: all slots are at home and empty, and no pass is on its only seat, the root's.
use Rattle.std.proofs.Common.{◌≡◌, ℕ, zero, suc, ◌<◌, ◌≤◌, ◌⊎◌, inl, inr, ltb, List, [], ◌∷◌, map, length, replicate, refl, sym, ap, arith}
use Rattle.std.proofs.lemmas.Bool.Decides.{nat_tests}
use Rattle.std.specs.Prelude.{Option as Slot, None}
use mathlib.Core.Option.{Option, none, some, some-ne-none}
use lib.ListN.{get_elem?}
use Rattle.machine.specs.Seats.{first_view}
use Rattle.machine.proofs.Tests.{cases}
use Rattle.running.specs.Rule.{who}
use Rattle.running.specs.Tables.{at_home}

abbrev pub empties : (T : Type 0) → ℕ → List (Option (Slot T))
empties T n = map some (replicate n None)

pub home_start : (T : Type 0) (n i : ℕ) → i < n → at_home (get_elem? (empties T n) i) ≡ some None
home_start T zero i h = absurd (omega arith)
home_start T (suc n) zero h = refl
home_start T (suc n) (suc i) h = home_start T n i (omega arith)

pub home_past : (T : Type 0) (n i : ℕ) → n ≤ i → at_home (get_elem? (empties T n) i) ≡ none
home_past T zero i h = refl
home_past T (suc n) zero h = absurd (omega arith)
home_past T (suc n) (suc i) h = home_past T n i (omega arith)

pub homes_start : (T : Type 0) (n : ℕ) → length (empties T n) ≡ n
homes_start T zero = refl
homes_start T (suc n) = ap suc (homes_start T n)

abbrev pub first_who : (T : Type 0) {L : Type 0} → L → ℕ → Option ℕ
first_who T l = who {T = T} (first_view l ∷ [])

pub nobody : (T : Type 0) {L : Type 0} (l : L) (q p : ℕ) → first_who T l q ≡ some p → ⊥
nobody T l zero p e = some-ne-none p (sym e)
nobody T l (suc q) p e = some-ne-none p (sym e)

pub below_or_not : (i k : ℕ) → (i < k) ⊎ (k ≤ i)
below_or_not i k = cases (λ (b : ℕ). (i < k) ⊎ (k ≤ i)) (ltb i k) 1 0 (λ b. inl (grind (arith, nat_tests))) (λ b. inr (grind (arith, nat_tests)))
