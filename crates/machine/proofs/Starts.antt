-- The list that a new container starts with: all indexes in order.
use Rattle.std.proofs.Common.{◌≡◌, ℕ, zero, suc, ◌+◌, ◌<◌, ◌≤◌, cond, ltb, List, [], ◌∷◌, length, refl, sym, ap, ⊎_elim, lt_of_not-le, arith, eq-eqb, ne_eqb}
use Rattle.std.proofs.lemmas.Bool.Decides.{nat_tests, eqb_tells}
use Rattle.machine.specs.Words.{times, Stands, start_link}
use Rattle.machine.proofs.Tests.{cases, not_below}
use Rattle.machine.proofs.Lists.{times_here, times_else}

unfoldable pub from : ℕ → ℕ → List ℕ
from i zero = []
from i (suc k) = i ∷ from (i + 1) k

pub from_stands : (n k i : ℕ) → i + suc k ≡ n → Stands (start_link n) i (from i (suc k))
unfolding from
from_stands n zero i e = (refl, rw (eq-eqb (i + 1) n (omega arith)) refl)
from_stands n (suc k) i e = (refl, rw (ne_eqb (i + 1) n (omega arith)) (from_stands n k (i + 1) (omega arith)))

from_below : (j k i : ℕ) → j < i → times j (from i k) ≡ 0
unfolding from
from_below j zero i h = refl
from_below j (suc k) i h = let r = from_below j k (i + 1) (omega arith) in omega (arith, times_else j i (from (i + 1) k) (omega arith))

from_above : (j k i : ℕ) → i + k ≤ j → times j (from i k) ≡ 0
unfolding from
from_above j zero i h = refl
from_above j (suc k) i h = let r = from_above j k (i + 1) (omega arith) in omega (arith, times_else j i (from (i + 1) k) (omega arith))

from_within : (j k i : ℕ) → i ≤ j → j < i + k → times j (from i k) ≡ 1
unfolding from
from_within j zero i h l = absurd (omega arith)
from_within j (suc k) i h l = ⊎_elim
    (λ e. let q : times j (i ∷ from (i + 1) k) ≡ times j (j ∷ from (i + 1) k) = ap (λ (x : ℕ). times j (x ∷ from (i + 1) k)) (sym e.1) in omega (arith, times_here j (from (i + 1) k), from_below j k (i + 1) (omega arith)))
    (λ e. let r = from_within j k (i + 1) (omega (arith, e.1)) (omega arith) in omega (arith, times_else j i (from (i + 1) k) e.1))
    (eqb_tells j i)

pub from_all : (j n : ℕ) → times j (from 0 n) ≡ cond (ltb j n) 1 0
from_all j n = cases (λ x. times j (from 0 n) ≡ x) (ltb j n) 1 0 (λ h. from_within j n 0 (omega arith) (grind (arith, nat_tests))) (λ h. from_above j n 0 (grind (arith, nat_tests)))

-- what is among the first n numbers is below their number
pub from_low : (n j : ℕ) → 0 < times j (from 0 n) → j < n
from_low n j there = lt_of_not-le (λ above. absurd (omega (arith, from_all j n, not_below j n above)))

pub from_length : (k i : ℕ) → length (from i k) ≡ k
unfolding from
from_length zero i = refl
from_length (suc k) i = ap suc (from_length k (i + 1))
