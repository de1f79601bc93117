-- A machine's lists of indexes are the host's: an index stands in one where it stands in the other.
use Rattle.std.proofs.Common.{◌≡◌, ◌≢◌, ℕ, ◌+◌, ◌<◌, ◌≤◌, inl, inr, ⊎_elim, cond, ltb, List, [], ◌∷◌, subst, arith}
use Rattle.std.specs.Prelude.{slice_index}
use Rattle.std.proofs.lemmas.Bool.Decides.{nat_tests, eqb_tells}
use Rattle.tagged_index.specs.Fields.{index_of}
use Rattle.tagged_index.specs.declared.word.TheConstants.{NULL}
use Rattle.index_list.specs.Lists.{Leads, Holds, Distinct}
use Rattle.machine.specs.Words.{times, total}
use Rattle.machine.specs.Words as core
use Rattle.machine.proofs.Lists.{times_here, times_else}
use Rattle.machine.proofs.Sums.{total_one}
use Rattle.machine.proofs.Tests.{at_most_one, cases}
use Rattle.running.specs.Lists.{Lists, Listed}

pub holds_times : (xs : List ℕ) (i : ℕ) → Holds xs i → 0 < times i xs
holds_times [] i h = absurd h
holds_times (x ∷ xs) i (inl e) = subst (λ (y : ℕ). 0 < times i (y ∷ xs)) e (let h = times_here i xs in omega arith)
holds_times (x ∷ xs) i (inr h) = let t = holds_times xs i h in omega arith

pub times_holds : (xs : List ℕ) (i : ℕ) → 0 < times i xs → Holds xs i
times_holds [] i h = absurd (omega arith)
times_holds (x ∷ xs) i h = ⊎_elim (λ e. inl e.1) (λ ne. let f = times_else i x xs ne.1 in inr (times_holds xs i (omega arith))) (eqb_tells i x)

pub distinct_times : (xs : List ℕ) → ((i : ℕ) → times i xs ≤ 1) → Distinct xs
distinct_times [] once = tt
distinct_times (x ∷ xs) once = (
  (λ h. absurd (let t = holds_times xs x h in let u = once x in let v = times_here x xs in omega arith)),
  distinct_times xs (λ i. let u = once i in let t : times i xs ≤ times i (x ∷ xs) = omega arith in omega arith),
)

-- a chain that leads through no null
pub leads_low : (link : ℕ → ℕ) (i : ℕ) (xs : List ℕ) (j : ℕ) → core.Leads link i xs j → ((x : ℕ) → 0 < times x xs → x < NULL) → Leads link i xs j
leads_low link i [] j c low = c
leads_low link i (x ∷ xs) j c low = (c.0, low x (let t = times_here x xs in omega arith), leads_low link (link x) xs j c.1 (λ z there. low z (omega arith)))

-- a list that stands begins with an index of its own
pub stands_in : (link : ℕ → ℕ) (x : ℕ) (xs : List ℕ) → core.Stands link x xs → x ≢ NULL → 0 < times x xs
stands_in link x [] s here = absurd (here s)
stands_in link x (y ∷ ys) s here = subst (λ (z : ℕ). 0 < times x (z ∷ ys)) s.0 (let t = times_here x ys in omega arith)

-- an index that is once in some places, of those below k, is below k
pub once_below : (i k places : ℕ) → places ≡ cond (ltb i k) 1 0 → 0 < places → i < k
once_below i k places e some_there = cases (λ z. places ≡ z → i < k) (ltb i k) 1 0 (λ b e. grind (arith, nat_tests)) (λ b e. absurd (omega arith)) e

-- a list of the machine is the host's, where each index below k is once in it, in another place or in a hand
pub listed : {L : Type 0} (y : Lists L) (l k : ℕ) (words : List ℕ) (lines : List L) (xs : List ℕ) (others : ℕ → ℕ) → k ≤ NULL → core.Stands (λ i. slice_index words (y.layout.link l i)) (index_of (slice_index words (y.layout.top l))) xs
    → ((i : ℕ) → times i xs + others i + total (λ u. times i (y.held l u)) lines ≡ cond (ltb i k) 1 0) → Listed y l words lines xs
listed y l k words lines xs others small stands once = record {
  leads = leads_low (λ i. slice_index words (y.layout.link l i)) (index_of (slice_index words (y.layout.top l))) xs NULL stands (λ i has. let b = once_below i k (times i xs + others i + total (λ u. times i (y.held l u)) lines) (once i) (omega arith) in omega arith);
  distinct = distinct_times xs (λ i. omega (arith, once i, at_most_one i k));
  free = λ q line e i has mine. absurd (omega (arith, once i, at_most_one i k, holds_times xs i has, holds_times (y.held l line) i mine, total_one (λ u. times i (y.held l u)) lines q line e));
}
