-- What every act keeps, every schedule keeps. Proved once, for every machine.
use Rattle.std.proofs.Common.{◌≡◌, ◌≢◌, ℕ, zero, suc, ◌+◌, true, false, List, [], ◌∷◌, length, set, refl, sym, ap, ◌∙◌, arith}
use Rattle.std.proofs.lemmas.List.{length-set}
use mathlib.Core.Option.{Option, none, some, some-injective, some-ne-none}
use lib.ListN.{get_elem?}
use Rattle.machine.specs.Schedule.{Machine, Pass, State, Act, Begin, Step, stepped, begun, acts_at, next, run, start, first_pass, first_passes, after, having_begun, having_stepped}
use Rattle.machine.proofs.Tests.{cases}

pub set_other : {A : Type 0} (xs : List A) (q p : ℕ) (x : A) → q ≢ p → get_elem? (set xs q x) p ≡ get_elem? xs p
set_other [] q p x ne = refl
set_other (y ∷ ys) zero zero x ne = absurd (ne refl)
set_other (y ∷ ys) zero (suc p) x ne = refl
set_other (y ∷ ys) (suc q) zero x ne = refl
set_other (y ∷ ys) (suc q) (suc p) x ne = set_other ys q p x (λ e. ne (ap suc e))

pub set_same : {A : Type 0} (xs : List A) (p : ℕ) (x y : A) → get_elem? xs p ≡ some x → get_elem? (set xs p y) p ≡ some y
set_same [] p x y e = absurd (some-ne-none x (sym e))
set_same (z ∷ zs) zero x y e = refl
set_same (z ∷ zs) (suc p) x y e = set_same zs p x y e

-- A property of states that a begin of an idle pass keeps, and a step of a busy one
pub record Holds {M L C E : Type 0} (x : Machine M L C E) (Kept : State M L C E → Type 0) : Type 0 where
  pub begins : (s : State M L C E) (p : ℕ) (v : Pass L C E) → Kept s → get_elem? s.passes p ≡ some v → x.is_idle v.line ≡ true → (call : C) → Kept (begun x s p v call)
  pub steps : (s : State M L C E) (p : ℕ) (v : Pass L C E) → Kept s → get_elem? s.passes p ≡ some v → x.is_idle v.line ≡ false → Kept (stepped x s p v (x.step s.memory p v.line))

module _ {M L C E : Type 0} (x : Machine M L C E) (Kept : State M L C E → Type 0) (h : Holds x Kept) where
  pub acts_at_kept : (s : State M L C E) (p : ℕ) (a : Act C) (o : Option (Pass L C E)) → Kept s → get_elem? s.passes p ≡ o → Kept (acts_at x s p a o)
  acts_at_kept s p a none k e = k
  acts_at_kept s p (Begin call) (some v) k e = cases Kept (x.is_idle v.line) (begun x s p v call) s (λ idle. h.begins s p v k e idle call) (λ busy. k)
  acts_at_kept s p Step (some v) k e = cases Kept (x.is_idle v.line) s (stepped x s p v (x.step s.memory p v.line)) (λ idle. k) (λ busy. h.steps s p v k e busy)

  pub next_kept : (s : State M L C E) (a : ℕ × Act C) → Kept s → Kept (next x s a)
  next_kept s a k = acts_at_kept s a.0 a.1 (get_elem? s.passes a.0) k refl

  pub run_kept : (schedule : List (ℕ × Act C)) (s : State M L C E) → Kept s → Kept (run x schedule s)
  run_kept [] s k = k
  run_kept (a ∷ more) s k = run_kept more (next x s a) (next_kept s a k)

-- no pass comes or goes
module _ {M L C E : Type 0} (x : Machine M L C E) where
  pub same_passes : (passes : ℕ) → Holds x (λ s. length s.passes ≡ passes)
  same_passes passes = record {
    begins = λ s p v k at idle call. length-set s.passes p (having_begun x s v call) ∙ k;
    steps = λ s p v k at busy. length-set s.passes p (having_stepped x s v (x.step s.memory p v.line)) ∙ k;
  }

  -- the lines of so many passes that have begun nothing, from pass p on
  abbrev pub first_lines : ℕ → ℕ → List L
  first_lines p zero = []
  first_lines p (suc k) = x.rest p ∷ first_lines (p + 1) k

  first_length : (p k : ℕ) → length (first_passes x p k) ≡ k
  first_length p zero = refl
  first_length p (suc k) = ap suc (first_length (p + 1) k)

  -- who stands at a place at the start
  pub first_at : (p k q r : ℕ) (v : Pass L C E) → get_elem? (first_passes x p k) q ≡ some v → r ≡ p + q → first_pass x r ≡ v
  first_at p zero q r v e is = absurd (some-ne-none v (sym e))
  first_at p (suc k) zero r v e is = ap (first_pass x) (omega (arith, is)) ∙ some-injective (first_pass x p) v e
  first_at p (suc k) (suc q) r v e is = first_at (p + 1) k q r v e (omega (arith, is))

  pub start_at : (k p : ℕ) (v : Pass L C E) → get_elem? (start x k).passes p ≡ some v → first_pass x p ≡ v
  start_at k p v e = first_at 0 k p p v e (omega arith)

  pub passes_after : (passes : ℕ) (schedule : List (ℕ × Act C)) → length (after x passes schedule).passes ≡ passes
  passes_after passes schedule = run_kept x (λ s. length s.passes ≡ passes) (same_passes passes) schedule (start x passes) (first_length 0 passes)
