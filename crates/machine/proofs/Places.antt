-- Counting where indexes are says that each is in one place.
use Rattle.std.proofs.Common.{◌≡◌, ◌⊎◌, inl, inr, ⊎_elim, ℕ, zero, suc, ◌+◌, ◌<◌, ◌≤◌, cond, ltb, List, [], ◌∷◌, refl, sym, arith}
use Rattle.std.proofs.lemmas.Bool.Decides.{nat_tests, eqb_tells}
use mathlib.Core.Option.{some}
use lib.ListN.{get_elem?}
use Rattle.machine.specs.Words.{times, total}
use Rattle.machine.specs.Places.{Has, IsHeld, InOnePlace, IsFree, IsInside}
use Rattle.machine.proofs.Sums.{total_one, total_two}
use Rattle.machine.proofs.Tests.{cases, at_most_one}

pub either : (a b : ℕ) → 0 < a + b → (0 < a) ⊎ (0 < b)
either zero b h = inr (omega arith)
either (suc a) b h = inl (omega arith)

-- a place where a sum is not nothing
pub record Found {V : Type 0} (f : V → ℕ) (vs : List V) : Type 0 where
  pub place : ℕ
  pub value : V
  pub at : get_elem? vs place ≡ some value
  pub some_here : 0 < f value

found : {V : Type 0} (f : V → ℕ) (vs : List V) → 0 < total f vs → Found f vs
found f [] h = absurd (omega arith)
found f (v ∷ vs) h = ⊎_elim
    (λ here. record { place = 0; value = v; at = refl; some_here = here })
    (λ rest. let r = found f vs rest in record { place = suc r.place; value = r.value; at = r.at; some_here = r.some_here })
    (either (f v) (total f vs) h)

one_below : (i n : ℕ) → i < n → 0 < cond (ltb i n) 1 0
one_below i n h = cases (λ (x : ℕ). 0 < x) (ltb i n) 1 0 (λ b. omega arith) (λ b. absurd (grind (arith, nat_tests)))

below_one : (i n : ℕ) → 0 < cond (ltb i n) 1 0 → i < n
below_one i n = cases (λ (x : ℕ). 0 < x → i < n) (ltb i n) 1 0 (λ b h. grind (arith, nat_tests)) (λ b h. absurd (omega arith))

module _ {L : Type 0} (held : L → List ℕ) where
  abbrev pub hands : ℕ → List L → ℕ
  hands i lines = total (λ (l : L). times i (held l)) lines

  module _ (n : ℕ) (free inside : List ℕ) (lines : List L) (once : (i : ℕ) → times i free + times i inside + hands i lines ≡ cond (ltb i n) 1 0) where
    in_hand : (i : ℕ) (a : IsHeld held lines i) → times i (held a.line) ≤ hands i lines
    in_hand i a = total_one (λ (l : L). times i (held l)) lines a.pass a.line a.at

    someone : (i : ℕ) → 0 < hands i lines → IsHeld held lines i
    someone i h = let f = found (λ (l : L). times i (held l)) lines h in record { pass = f.place; line = f.value; at = f.at; has = f.some_here }

    -- an index is where it is counted
    placed : (i : ℕ) → 0 < times i free + times i inside + hands i lines → Has free i ⊎ (Has inside i ⊎ IsHeld held lines i)
    placed i h = ⊎_elim
        (λ t. ⊎_elim (λ f. inl f) (λ c. inr (inl c)) (either (times i free) (times i inside) t))
        (λ t. inr (inr (someone i t)))
        (either (times i free + times i inside) (hands i lines) h)

    counted : (i : ℕ) → Has free i ⊎ (Has inside i ⊎ IsHeld held lines i) → 0 < times i free + times i inside + hands i lines
    counted i there = ⊎_elim (λ f. omega arith) (λ t. ⊎_elim (λ c. omega arith) (λ a. omega (arith, a.has, in_hand i a)) t) there

    pub in_one_place : InOnePlace held n free inside lines
    in_one_place = record {
      somewhere = λ i h. placed i (omega (arith, once i, one_below i n h));
      no_others = λ i there. below_one i n (omega (arith, once i, counted i there));
      free_or_inside = λ i f c. absurd (omega (arith, once i, at_most_one i n));
      free_or_held = λ i f a. absurd (omega (arith, once i, at_most_one i n, a.has, in_hand i a));
      inside_or_held = λ i c a. absurd (omega (arith, once i, at_most_one i n, a.has, in_hand i a));
      one_hand = λ i a b. ⊎_elim
          (λ t. t.1)
          (λ t. absurd (omega (arith, once i, at_most_one i n, a.has, b.has, total_two (λ (l : L). times i (held l)) lines a.pass b.pass a.line b.line (λ e. t.1 (sym e)) a.at b.at)))
          (eqb_tells a.pass b.pass);
      once_free = λ i. omega (arith, once i, at_most_one i n);
      once_inside = λ i. omega (arith, once i, at_most_one i n);
      once_held = λ i a. omega (arith, once i, at_most_one i n, in_hand i a);
    }

  module _ {n : ℕ} {free inside : List ℕ} {lines : List L} (x : InOnePlace held n free inside lines) where
    pub is_free : (i : ℕ) → Has free i → IsFree held free inside lines i
    is_free i there = record { here = there; unheld = x.free_or_held i there; outside = x.free_or_inside i there }

    pub is_inside : (i : ℕ) → Has inside i → IsInside held free inside lines i
    is_inside i there = record { here = there; unheld = x.inside_or_held i there; taken = λ f. x.free_or_inside i f there }
