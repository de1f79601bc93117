-- A list that is put together from parts and sorted by number is the rising list of the same elements.
use Rattle.std.proofs.Common.{◌≡◌, ℕ, ◌<◌, ◌≤◌, List, [], ◌∷◌, refl, true, false, arith, ap, sym, subst, inl, inr, suc, ◌≢◌, IsPermutation, cond, sum_by}
use Rattle.std.specs.Prelude.{◌==◌, ◌⊎◌}
use Rattle.std.specs.List.Sorted.{IsNonDecreasingBy}
use Rattle.std.proofs.lemmas.Bool.Decides.{nat_tests}
use Rattle.std.proofs.lemmas.List.Sums.{sum_by-cons}
use Rattle.std.proofs.lemmas.List.Elements.{recursion_from_All}
use Rattle.std.proofs.lemmas.List.Sorted.{IsPermutation-sym, sum_by-IsPermutation}
use Rattle.std.specs.List.{AllByRecursion as Every}
use Rattle.bounded_model.specs.Gathers.{Rises}
use Rattle.relay.proofs.Lists.{same_or_not, Every_permutation}

module _ {A : Type 0} (n : A → ℕ) where
  -- an element of the list, by recursion
  abbrev In : A → List A → Type 0
  In x [] = ⊥
  In x (y ∷ ys) = (x ≡ y) ⊎ In x ys

  In-every : (P : A → Type 0) (x : A) (xs : List A) → Every P xs → In x xs → P x
  In-every P x [] h i = absurd i
  In-every P x (y ∷ ys) h (inl e) = subst P (sym e) h.0
  In-every P x (y ∷ ys) h (inr i) = In-every P x ys h.1 i

  In-weaker : (y : A) (ys xs : List A) → Every (λ x. In x ys) xs → Every (λ x. In x (y ∷ ys)) xs
  In-weaker y ys [] h = tt
  In-weaker y ys (x ∷ xs) h = (inr h.0, In-weaker y ys xs h.1)

  In-itself : (xs : List A) → Every (λ x. In x xs) xs
  In-itself [] = tt
  In-itself (x ∷ xs) = (inl refl, In-weaker x xs xs (In-itself xs))

  -- how many have the number k
  abbrev one : ℕ → A → ℕ
  one k x = cond (n x == k) 1 0

  one_yes : (k : ℕ) (x : A) → n x ≡ k → one k x ≡ 1
  one_yes k x e = let b : (n x == k) ≡ true = grind (arith, nat_tests) in rw b

  one_no : (k : ℕ) (x : A) → n x ≢ k → one k x ≡ 0
  one_no k x e = let b : (n x == k) ≡ false = grind (arith, nat_tests) in rw b

  none_above : (k : ℕ) (xs : List A) → Every (λ y. k < n y) xs → sum_by (one k) xs ≡ 0
  none_above k [] h = refl
  none_above k (x ∷ xs) h =
      let more = sum_by-cons (one k) x xs in
      let other : n x ≢ k = λ e. absurd (omega (arith, h.0)) in
      omega (arith, one_no k x other, none_above k xs h.1)

  once_each : (k : ℕ) (xs : List A) → Rises n xs → sum_by (one k) xs ≤ 1
  once_each k [] h = omega arith
  once_each k (x ∷ xs) h =
      let more = sum_by-cons (one k) x xs in
      elim (same_or_not (n x) k) [
        | inl e ↦ omega (arith, one_yes k x e, none_above k xs (subst (λ j. Every (λ y. j < n y) xs) e h.0))
        | inr f ↦ omega (arith, one_no k x f, once_each k xs h.1)
      ]

  absent : (k : ℕ) (xs : List A) → sum_by (one k) xs ≡ 0 → Every (λ y. k ≤ n y) xs → Every (λ y. k < n y) xs
  absent k [] z h = tt
  absent k (x ∷ xs) z h =
      let more = sum_by-cons (one k) x xs in
      elim (same_or_not (n x) k) [
        | inl e ↦ absurd (omega (arith, one_yes k x e))
        | inr f ↦ (omega (arith, f, h.0), absent k xs (omega arith) h.1)
      ]

  head_least : (y : A) (ys : List A) → IsNonDecreasingBy n (y ∷ ys) → Every (λ z. n y ≤ n z) ys
  head_least y ys h = recursion_from_All (λ z. n y ≤ n z) ys (λ k d l. h 0 (suc k) d (omega arith) (omega arith))

  tail_sorted : (y : A) (ys : List A) → IsNonDecreasingBy n (y ∷ ys) → IsNonDecreasingBy n ys
  tail_sorted y ys h = λ i j d le lt. h (suc i) (suc j) d (omega arith) (omega arith)

  strictly : (ys : List A) → ((k : ℕ) → sum_by (one k) ys ≤ 1) → IsNonDecreasingBy n ys → Rises n ys
  strictly [] few up = tt
  strictly (y ∷ ys) few up =
      let here : sum_by (one (n y)) ys ≡ 0 = omega (arith, few (n y), sum_by-cons (one (n y)) y ys, one_yes (n y) y refl) in
      (absent (n y) ys here (head_least y ys up), strictly ys (λ k. omega (arith, few k, sum_by-cons (one k) y ys)) (tail_sorted y ys up))

  -- an element of x ∷ xs that is above x is one of xs
  drop_head : (x : A) (xs zs : List A) → Every (λ z. n x < n z) zs → Every (λ z. In z (x ∷ xs)) zs → Every (λ z. In z xs) zs
  drop_head x xs [] a i = tt
  drop_head x xs (z ∷ zs) a i =
      let here : In z xs = elim i.0 [ inl e ↦ absurd (omega (arith, a.0, ap n e)) | inr j ↦ j ] in
      (here, drop_head x xs zs a.1 i.1)

  same_rising : (xs ys : List A) → Rises n xs → Rises n ys → Every (λ x. In x ys) xs → Every (λ y. In y xs) ys → xs ≡ ys
  same_rising [] [] a b i j = refl
  same_rising [] (y ∷ ys) a b i j = absurd j.0
  same_rising (x ∷ xs) [] a b i j = absurd i.0
  same_rising (x ∷ xs) (y ∷ ys) a b i j =
      let heads : x ≡ y =
      elim i.0 [
        | inl e ↦ e
        | inr k ↦ elim j.0 [
          | inl e ↦ sym e
          | inr m ↦ absurd (omega (arith, In-every (λ z. n y < n z) x ys b.0 k, In-every (λ z. n x < n z) y xs a.0 m))
        ]
      ] in
      let below : Every (λ z. n x < n z) ys = subst (λ w. Every (λ z. n w < n z) ys) (sym heads) b.0 in
      let is : Every (λ z. In z (x ∷ ys)) xs = subst (λ w. Every (λ z. In z (w ∷ ys)) xs) (sym heads) i.1 in
      rw (heads, same_rising xs ys a.1 b.1 (drop_head x ys xs a.0 is) (drop_head x xs ys below j.1))

  -- sorted, it is the rising list
  pub sorted_is : (parts sorted rising : List A) → IsPermutation parts rising → IsPermutation parts sorted → IsNonDecreasingBy n sorted → Rises n rising → sorted ≡ rising
  sorted_is parts sorted rising p q up r =
      let few : (k : ℕ) → sum_by (one k) sorted ≤ 1 = λ k. omega (arith, sum_by-IsPermutation (one k) parts rising p, sum_by-IsPermutation (one k) parts sorted q, once_each k rising r) in
      let back = Every_permutation (λ z. In z parts) parts sorted q (In-itself parts) in
      let left : Every (λ z. In z rising) sorted = Every_permutation (λ z. In z rising) parts sorted q (Every_permutation (λ z. In z rising) rising parts (IsPermutation-sym _ _ p) (In-itself rising)) in
      let right : Every (λ z. In z sorted) rising = Every_permutation (λ z. In z sorted) parts rising p (Every_permutation (λ z. In z sorted) sorted parts (IsPermutation-sym _ _ q) (In-itself sorted)) in
      same_rising sorted rising (strictly sorted few up) r left right
