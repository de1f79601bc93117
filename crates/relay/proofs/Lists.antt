-- Lists whose elements are numbered, and cases on numbers.
use Rattle.std.proofs.Common.{◌≡◌, ℕ, zero, suc, ◌+◌, ◌<◌, ◌≤◌, ◌≢◌, List, [], ◌∷◌, ◌++◌, refl, arith, ap, subst, length, inl, inr, Option, None, Some, IsPermutation}
use Rattle.std.specs.Prelude.{◌⊎◌}
use Rattle.std.specs.List.{AllByRecursion as Every}
use Rattle.std.proofs.lemmas.List.Elements.{All-from_recursion, recursion_from_All}
use Rattle.std.proofs.lemmas.List.Sorted.{All-permutation}
use Rattle.bounded_model.specs.Gathers.{EachFrom}

pub same_or_not : (a b : ℕ) → (a ≡ b) ⊎ (a ≢ b)
same_or_not zero zero = inl refl
same_or_not zero (suc b) = inr (λ e. absurd (omega arith))
same_or_not (suc a) zero = inr (λ e. absurd (omega arith))
same_or_not (suc a) (suc b) = elim (same_or_not a b) [ inl e ↦ inl (ap suc e) | inr f ↦ inr (λ e. f (omega arith)) ]

pub EachFrom_weaker : {A : Type 0} (P Q : ℕ → A → Type 0) → ((a : ℕ) (w : A) → P a w → Q a w) → (a : ℕ) (ws : List A) → EachFrom P a ws → EachFrom Q a ws
EachFrom_weaker P Q f a [] h = tt
EachFrom_weaker P Q f a (w ∷ ws) h = (f a w h.0, EachFrom_weaker P Q f (suc a) ws h.1)

pub EachFrom_both : {A : Type 0} (P Q : ℕ → A → Type 0) (a : ℕ) (ws : List A) → EachFrom P a ws → EachFrom Q a ws → EachFrom (λ a w. P a w × Q a w) a ws
EachFrom_both P Q a [] h k = tt
EachFrom_both P Q a (w ∷ ws) h k = ((h.0, k.0), EachFrom_both P Q (suc a) ws h.1 k.1)

-- the worker of a number
pub EachFrom_at : {A : Type 0} (P : ℕ → A → Type 0) (a : ℕ) (ws : List A) → EachFrom P a ws → (k : ℕ) → a ≤ k → k < a + length ws → (w : A) × P k w
EachFrom_at P a [] h k low high = absurd (omega arith)
EachFrom_at P a (w ∷ ws) h k low high =
    elim (here a k low) [ inl e ↦ (w, subst (λ j. P j w) e h.0) | inr l ↦ EachFrom_at P (suc a) ws h.1 k l (omega arith) ]
  where
    here : (a k : ℕ) → a ≤ k → (a ≡ k) ⊎ (suc a ≤ k)
    here zero zero l = inl refl
    here zero (suc k) l = inr (omega arith)
    here (suc a) zero l = absurd (omega arith)
    here (suc a) (suc k) l = elim (here a k (omega arith)) [ inl e ↦ inl (ap suc e) | inr m ↦ inr (omega arith) ]

pub none_some : {A : Type 0} (o : Option A) (x : A) → o ≡ None → o ≡ Some x → ⊥
none_some o x a b = cc

pub some_same : {A : Type 0} (o : Option A) (x y : A) → o ≡ Some x → o ≡ Some y → x ≡ y
some_same o x y a b = cc

pub EachFrom_append : {A : Type 0} (F : ℕ → A → Type 0) (a b : ℕ) (xs ys : List A) → a + length xs ≡ b → EachFrom F a xs → EachFrom F b ys → EachFrom F a (xs ++ ys)
EachFrom_append F a b [] ys e h k = let same : b ≡ a = omega (arith, e) in subst (λ n. EachFrom F n ys) same k
EachFrom_append F a b (x ∷ xs) ys e h k = (h.0, EachFrom_append F (suc a) b xs ys (omega (arith, e)) h.1 k)

pub EachFrom_front : {A : Type 0} (F : ℕ → A → Type 0) (a : ℕ) (xs ys : List A) → EachFrom F a (xs ++ ys) → EachFrom F a xs
EachFrom_front F a [] ys h = tt
EachFrom_front F a (x ∷ xs) ys h = (h.0, EachFrom_front F (suc a) xs ys h.1)

pub EachFrom_back : {A : Type 0} (F : ℕ → A → Type 0) (a b : ℕ) (xs ys : List A) → a + length xs ≡ b → EachFrom F a (xs ++ ys) → EachFrom F b ys
EachFrom_back F a b [] ys e h = let same : a ≡ b = omega (arith, e) in subst (λ n. EachFrom F n ys) same h
EachFrom_back F a b (x ∷ xs) ys e h = EachFrom_back F (suc a) b xs ys (omega (arith, e)) h.1

pub Every_front : {A : Type 0} (F : A → Type 0) (xs ys : List A) → Every F (xs ++ ys) → Every F xs
Every_front F [] ys h = tt
Every_front F (x ∷ xs) ys h = (h.0, Every_front F xs ys h.1)

pub Every_back : {A : Type 0} (F : A → Type 0) (xs ys : List A) → Every F (xs ++ ys) → Every F ys
Every_back F [] ys h = h
Every_back F (x ∷ xs) ys h = Every_back F xs ys h.1

pub EachFrom_more : {A : Type 0} (P : ℕ → A → Type 0) (a b : ℕ) (xs : List A) (x : A) → a + length xs ≡ b → EachFrom P a xs → P b x → EachFrom P a (xs ++ x ∷ [])
EachFrom_more P a b [] x e h p = let here : b ≡ a = omega (arith, e) in (subst (λ k. P k x) here p, tt)
EachFrom_more P a b (y ∷ xs) x e h p = (h.0, EachFrom_more P (suc a) b xs x (omega (arith, e)) h.1 p)

pub Every_append : {A : Type 0} (F : A → Type 0) (xs ys : List A) → Every F xs → Every F ys → Every F (xs ++ ys)
Every_append F [] ys h k = k
Every_append F (x ∷ xs) ys h k = (h.0, Every_append F xs ys h.1 k)

pub Every_permutation : {A : Type 0} (F : A → Type 0) (xs ys : List A) → IsPermutation xs ys → Every F xs → Every F ys
Every_permutation F xs ys p h = recursion_from_All F ys (All-permutation F xs ys p (All-from_recursion F xs h))
