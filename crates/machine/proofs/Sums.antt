-- The passes as a list, and sums over it, when one of them changes.
use Rattle.std.proofs.Common.{◌≡◌, ◌⊎◌, inl, inr, ⊎_elim, ℕ, zero, suc, ◌+◌, ◌≤◌, ◌≢◌, List, [], ◌∷◌, ◌++◌, set, replicate, map, refl, sym, ap, arith}
use mathlib.Core.Option.{some, some-injective, some-ne-none}
use lib.ListN.{get_elem?}
use Rattle.machine.specs.Words.{total}

module _ {V : Type 0} (f : V → ℕ) where
  pub total_set : (vs : List V) (p : ℕ) (v v' : V) → get_elem? vs p ≡ some v → total f (set vs p v') + f v ≡ total f vs + f v'
  total_set [] p v v' e = absurd (some-ne-none v (sym e))
  total_set (u ∷ us) zero v v' e = let h : f u ≡ f v = ap f (some-injective u v e) in omega arith
  total_set (u ∷ us) (suc p) v v' e = let h = total_set us p v v' e in omega arith

  pub total_one : (vs : List V) (p : ℕ) (v : V) → get_elem? vs p ≡ some v → f v ≤ total f vs
  total_one [] p v e = absurd (some-ne-none v (sym e))
  total_one (u ∷ us) zero v e = let h : f u ≡ f v = ap f (some-injective u v e) in omega arith
  total_one (u ∷ us) (suc p) v e = let h = total_one us p v e in omega arith

  pub total_two : (vs : List V) (p q : ℕ) (v u : V) → q ≢ p → get_elem? vs p ≡ some v → get_elem? vs q ≡ some u → f v + f u ≤ total f vs
  total_two [] p q v u ne e e' = absurd (some-ne-none v (sym e))
  total_two (x ∷ xs) zero zero v u ne e e' = absurd (ne refl)
  total_two (x ∷ xs) zero (suc q) v u ne e e' = let h : f x ≡ f v = ap f (some-injective x v e) in let o = total_one xs q u e' in omega arith
  total_two (x ∷ xs) (suc p) zero v u ne e e' = let h : f x ≡ f u = ap f (some-injective x u e') in let o = total_one xs p v e in omega arith
  total_two (x ∷ xs) (suc p) (suc q) v u ne e e' = let o = total_two xs p q v u (λ h. ne (ap suc h)) e e' in omega arith

  pub total_same : (v : V) (k : ℕ) → f v ≡ 0 → total f (replicate k v) ≡ 0
  total_same v zero h = refl
  total_same v (suc k) h = let r = total_same v k h in omega arith

-- who stands at a place after one pass changed
module _ {V : Type 0} where
  pub at_set : (vs : List V) (p q : ℕ) (v u : V) → get_elem? (set vs p v) q ≡ some u → ((q ≡ p) × (v ≡ u)) ⊎ ((q ≢ p) × (get_elem? vs q ≡ some u))
  at_set [] p q v u e = absurd (some-ne-none u (sym e))
  at_set (x ∷ xs) zero zero v u e = inl (refl, some-injective v u e)
  at_set (x ∷ xs) zero (suc q) v u e = inr ((λ h. omega arith), e)
  at_set (x ∷ xs) (suc p) zero v u e = inr ((λ h. omega arith), e)
  at_set (x ∷ xs) (suc p) (suc q) v u e = ⊎_elim (λ t. inl (ap suc t.0, t.1)) (λ t. let n = t.0 in inr ((λ h. n (omega arith)), t.1)) (at_set xs p q v u e)

pub total_map : {A B : Type 0} (f : B → ℕ) (g : A → B) (xs : List A) → total f (map g xs) ≡ total (λ x. f (g x)) xs
total_map f g [] = refl
total_map f g (x ∷ xs) = let h = total_map f g xs in omega arith

-- elements of lists

pub same_at : {A : Type 0} (k p : ℕ) (x y : A) → get_elem? (replicate k x) p ≡ some y → x ≡ y
same_at zero p x y e = absurd (some-ne-none y (sym e))
same_at (suc k) zero x y e = some-injective x y e
same_at (suc k) (suc p) x y e = same_at k p x y e

module _ {A B : Type 0} (f : A → B) where
  pub at_map : (xs : List A) (i : ℕ) (x : A) → get_elem? xs i ≡ some x → get_elem? (map f xs) i ≡ some (f x)
  at_map [] i x e = absurd (some-ne-none x (sym e))
  at_map (y ∷ ys) zero x e = ap (λ (z : A). some (f z)) (some-injective y x e)
  at_map (y ∷ ys) (suc i) x e = at_map ys i x e

-- one more value at the end
pub total_snoc : {A : Type 0} (f : A → ℕ) (xs : List A) (x : A) → total f (xs ++ x ∷ []) ≡ total f xs + f x
total_snoc f [] x = omega arith
total_snoc f (y ∷ ys) x = let r = total_snoc f ys x in omega arith
