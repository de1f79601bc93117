-- What stands before the same acts is the same.
use Rattle.std.proofs.Common.{◌≡◌, List, [], ◌∷◌, ◌++◌, length, length-append, refl, ap, ◌∙◌, arith}

module _ {A : Type 0} where
  abbrev front : A → List A → A
  front other [] = other
  front other (a ∷ rest) = a

  abbrev behind : List A → List A
  behind [] = []
  behind (a ∷ rest) = rest

  pub same_front : (xs ys zs : List A) → xs ++ zs ≡ ys ++ zs → xs ≡ ys
  same_front [] [] zs e = refl
  same_front [] (y ∷ ys) zs e = absurd (let more = ap length e in let long = length-append ys zs in omega (arith, more, long))
  same_front (x ∷ xs) [] zs e = absurd (let more = ap length e in let long = length-append xs zs in omega (arith, more, long))
  same_front (x ∷ xs) (y ∷ ys) zs e = ap (λ (a : A). a ∷ xs) (ap (front x) e) ∙ ap (λ (zs' : List A). y ∷ zs') (same_front xs ys zs (ap behind e))
