-- Two loops over a list: the first starts a thread for each job, the second joins each.
use Rattle.std.proofs.Common.{◌≡◌, List, [], ◌∷◌, ◌++◌, refl, length, arith, sym, ◌∙◌, ap, subst, append-nil}
use Rattle.std.specs.List.{AllZip}

pub again : {A : Type 0} (xs : List A) (x : A) (ys : List A) → xs ++ x ∷ ys ≡ (xs ++ x ∷ []) ++ ys
again [] x ys = refl
again (a ∷ xs) x ys = ap (λ l. a ∷ l) (again xs x ys)

module _ {A B : Type 0} (R : A → B → Type 0) where
  -- R of what was gone over and what it gave, with this rest to come
  pub record So (all rest : List A) (done : List B) : Type 0 where
    pub front : List A
    pub is : all ≡ front ++ rest
    pub each : AllZip R front done

  pub So_none : (all : List A) → So all all []
  So_none all = record { front = []; is = refl; each = tt }

  pub zip_more : (xs : List A) (ys : List B) (x : A) (y : B) → AllZip R xs ys → R x y → AllZip R (xs ++ x ∷ []) (ys ++ y ∷ [])
  zip_more [] [] x y z r = (r, tt)
  zip_more [] (b ∷ ys) x y z r = absurd z
  zip_more (a ∷ xs) [] x y z r = absurd z
  zip_more (a ∷ xs) (b ∷ ys) x y z r = (z.0, zip_more xs ys x y z.1 r)

  pub So_more : (all : List A) (x : A) (rest : List A) (done : List B) (y : B) → So all (x ∷ rest) done → R x y → So all rest (done ++ y ∷ [])
  So_more all x rest done y s r = record { front = s.front ++ x ∷ []; is = s.is ∙ again s.front x rest; each = zip_more s.front done x y s.each r }

  pub So_all : (all rest : List A) (done : List B) → So all rest done → rest ≡ [] → AllZip R all done
  So_all all rest done s e = subst (λ l. AllZip R l done) (sym (s.is ∙ (ap (λ l. s.front ++ l) e ∙ append-nil s.front))) s.each

-- through the children
pub zip_through : {A B C : Type 0} (R : A → B → Type 0) (S : B → C → Type 0) (Q : A → C → Type 0) → ((a : A) (b : B) (c : C) → R a b → S b c → Q a c)
    → (xs : List A) (ys : List B) (zs : List C) → AllZip R xs ys → AllZip S ys zs → AllZip Q xs zs
zip_through R S Q f [] [] [] r s = tt
zip_through R S Q f [] [] (z ∷ zs) r s = absurd s
zip_through R S Q f [] (y ∷ ys) zs r s = absurd r
zip_through R S Q f (x ∷ xs) [] zs r s = absurd r
zip_through R S Q f (x ∷ xs) (y ∷ ys) [] r s = absurd s
zip_through R S Q f (x ∷ xs) (y ∷ ys) (z ∷ zs) r s = (f x y z r.0 s.0, zip_through R S Q f xs ys zs r.1 s.1)

pub is_nil : {B : Type 0} (xs : List B) → length xs ≡ 0 → xs ≡ []
is_nil [] e = refl
is_nil (x ∷ xs) e = absurd (omega arith)
