-- How often an index stands in a list, and lists that stand in links.
use Rattle.std.proofs.Common.{◌≡◌, ℕ, zero, suc, ◌+◌, ◌<◌, ◌≢◌, List, [], ◌∷◌, ◌++◌, remove, refl, sym, ap, subst, eq-eqb, ne_eqb, arith, length}
use mathlib.Core.Option.{some, some-injective, some-ne-none}
use lib.ListN.{get_elem?}
use Rattle.machine.specs.Words.{store, times, Leads}

pub none_of : (is : List ℕ) → length is ≡ 0 → is ≡ []
none_of [] h = refl
none_of (j ∷ js) h = absurd (omega arith)

pub times_here : (i : ℕ) (is : List ℕ) → times i (i ∷ is) ≡ 1 + times i is
times_here i is = rw (eq-eqb i i refl) refl

pub times_else : (i j : ℕ) (is : List ℕ) → i ≢ j → times i (j ∷ is) ≡ times i is
times_else i j is ne = rw (ne_eqb i j ne) (omega arith)

pub times_append : (i : ℕ) (is js : List ℕ) → times i (is ++ js) ≡ times i is + times i js
times_append i [] js = omega arith
times_append i (x ∷ is) js = let h = times_append i is js in omega arith

-- the element at a place is there, and the rest has it once less
pub times_remove : (i j : ℕ) (xs : List ℕ) (place : ℕ) → get_elem? xs place ≡ some j → times i (j ∷ remove xs place) ≡ times i xs
times_remove i j [] place e = absurd (some-ne-none j (sym e))
times_remove i j (x ∷ xs) zero e = let h = some-injective x j e in ap (λ (y : ℕ). times i (y ∷ xs)) (sym h)
times_remove i j (x ∷ xs) (suc place) e = let h = times_remove i j xs place e in omega arith

-- an index that is not in a list is none of it
pub not_there : (i j : ℕ) (is : List ℕ) → times i is ≡ 0 → 0 < times j is → j ≢ i
not_there i j is h there e = let q : times j is ≡ times i is = ap (λ (k : ℕ). times k is) e in omega arith

pub store_here : (link : ℕ → ℕ) (i x : ℕ) → store link i x i ≡ x
store_here link i x = rw (eq-eqb i i refl) refl

pub store_else : (link : ℕ → ℕ) (i x j : ℕ) → j ≢ i → store link i x j ≡ link j
store_else link i x j ne = rw (ne_eqb j i ne) refl

-- a list stands as long as its own links stay
pub leads_frame : (link link' : ℕ → ℕ) (list : List ℕ) (x y : ℕ) → ((j : ℕ) → 0 < times j list → link' j ≡ link j) → Leads link x list y → Leads link' x list y
leads_frame link link' [] x y h l = l
leads_frame link link' (i ∷ is) x y h l =
    let here : link' i ≡ link i = h i (omega (arith, times_here i is)) in
    let rest : Leads link' (link i) is y = leads_frame link link' is (link i) y (λ j there. h j (omega arith)) l.1 in
    (l.0, rw here rest)

pub leads_append : (link : ℕ → ℕ) (x : ℕ) (a : List ℕ) (y : ℕ) (b : List ℕ) (z : ℕ) → Leads link x a y → Leads link y b z → Leads link x (a ++ b) z
leads_append link x [] y b z l s = subst (λ (u : ℕ). Leads link u b z) (sym l) s
leads_append link x (i ∷ is) y b z l s = (l.0, leads_append link (link i) is y b z l.1 s)

-- a list starts where its first link leads from, said of another name for that index
pub leads_from : (link : ℕ → ℕ) (x x' : ℕ) (list : List ℕ) (y : ℕ) → x ≡ x' → Leads link x list y → Leads link x' list y
leads_from link x x' list y e l = subst (λ (u : ℕ). Leads link u list y) e l
