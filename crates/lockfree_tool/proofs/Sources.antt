-- The sources of the names so far.
use Rattle.std.proofs.Common.{◌≡◌, ℕ, zero, suc, refl, ◌+◌, ◌<◌, ◌≤◌, List, [], ◌∷◌, ◌++◌, length, map, take, get_or, cond, count_by, ap, sym, ◌∙◌, arith, Bool, Option, None, Some, Result, Ok, Err, IfNone}
use Rattle.std.specs.Option.{ok_or}
use Rattle.std.proofs.lemmas.List.{take_more, map-append}
use Rattle.std.proofs.lemmas.List.Sums.{sum_by-append}
use Rattle.std.specs.List.{AllZip}
use Rattle.lockfree_tool.specs.Sources.{given}

pub zip-more : {A B : Type 0} (R : A → B → Type 0) (xs : List A) (ys : List B) (x : A) (y : B) → AllZip R xs ys → R x y → AllZip R (xs ++ x ∷ []) (ys ++ y ∷ [])
zip-more R [] [] x y all one = (one, tt)
zip-more R [] (b ∷ bs) x y all one = absurd all
zip-more R (a ∷ rest) [] x y all one = absurd all
zip-more R (a ∷ rest) (b ∷ bs) x y all one = (all.0, zip-more R rest bs x y all.1 one)

pub given-once : {I : Type 0} (input : Option I) → given input ≤ 1
given-once None = omega arith
given-once (Some i) = omega arith

-- the names so far, and one more
pub names-more : {N : Type 0} (text : N → List ℕ) (names : List N) (place : ℕ) (name : N) → place < length names → name ≡ get_or names place name
    → map text (take (place + 1) names) ≡ map text (take place names) ++ text name ∷ []
names-more text names place name within at =
    ap (map text) (take_more names place name within)
    ∙ map-append text (take place names) (get_or names place name ∷ [])
    ∙ ap (λ n. map text (take place names) ++ text n ∷ []) (sym at)

-- one more source, which took the standard input or left it
pub once-more : {X : Type 0} (p : X → Bool) (xs : List X) (x : X) (first before after : ℕ) → count_by p (x ∷ []) + after ≡ before → count_by p xs + before ≡ first
    → count_by p (xs ++ x ∷ []) + after ≡ first
once-more p xs x first before after used left =
    let more : count_by p (xs ++ x ∷ []) ≡ count_by p xs + count_by p (x ∷ []) = sum_by-append (λ y. cond (p y) 1 0) xs (x ∷ []) in
    omega (arith, more, used, left)

-- the names around a place, and how many are before it
pub names-around : {N : Type 0} (text : N → List ℕ) (names : List N) (place : ℕ) (name : N) → place < length names → name ≡ get_or names place name
    → (after : List (List ℕ)) × (map text names ≡ map text (take place names) ++ text name ∷ after) × (length (map text (take place names)) ≡ place)
names-around text [] place name within at = absurd (omega (arith, within))
names-around text (n ∷ names) zero name within at = (map text names, ap (λ m. text m ∷ map text names) (sym at), refl)
names-around text (n ∷ names) (suc place) name within at =
    let rest = names-around text names place name (omega (arith, within)) at in
    (rest.0, ap (λ (ts : List (List ℕ)). text n ∷ ts) rest.1, omega (arith, rest.2))

error_of : {S E : Type 0} → E → Result S E → E
error_of default (Ok s) = default
error_of default (Err e) = e

-- what was asked for is not there, and so this is the error
pub none-there : {S E : Type 0} (found : Option S) (why given : E) (P : Type 0) → Err why ≡ ok_or found given → IfNone found P → (why ≡ given) × P
unfolding error_of
none-there None why error P is none = (ap (error_of error) is, none)
none-there (Some s) why error P is none = absurd cc
