-- Tests of the machines, and what each outcome tells.
use Rattle.std.proofs.Common.{◌≡◌, ◌≢◌, ◌<◌, ◌≤◌, ◌⊎◌, inl, inr, ⊎_elim, ℕ, suc, ◌+◌, ◌&&◌, ◌||◌, Bool, true, false, cond, eqb, ltb, leb, refl, sym, eqb-true, eq-eqb, arith}
use Rattle.std.proofs.lemmas.Bool.{false≢true}
use Rattle.std.proofs.lemmas.Bool.Decides.{nat_tests, eqb_tells}
use Rattle.machine.specs.Words.{Tagged, same_mark, same}

-- a choice has what both of its values have
pub cases : {A : Type 0} (P : A → Type 0) (b : Bool) (x y : A) → (b ≡ true → P x) → (b ≡ false → P y) → P (cond b x y)
cases P true x y f g = f refl
cases P false x y f g = g refl

pub either_way : {C : Type 0} (b : Bool) → (b ≡ true → C) → (b ≡ false → C) → C
either_way true f g = f refl
either_way false f g = g refl

-- where a number is below a bound, and where it is not
pub if_below : {A : Type 0} (i n : ℕ) (x y : A) → i < n → cond (ltb i n) x y ≡ x
if_below i n x y low = cases (λ v. v ≡ x) (ltb i n) x y (λ b. refl) (λ b. absurd (grind (arith, nat_tests)))

pub if_not_below : {A : Type 0} (i n : ℕ) (x y : A) → n ≤ i → cond (ltb i n) x y ≡ y
if_not_below i n x y past = cases (λ v. v ≡ y) (ltb i n) x y (λ b. absurd (grind (arith, nat_tests))) (λ b. refl)

-- a test that cannot fail holds, and one that cannot hold fails
pub is_true : (b : Bool) → (b ≡ false → ⊥) → b ≡ true
is_true true h = refl
is_true false h = absurd (h refl)

pub is_false : (b : Bool) → (b ≡ true → ⊥) → b ≡ false
is_false true h = absurd (h refl)
is_false false h = refl

pub leb_yes : (a b : ℕ) → a ≤ b → leb a b ≡ true
leb_yes a b h = is_true (leb a b) (λ e. grind (arith, nat_tests))

pub leb_not : (a b : ℕ) → b < a → leb a b ≡ false
leb_not a b h = is_false (leb a b) (λ e. grind (arith, nat_tests))

pub same_or_not : (a b : ℕ) → (a ≡ b) ⊎ (a ≢ b)
same_or_not a b = ⊎_elim (λ t. inl t.1) (λ t. inr t.1) (eqb_tells a b)

pub both : (a b : Bool) → (a && b) ≡ true → (a ≡ true) × (b ≡ true)
both true b h = (refl, h)
both false b h = absurd (false≢true h)

pub neither : (a b : Bool) → (a || b) ≡ false → (a ≡ false) × (b ≡ false)
neither true b h = absurd (false≢true (sym h))
neither false b h = (refl, h)

same_mark-is : (a b : Bool) → same_mark a b ≡ true → a ≡ b
same_mark-is true true h = refl
same_mark-is true false h = absurd (false≢true h)
same_mark-is false true h = absurd (false≢true h)
same_mark-is false false h = refl

same_mark-self : (a : Bool) → same_mark a a ≡ true
same_mark-self true = refl
same_mark-self false = refl

-- words that the test finds the same are one word
pub same-is : (a b : Tagged) → same a b ≡ true → a ≡ b
same-is a b h =
    let x = both (eqb a.index b.index && same_mark a.mark b.mark && same_mark a.second b.second) (eqb a.tag b.tag) h in
    let y = both (eqb a.index b.index && same_mark a.mark b.mark) (same_mark a.second b.second) x.0 in
    let z = both (eqb a.index b.index) (same_mark a.mark b.mark) y.0 in
    let index = eqb-true a.index b.index z.0 in
    let mark = same_mark-is a.mark b.mark z.1 in
    let second = same_mark-is a.second b.second y.1 in
    let tag = eqb-true a.tag b.tag x.1 in
    λ k. record { index = index k; mark = mark k; second = second k; tag = tag k }

-- and one word is the same as itself
pub same-self : (a : Tagged) → same a a ≡ true
same-self a = rw (eq-eqb a.index a.index refl, same_mark-self a.mark, same_mark-self a.second, eq-eqb a.tag a.tag refl) refl

pub not_same : (a b : Tagged) → a ≢ b → same a b ≡ false
not_same a b ne = is_false (same a b) (λ e. ne (same-is a b e))

pub at_most_one : (i n : ℕ) → cond (ltb i n) 1 0 ≤ 1
at_most_one i n = grind arith

pub not_below : (i n : ℕ) → n ≤ i → cond (ltb i n) 1 0 ≤ 0
not_below i n h = cases (λ x. x ≤ 0) (ltb i n) 1 0 (λ b. absurd (grind (arith, nat_tests))) (λ b. omega arith)

pub one_of : (b : Bool) (x y n : ℕ) → x ≤ n → y ≤ n → cond b x y ≤ n
one_of true x y n h h' = h
one_of false x y n h h' = h'

-- Weights: how many steps more a line has left where a word that it has read is no longer there ..
unfoldable pub lost : Bool → ℕ → ℕ
lost here d = cond here 0 d

pub lost_small : (here : Bool) (d : ℕ) → lost here d ≤ d
unfolding lost
lost_small true d = omega arith
lost_small false d = omega arith

pub lost_none : (here : Bool) (d : ℕ) → here ≡ true → lost here d ≡ 0
unfolding lost
lost_none here d e = rw e refl

pub lost_all : (here : Bool) (d : ℕ) → here ≡ false → lost here d ≡ d
unfolding lost
lost_all here d e = rw e refl

pub lost_more : (here : Bool) (d e : ℕ) → lost here (d + e) ≤ lost here d + e
unfolding lost
lost_more true d e = omega arith
lost_more false d e = omega arith

pub lost_grows : (here : Bool) (d e : ℕ) → d ≤ e → lost here d ≤ lost here e
unfolding lost
lost_grows true d e h = omega arith
lost_grows false d e h = h

-- a word that was just read is there
pub fresh : (w : Tagged) (d : ℕ) → lost (same w w) d ≡ 0
fresh w d = lost_none (same w w) d (same-self w)

-- .. and where it has read two, the second after the first
unfoldable pub lost_two : Bool → Bool → ℕ → ℕ
lost_two first second d = cond first (cond second 0 (suc d)) d

pub lost_two_small : (first second : Bool) (d : ℕ) → lost_two first second d ≤ suc d
unfolding lost_two
lost_two_small true true d = omega arith
lost_two_small true false d = omega arith
lost_two_small false second d = omega arith

pub lost_first : (second : Bool) (d : ℕ) → lost_two true second d ≡ lost second (suc d)
unfolding lost lost_two
lost_first second d = refl

pub lost_both : (second : Bool) (d : ℕ) → lost_two false second d ≡ d
unfolding lost_two
lost_both second d = refl

pub lost_second : (first second : Bool) (d : ℕ) → second ≡ true → lost_two first second d ≡ lost first d
unfolding lost lost_two
lost_second true second d e = rw e refl
lost_second false second d e = refl

pub same_second : (first second second' : Bool) (d : ℕ) → (first ≡ true → second' ≡ second) → lost_two first second' d ≡ lost_two first second d
unfolding lost_two
same_second true second second' d e = rw (e refl) refl
same_second false second second' d e = refl
