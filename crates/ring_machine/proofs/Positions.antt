-- Positions: their places, and that no two slots share one.
use Rattle.std.proofs.Common.{◌≡◌, ◌≢◌, ℕ, ◌+◌, ◌*◌, ◌<◌, ◌≤◌, eqb, refl, sym, subst, ⊎_elim, mul-le-mul_right, lt_of_not-le, eqb-true, eq-eqb, ne_eqb, arith}
use Rattle.std.proofs.lemmas.Bool.Decides.{nat_tests, eqb_tells}
use Rattle.std.proofs.lemmas.Nat.{same_from_place}
use Rattle.machine.specs.Words.{Tagged}
use Rattle.machine.proofs.Tests.{cases}
use Rattle.ring_machine.specs.Machine.{place, behind, store_word}

-- the position behind has the next place, and is one of a slot
pub place_behind : (n : ℕ) (w : Tagged) → w.index < n → place n (behind n w) ≡ place n w + 1
place_behind n w low = cases (λ (x : Tagged). place n x ≡ place n w + 1) (eqb (w.index + 1) n) (record w { index = 0; tag = w.tag + 1 }) (record w { index = w.index + 1 })
    (λ b. let e : w.index + 1 ≡ n = eqb-true (w.index + 1) n b in omega arith)
    (λ b. omega arith)

pub slot_behind : (n : ℕ) (w : Tagged) → w.index < n → (behind n w).index < n
slot_behind n w low = cases (λ (x : Tagged). x.index < n) (eqb (w.index + 1) n) (record w { index = 0; tag = w.tag + 1 }) (record w { index = w.index + 1 })
    (λ b. omega arith)
    (λ b. grind (arith, nat_tests))

-- what is not less is no less
pub not_before : (a b : ℕ) → (a < b → ⊥) → b ≤ a
not_before a b never = let h : b < a + 1 = lt_of_not-le (λ le. never (omega arith)) in omega arith

-- places at one slot are in the order of their laps
pub lap_order : (n i lap lap' : ℕ) → lap < lap' → lap * n + i + n ≤ lap' * n + i
lap_order n i lap lap' less = let h : (lap + 1) * n ≤ lap' * n = mul-le-mul_right n (omega (arith, less)) in omega (arith, h)

pub lap_up_to : (n i lap lap' : ℕ) → i < n → lap * n + i ≤ lap' * n + i → lap ≤ lap'
lap_up_to n i lap lap' low le = not_before lap' lap (λ less. absurd (omega (arith, low, le, lap_order n i lap' lap less)))

pub lap_before : (n i lap lap' : ℕ) → i < n → lap * n + i < lap' * n + i → lap < lap'
lap_before n i lap lap' low less = lt_of_not-le (λ le. let h : lap' * n ≤ lap * n = mul-le-mul_right n le in absurd (omega (arith, less, h)))

-- and no place is at two slots
pub other_slot : (n i j lap lap' : ℕ) → i < n → j < n → j ≢ i → lap' * n + j ≢ lap * n + i
other_slot n i j lap lap' low low' ne e = ne (same_from_place lap' j lap i n low' low e).1

-- a lap is no longer than the places before it
pub laps_small : (n lap : ℕ) → 0 < n → lap ≤ lap * n
laps_small n lap h = let r : 1 * lap ≤ n * lap = mul-le-mul_right lap (omega (arith, h)) in omega (arith, r)

-- what holds of the word that was stored, and of each other
pub word_each : (P : ℕ → Tagged → Type 0) (slot : ℕ → Tagged) (i : ℕ) (x : Tagged) → P i x → ((j : ℕ) → j ≢ i → P j (slot j)) → (j : ℕ) → P j (store_word slot i x j)
word_each P slot i x here others j = ⊎_elim
    (λ t. subst (λ (k : ℕ). P k (store_word slot i x k)) (sym t.1) (rw (eq-eqb i i refl) here))
    (λ t. rw (ne_eqb j i t.1) (others j t.1))
    (eqb_tells j i)

pub word_here : (slot : ℕ → Tagged) (i : ℕ) (x : Tagged) → store_word slot i x i ≡ x
word_here slot i x = rw (eq-eqb i i refl) refl

pub word_else : (slot : ℕ → Tagged) (i : ℕ) (x : Tagged) (j : ℕ) → j ≢ i → store_word slot i x j ≡ slot j
word_else slot i x j ne = rw (ne_eqb j i ne) refl
