-- Setting one bit of a number.
use Rattle.std.proofs.Common.{◌≡◌, ℕ, zero, suc, ◌+◌, ◌*◌, ◌/◌, ◌%◌, ◌^◌, ◌<◌, refl, arith, ◌∙◌, bit_or}
use Rattle.std.specs.Int.Bits.{or_zero_r}
use Rattle.std.proofs.lemmas.Nat.{or_block, pow_pos}

or_one-bit : (b : ℕ) → b < 2 → bit_or b 1 ≡ 1
or_one-bit zero h = refl
or_one-bit (suc zero) h = refl
or_one-bit (suc (suc b)) h = absurd (omega arith)

-- the lowest bit set
or_one : (a : ℕ) → bit_or a 1 ≡ a / 2 * 2 + 1
or_one a =
    let halves : a / 2 * 2 ^ 1 + a % 2 ≡ a = omega arith in
    let block = or_block 1 (a / 2) 0 (a % 2) 1 (omega arith) (omega arith) in
    rw halves at block ∙ rw (or_one-bit (a % 2) (omega arith), or_zero_r (a / 2)) refl

-- the lowest bit above k lower bits set
or_block-bit : (k a r : ℕ) → r < 2 ^ k → bit_or (a * 2 ^ k + r) (1 * 2 ^ k + 0) ≡ (a / 2 * 2 + 1) * 2 ^ k + r
or_block-bit k a r h = or_block k a 1 r 0 h (pow_pos k) ∙ rw (or_one a, or_zero_r r) refl

-- bit k set
pub or_bit : (k w : ℕ) → bit_or w (2 ^ k) ≡ (w / 2 ^ k / 2 * 2 + 1) * 2 ^ k + w % 2 ^ k
or_bit k w =
    let positive : 0 < 2 ^ k = pow_pos k in
    let split : w / 2 ^ k * 2 ^ k + w % 2 ^ k ≡ w = omega arith in
    let one : 1 * 2 ^ k + 0 ≡ 2 ^ k = omega arith in
    rw (split, one) at (or_block-bit k (w / 2 ^ k) (w % 2 ^ k) (omega arith))
