-- The fields of a word and its number: each reads back from the other.
use Rattle.std.proofs.Common.{◌≡◌, ◌≢◌, ℕ, zero, suc, ◌==◌, ◌+◌, ◌/◌, ◌%◌, ◌^◌, ◌<◌, ◌≤◌, ◌↔◌, Bool, true, false, refl, sym, ap, ◌∙◌, arith, bit_or}
use Rattle.tagged_index.specs.declared.word.TheConstants.{MARK_SHIFT, MARK_UNIT, SECOND_SHIFT, SECOND_UNIT, NULL, MAX_TAG}
use Rattle.tagged_index.specs.Fields.{Fields, IsInRange, bit, number, fields_of, index_of, mark_of, second_of, tag_of, kept, raised, marked, with_second}
use Rattle.tagged_index.proofs.Bits.{or_bit}

-- A bit and the test for it.

bit-below : (b : Bool) → bit b < 2
bit-below true = omega arith
bit-below false = omega arith

bit-test : (b : Bool) → (bit b == 1) ≡ b
bit-test true = refl
bit-test false = refl

test-bit : (q : ℕ) → q < 2 → bit (q == 1) ≡ q
test-bit zero h = refl
test-bit (suc zero) h = refl
test-bit (suc (suc q)) h = absurd (omega arith)

-- Fields read back from their number.

pub index_of-number : (f : Fields) → f.index ≤ NULL → index_of (number f) ≡ f.index
index_of-number f h = omega arith

pub mark_of-number : (f : Fields) → f.index ≤ NULL → mark_of (number f) ≡ f.mark
mark_of-number f h =
    let below : bit f.mark < 2 = bit-below f.mark in
    let digit : number f / MARK_UNIT % 2 ≡ bit f.mark = omega arith in
    ap (λ n. n == 1) digit ∙ bit-test f.mark

pub second_of-number : (f : Fields) → f.index ≤ NULL → second_of (number f) ≡ f.second
second_of-number f h =
    let below : bit f.mark < 2 = bit-below f.mark in
    let below_too : bit f.second < 2 = bit-below f.second in
    let digit : number f / SECOND_UNIT % 2 ≡ bit f.second = omega arith in
    ap (λ n. n == 1) digit ∙ bit-test f.second

pub tag_of-number : (f : Fields) → f.index ≤ NULL → tag_of (number f) ≡ f.tag
tag_of-number f h =
    let below : bit f.mark < 2 = bit-below f.mark in
    let below_too : bit f.second < 2 = bit-below f.second in
    omega arith

pub fields_of-number : (f : Fields) → f.index ≤ NULL → fields_of (number f) ≡ f
fields_of-number f h = rw (index_of-number f h, mark_of-number f h, second_of-number f h, tag_of-number f h) refl

-- every number is that of its fields
pub number-fields_of : (w : ℕ) → number (fields_of w) ≡ w
number-fields_of w =
    let mark : bit (mark_of w) ≡ w / MARK_UNIT % 2 = test-bit (w / MARK_UNIT % 2) (omega arith) in
    let second : bit (second_of w) ≡ w / SECOND_UNIT % 2 = test-bit (w / SECOND_UNIT % 2) (omega arith) in
    rw (mark, second) (omega arith)

-- a word whose fields are known is known
pub number_of_fields : (w : ℕ) (f : Fields) → fields_of w ≡ f → w ≡ number f
number_of_fields w f e = sym (number-fields_of w) ∙ ap number e

-- two words are equal exactly where their four fields are
pub same_fields : (v w : ℕ) → (v ≡ w) ↔ (fields_of v ≡ fields_of w)
same_fields v w = (λ e. ap fields_of e, λ e. number_of_fields v (fields_of w) e ∙ number-fields_of w)

-- Ranges.

pub index_of-in_range : (w : ℕ) → index_of w ≤ NULL
index_of-in_range w = omega arith

-- a raised word is another word
pub raised-differs : (f : Fields) (i : ℕ) → raised f i ≢ f
raised-differs f i e = let same : f.tag + 1 ≡ f.tag = ap (λ (g : Fields). g.tag) e in omega arith

-- What setting a bit of a word does to its fields.

or-mark : (w : ℕ) → bit_or w MARK_UNIT ≡ number (marked (fields_of w))
or-mark w =
    let second : bit (second_of w) ≡ w / SECOND_UNIT % 2 = test-bit (w / SECOND_UNIT % 2) (omega arith) in
    or_bit MARK_SHIFT w ∙ omega arith

or-second : (w : ℕ) → bit_or w SECOND_UNIT ≡ number (with_second (fields_of w))
or-second w =
    let mark : bit (mark_of w) ≡ w / MARK_UNIT % 2 = test-bit (w / MARK_UNIT % 2) (omega arith) in
    or_bit SECOND_SHIFT w ∙ omega arith

pub fields_of_or_mark : (w : ℕ) → fields_of (bit_or w MARK_UNIT) ≡ marked (fields_of w)
fields_of_or_mark w = rw (or-mark w) (fields_of-number (marked (fields_of w)) (index_of-in_range w))

pub fields_of_or_second : (w : ℕ) → fields_of (bit_or w SECOND_UNIT) ≡ with_second (fields_of w)
fields_of_or_second w = rw (or-second w) (fields_of-number (with_second (fields_of w)) (index_of-in_range w))
