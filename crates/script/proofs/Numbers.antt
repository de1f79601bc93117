-- What is read as a number is how that number is written, and what is written is read again.
use Rattle.std.proofs.Common.{◌≡◌, ◌≢◌, ℕ, zero, suc, ◌^◌, ◌<◌, ◌⊎◌, Bool, true, false, cond, ltb, List, [], ◌∷◌, length, get_or, Option, Some, None, Result, Ok, Err, refl, sym, ap, subst, ◌∙◌, arith, inl, inr, ◌&&◌}
use Rattle.std.specs.Fmt.{decimal}
use Rattle.std.specs.Result.{result_ok}
use Rattle.std.specs.Str.{bytes_eq}
use Rattle.std.specs.Str.Parse.{AllDigits, digits_value, ParsesUnsigned}
use Rattle.std.proofs.lemmas.Bool.{lt-ltb, ltb-true}
use Rattle.std.proofs.lemmas.Fmt.{decimal_is_IsNumeral, first_decimal, decimal_digit, decimal-digits_value, parse-decimal}
use Rattle.std.proofs.lemmas.Slice.Eq.{bytes_eq-Decides}
use Rattle.std.proofs.lemmas.Str.Parse.{IsNumeralModel, numerals_by_value, tells_digits, parse_plain}
use Rattle.script.specs.Words.{number_of}

pub own : IsNumeralModel (AllDigits 10) (digits_value 10)
own = numerals_by_value (AllDigits 10) tells_digits

-- what is written is read again
pub number_again : (n : ℕ) → n < 2 ^ 64 → number_of (decimal n) ≡ Some n
unfolding number_of
number_again n small =
    rw ((decimal_is_IsNumeral n small).1, lt-ltb _ _ small, (bytes_eq-Decides (decimal n) (decimal n)).1 refl) refl

guarded : (a b : Bool) (m n : ℕ) → cond (a && b) (Some m) None ≡ Some n → (a ≡ true) × (b ≡ true) × (m ≡ n)
guarded true true m n e = (refl, refl, cc)
guarded true false m n e = absurd cc
guarded false b m n e = absurd cc

-- what is read is written so
pub number_found : (word : List ℕ) (n : ℕ) → number_of word ≡ Some n → (n < 2 ^ 64) × (word ≡ decimal n)
unfolding number_of
number_found word n e =
    let g = guarded (ltb (digits_value 10 word) (2 ^ 64)) (bytes_eq (decimal (digits_value 10 word)) word) (digits_value 10 word) n e in
    let value : digits_value 10 word ≡ n = g.2 in
    (subst (λ m. m < 2 ^ 64) value (ltb-true _ _ g.0), sym ((bytes_eq-Decides (decimal (digits_value 10 word)) word).0 g.1) ∙ ap decimal value)

option_cases : (o : Option ℕ) → (o ≡ None) ⊎ ((n : ℕ) × (o ≡ Some n))
option_cases None = inl refl
option_cases (Some n) = inr (n, refl)

-- a word that writes no number is refused
pub number_none : (word : List ℕ) → ((n : ℕ) → n < 2 ^ 64 → word ≡ decimal n → ⊥) → number_of word ≡ None
number_none word none =
    elim (option_cases (number_of word)) [
      | inl e ↦ e
      | inr s ↦ let f = number_found word s.0 s.1 in absurd (none s.0 f.0 f.1)
    ]

-- no number begins with a plus, nor one of two digits with a zero
first_digit : (n : ℕ) → n < 2 ^ 64 → (decimal n ≡ 48 ∷ []) ⊎ (48 < get_or (decimal n) 0 0)
first_digit zero small = inl (decimal_digit 0 (omega arith))
first_digit (suc n) small = inr (first_decimal (suc n) (omega arith) small)

pub refuses_plus : (word : List ℕ) → get_or word 0 0 ≡ 43 → number_of word ≡ None
refuses_plus word plus = number_none word (λ n small e.
    elim (first_digit n small) [
      | inl zero-is ↦ let h : get_or word 0 0 ≡ 48 = ap (λ (w : List ℕ). get_or w 0 0) (e ∙ zero-is) in omega arith
      | inr above ↦ let h : get_or word 0 0 ≡ get_or (decimal n) 0 0 = ap (λ (w : List ℕ). get_or w 0 0) e in omega arith
    ])

pub refuses_zero : (word : List ℕ) → get_or word 0 0 ≡ 48 → 1 < length word → number_of word ≡ None
refuses_zero word zero-first long = number_none word (λ n small e.
    elim (first_digit n small) [
      | inl zero-is ↦ let h : length word ≡ 1 = ap length (e ∙ zero-is) in omega arith
      | inr above ↦ let h : get_or word 0 0 ≡ get_or (decimal n) 0 0 = ap (λ (w : List ℕ). get_or w 0 0) e in omega arith
    ])

one_digit : (n : ℕ) → 0 < n → (1 < n → ⊥) → n ≡ 1
one_digit n some few = omega arith

-- what `parse` gives for the others
pub parsed_number : {E : Type 0} (word : List ℕ) (r : Result ℕ E) → ParsesUnsigned 64 10 word r → get_or word 0 0 ≢ 43 → (get_or word 0 0 ≡ 48 → 1 < length word → ⊥) → result_ok r ≡ number_of word
parsed_number {E} word (Ok n) parsed no-plus no-zero =
    let p = parse_plain own {E = E} 64 word (Ok n) parsed no-plus in
    let small : n < 2 ^ 64 = subst (λ (m : ℕ). m < 2 ^ 64) (sym p.1) p.0.2 in
    let spelled : decimal n ≡ word = ap decimal p.1 ∙ decimal-digits_value own word p.0.0 p.0.1 (λ z. one_digit (length word) p.0.1 (no-zero z)) p.0.2 in
    sym (subst (λ w. number_of w ≡ Some n) spelled (number_again n small))
parsed_number {E} word (Err e) parsed no-plus no-zero =
    sym (number_none word (λ n small is. let ok : Err e ≡ Ok n = parse-decimal 64 n word (Err e) small small is parsed in absurd cc))
