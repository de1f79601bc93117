-- A text that is cut at its first byte of a kind.
use Rattle.std.proofs.Common.{◌≡◌, ◌≢◌, ℕ, zero, suc, ◌+◌, ◌-◌, ◌<◌, ◌≤◌, ◌⊎◌, eqb, List, [], ◌∷◌, ◌++◌, length, get_or, Option, Some, None, option_map, refl, sym, ap, subst, ◌∙◌, arith, inl, inr, Bor, take, drop, append_assoc}
use Rattle.std.specs.List.{position_from}
use Rattle.std.proofs.lemmas.List.{take_at, drop_at, length-append}
use Rattle.std.proofs.lemmas.Bool.{eq-eqb, ne_eqb}
use Rattle.std.proofs.lemmas.Bool.Decides.{eqb_tells}
use Rattle.std.proofs.lemmas.Str.Pattern.{IsSplitOnceResult, split_parts}
use Rattle.script.specs.Reading.{is_ended}
use Rattle.script.specs.Words.{cut_at}

abbrev pub Lacks : ℕ → List ℕ → Type 0
Lacks byte bs = (i : ℕ) → i < length bs → get_or bs i 0 ≢ byte

pub Lacks-cons : (byte b : ℕ) (bs : List ℕ) → b ≢ byte → Lacks byte bs → Lacks byte (b ∷ bs)
Lacks-cons byte b bs here more zero lt = here
Lacks-cons byte b bs here more (suc i) lt = more i (omega arith)

pub Lacks-rest : (byte b : ℕ) (bs : List ℕ) → Lacks byte (b ∷ bs) → Lacks byte bs
Lacks-rest byte b bs lacks i lt = lacks (suc i) (omega arith)

-- a text is cut at the byte that stands behind a part without it
pub cut_again : (byte : ℕ) (xs ys : List ℕ) → Lacks byte xs → cut_at byte (xs ++ byte ∷ ys) ≡ Some (xs, ys)
cut_again byte [] ys lacks = rw (eq-eqb byte byte refl) refl
cut_again byte (x ∷ xs) ys lacks =
    rw (ne_eqb x byte (lacks 0 (omega arith)), cut_again byte xs ys (Lacks-rest byte x xs lacks)) refl

pub cut_none : (byte : ℕ) (bs : List ℕ) → Lacks byte bs → cut_at byte bs ≡ None
cut_none byte [] lacks = refl
cut_none byte (b ∷ bs) lacks =
    rw (ne_eqb b byte (lacks 0 (omega arith)), cut_none byte bs (Lacks-rest byte b bs lacks)) refl

-- what a cut leaves
pub record Cut (byte : ℕ) (bs xs ys : List ℕ) : Type 0 where
  pub parts : bs ≡ xs ++ byte ∷ ys
  pub lacks : Lacks byte xs

-- what is cut off after one more byte
abbrev pub onto_cut : ℕ → List ℕ × List ℕ → List ℕ × List ℕ
onto_cut b parts = (b ∷ parts.0, parts.1)

same_some : (p q : List ℕ × List ℕ) → Some p ≡ Some q → p ≡ q
same_some p q e = cc

mapped : (o : Option (List ℕ × List ℕ)) (b : ℕ) (p : List ℕ × List ℕ) → option_map (onto_cut b) o ≡ Some p → (q : List ℕ × List ℕ) × (o ≡ Some q) × (onto_cut b q ≡ p)
mapped None b p e = absurd cc
mapped (Some q) b p e = (q, refl, same_some (onto_cut b q) p e)

cut_found_at : (byte : ℕ) (bs : List ℕ) (p : List ℕ × List ℕ) → cut_at byte bs ≡ Some p → Cut byte bs p.0 p.1
cut_found_at byte [] p e = absurd cc
cut_found_at byte (b ∷ bs) p e =
    let P : List ℕ × List ℕ → Type 0 = λ q. Cut byte (b ∷ bs) q.0 q.1 in
    elim (eqb_tells b byte) [
      | inl here ↦
          let first : List ℕ × List ℕ = ([], bs) in
          subst P (same_some first p (rw here.0 at e)) (record { parts = rw here.1 refl; lacks = λ i lt. absurd (omega arith) })
      | inr other ↦
          let m = mapped (cut_at byte bs) b p (rw other.0 at e) in
          let f = cut_found_at byte bs m.0 m.1 in
          subst P m.2 (record { parts = ap (λ (ws : List ℕ). b ∷ ws) f.parts; lacks = Lacks-cons byte b m.0.0 other.1 f.lacks })
    ]

pub cut_found : (byte : ℕ) (bs xs ys : List ℕ) → cut_at byte bs ≡ Some (xs, ys) → Cut byte bs xs ys
cut_found byte bs xs ys e = cut_found_at byte bs (xs, ys) e

pub shorter_cut : (byte : ℕ) (bs xs ys : List ℕ) → cut_at byte bs ≡ Some (xs, ys) → length ys + 1 ≤ length bs
shorter_cut byte bs xs ys e =
    let c = cut_found byte bs xs ys e in
    omega (arith, ap length c.parts, length-append xs (byte ∷ ys))

-- a text that has no cut
no_cut-onto : (b : ℕ) (o : Option (List ℕ × List ℕ)) → option_map (onto_cut b) o ≡ None → o ≡ None
no_cut-onto b None e = refl
no_cut-onto b (Some p) e = absurd cc

pub no_cut-head : (byte b : ℕ) (text : List ℕ) → cut_at byte (b ∷ text) ≡ None → (b ≢ byte) × (cut_at byte text ≡ None)
no_cut-head byte b text e =
    elim (eqb_tells b byte) [
      | inl here ↦ let first : List ℕ × List ℕ = ([], text) in let there : Some first ≡ None = rw here.0 at e in absurd cc
      | inr other ↦ (other.1, no_cut-onto b (cut_at byte text) (rw other.0 at e))
    ]

-- what `split_once` gives
abbrev pub seen_parts : Option (Bor (List ℕ) × Bor (List ℕ)) → Option (List ℕ × List ℕ)
seen_parts o = option_map (λ parts. (parts.0.now, parts.1.now)) o

pub split_once_cuts : (byte : ℕ) (bs : List ℕ) (r : Option (Bor (List ℕ) × Bor (List ℕ))) → IsSplitOnceResult byte bs r → byte < 128 → seen_parts r ≡ cut_at byte bs
split_once_cuts byte bs None gives small = sym (cut_none byte bs (split_parts byte bs None gives small))
split_once_cuts byte bs (Some x) gives small =
    let p = split_parts byte bs (Some x) gives small in
    rw p.0 (sym (cut_again byte x.0.now x.1.now p.1))

-- ---- a cut by the place of the byte

place-cut : (byte : ℕ) (bs : List ℕ) (i : ℕ) → position_from (λ b. eqb b byte) i bs ≡ option_map (λ (parts : List ℕ × List ℕ). i + length parts.0) (cut_at byte bs)
place-cut byte [] i = refl
place-cut byte (b ∷ bs) i =
    elim (eqb_tells b byte) [
      | inl here ↦ rw here.0 (ap Some (omega arith))
      | inr other ↦ rw other.0 (place-cut byte bs (i + 1) ∙ longer i b (cut_at byte bs))
    ]
  where
    longer : (i b : ℕ) (o : Option (List ℕ × List ℕ)) → option_map (λ (parts : List ℕ × List ℕ). (i + 1) + length parts.0) o ≡ option_map (λ (parts : List ℕ × List ℕ). i + length parts.0) (option_map (onto_cut b) o)
    longer i b None = refl
    longer i b (Some p) = ap Some (omega arith)

cut_cases : (o : Option (List ℕ × List ℕ)) → (o ≡ None) ⊎ ((p : List ℕ × List ℕ) × (o ≡ Some p))
cut_cases None = inl refl
cut_cases (Some p) = inr (p, refl)

abbrev place_of : List ℕ × List ℕ → ℕ
place_of parts = 0 + length parts.0

-- where the byte has no place, there is no cut
pub no_place-no_cut : (byte : ℕ) (bs : List ℕ) → position_from (λ b. eqb b byte) 0 bs ≡ None → cut_at byte bs ≡ None
no_place-no_cut byte bs e =
    elim (cut_cases (cut_at byte bs)) [
      | inl none ↦ none
      | inr s ↦
          let there : Some (place_of s.0) ≡ None = sym (ap (option_map place_of) s.1) ∙ sym (place-cut byte bs 0) ∙ e in
          absurd cc
    ]

-- where it has one, the cut is there
pub place-is-cut : (byte : ℕ) (bs : List ℕ) (at : ℕ) → position_from (λ b. eqb b byte) 0 bs ≡ Some at → cut_at byte bs ≡ Some (take at bs, drop (at + 1) bs)
place-is-cut byte bs at e =
    elim (cut_cases (cut_at byte bs)) [
      | inl none ↦
          let nowhere : None ≡ Some at = sym (ap (option_map place_of) none) ∙ sym (place-cut byte bs 0) ∙ e in
          absurd cc
      | inr s ↦
          let xs = s.0.0 in
          let ys = s.0.1 in
          let there : Some (place_of s.0) ≡ Some at = sym (ap (option_map place_of) s.1) ∙ sym (place-cut byte bs 0) ∙ e in
          let place : 0 + length xs ≡ at = cc in
          let f = cut_found_at byte bs s.0 s.1 in
          let front : take at bs ≡ xs = rw f.parts (take_at xs (byte ∷ ys) at (omega arith)) in
          let back : drop (at + 1) bs ≡ ys = rw (f.parts ∙ sym (append_assoc xs (byte ∷ []) ys)) (drop_at (xs ++ byte ∷ []) ys (at + 1) (omega (arith, length-append xs (byte ∷ [])))) in
          let P : List ℕ → List ℕ → Type 0 = λ x y. cut_at byte bs ≡ Some (x, y) in
          subst (λ (x : List ℕ). P x (drop (at + 1) bs)) (sym front) (subst (λ (y : List ℕ). P xs y) (sym back) s.1)
    ]

-- ---- the lines of a text

-- a text that isn't empty ends with its last byte
ends_at : (bs : List ℕ) (d last : ℕ) → last + 1 ≡ length bs → eqb (get_or bs last d) 10 ≡ is_ended bs
ends_at [] d last e = absurd (omega arith)
ends_at (b ∷ []) d zero e = refl
ends_at (b ∷ []) d (suc last) e = absurd (omega arith)
ends_at (b ∷ c ∷ bs) d zero e = absurd (omega arith)
ends_at (b ∷ c ∷ bs) d (suc last) e = ends_at (c ∷ bs) d last (omega arith)

pub ends_with_last : (bs : List ℕ) (d : ℕ) → 0 < length bs → eqb (get_or bs (length bs - 1) d) 10 ≡ is_ended bs
ends_with_last bs d some = ends_at bs d (length bs - 1) (omega arith)
