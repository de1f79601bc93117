-- The values of a range: words between single spaces.
use Rattle.std.proofs.Common.{◌≡◌, ℕ, ◌<◌, Bool, true, false, cond, eqb, leb, ◌&&◌, List, [], ◌∷◌, ◌++◌, length, Option, Some, None, refl, sym, ap, subst, ◌∙◌, arith, inl, inr, map, append_assoc}
use Rattle.std.specs.Prelude.{IsTrue}
use Rattle.std.specs.Char.{is_ascii_alphanumeric}
use Rattle.std.specs.List.{list_all, onto_first, AllByRecursion}
use Rattle.std.proofs.lemmas.Bool.{and_parts, and_from, le-leb, leb-true, ne_eqb}
use Rattle.std.proofs.lemmas.Bool.Decides.{eqb_tells}
use Rattle.std.proofs.lemmas.List.{append-nil}
use Rattle.std.proofs.lemmas.Option.{cond_some}
use Rattle.script.specs.declared.value.TheConstants.{MAX_VALUE_LEN}
use Rattle.script.specs.Words.{cut_at, is_value, value_of, words, values_of}
use Rattle.script.specs.Script.{IsValue}
use Rattle.script.specs.Words.{spaced}
use Rattle.script.proofs.Cuts.{no_cut-head, Lacks, Lacks-cons, Lacks-rest, cut_found}

-- ---- one value

chosen : (v : List ℕ) (b : Bool) → b ≡ true → cond b (Some v) None ≡ Some v
chosen v b e = rw e refl

value_is : (value : List ℕ) → IsValue value → is_value value ≡ true
value_is value is = and_from _ _ (and_from _ _ (le-leb _ _ is.some) (le-leb _ _ is.short)) is.alphanumeric

is_value-is : (word : List ℕ) → is_value word ≡ true → IsValue word
is_value-is word e =
    let a = and_parts (leb 1 (length word) && leb (length word) MAX_VALUE_LEN) (list_all is_ascii_alphanumeric word) e in
    let b = and_parts (leb 1 (length word)) (leb (length word) MAX_VALUE_LEN) a.0 in
    record { some = leb-true _ _ b.0; short = leb-true _ _ b.1; alphanumeric = a.1 }

pub value_again : (value : List ℕ) → IsValue value → value_of value ≡ Some value
value_again value is = chosen value (is_value value) (value_is value is)

pub value_found : (word value : List ℕ) → value_of word ≡ Some value → (word ≡ value) × IsValue value
value_found word value e =
    let t = cond_some (is_value word) word value e in
    (t.1, subst IsValue t.1 (is_value-is word t.0))

-- a value has no space
not_space : (b : ℕ) → is_ascii_alphanumeric b ≡ true → b ≡ 32 → ⊥
not_space b e is = let h : is_ascii_alphanumeric 32 ≡ true = subst (λ (c : ℕ). is_ascii_alphanumeric c ≡ true) is e in absurd cc

Lacks-letters : (bs : List ℕ) → list_all is_ascii_alphanumeric bs ≡ true → Lacks 32 bs
Lacks-letters [] e = λ i lt. absurd (omega arith)
Lacks-letters (b ∷ bs) e =
    let p = and_parts (is_ascii_alphanumeric b) (list_all is_ascii_alphanumeric bs) e in
    Lacks-cons 32 b bs (not_space b p.0) (Lacks-letters bs p.1)

-- ---- words

words_first : (word rest : List ℕ) → Lacks 32 word → words (word ++ 32 ∷ rest) ≡ word ∷ words rest
words_first [] rest lacks = refl
words_first (b ∷ word) rest lacks =
    elim (eqb_tells b 32) [
      | inl here ↦ absurd (lacks 0 (omega arith) here.1)
      | inr other ↦ rw (other.0, words_first word rest (Lacks-rest 32 b word lacks)) refl
    ]

words_one : (word : List ℕ) → Lacks 32 word → words word ≡ word ∷ []
words_one [] lacks = refl
words_one (b ∷ word) lacks =
    elim (eqb_tells b 32) [
      | inl here ↦ absurd (lacks 0 (omega arith) here.1)
      | inr other ↦ rw (other.0, words_one word (Lacks-rest 32 b word lacks)) refl
    ]

pub words_cut : (text word rest : List ℕ) → cut_at 32 text ≡ Some (word, rest) → words text ≡ word ∷ words rest
words_cut text word rest e =
    let c = cut_found 32 text word rest e in
    ap words c.parts ∙ words_first word rest c.lacks

pub words_uncut : (text : List ℕ) → cut_at 32 text ≡ None → words text ≡ text ∷ []
words_uncut [] e = refl
words_uncut (b ∷ text) e =
    let h = no_cut-head 32 b text e in
    rw (ne_eqb b 32 h.0, words_uncut text h.1) refl

-- ---- words written one after another

abbrev joined : List (List ℕ) → List ℕ
joined [] = []
joined (word ∷ more) = word ++ spaced more

joined_onto : (b : ℕ) (parts : List (List ℕ)) → joined (onto_first b parts) ≡ b ∷ joined parts
joined_onto b [] = refl
joined_onto b (word ∷ more) = refl

record HasFirst (parts : List (List ℕ)) : Type 0 where
  first : List ℕ
  more : List (List ℕ)
  is : parts ≡ first ∷ more

some_onto : (b : ℕ) (parts : List (List ℕ)) → HasFirst (onto_first b parts)
some_onto b [] = record { first = b ∷ []; more = []; is = refl }
some_onto b (word ∷ more) = record { first = b ∷ word; more = more; is = refl }

some_cond : (here : Bool) (x y : List (List ℕ)) → HasFirst x → HasFirst y → HasFirst (cond here x y)
some_cond true x y f g = f
some_cond false x y f g = g

-- a text has at least one word
some_words : (text : List ℕ) → HasFirst (words text)
some_words [] = record { first = []; more = []; is = refl }
some_words (b ∷ text) =
    some_cond (eqb b 32) ([] ∷ words text) (onto_first b (words text)) (record { first = []; more = words text; is = refl }) (some_onto b (words text))

spaced_some : (parts : List (List ℕ)) → HasFirst parts → spaced parts ≡ 32 ∷ joined parts
spaced_some parts some = rw some.is refl

joined_words : (text : List ℕ) → joined (words text) ≡ text
joined_words [] = refl
joined_words (b ∷ text) =
    elim (eqb_tells b 32) [
      | inl here ↦ rw (here.0, here.1, spaced_some (words text) (some_words text), joined_words text) refl
      | inr other ↦ rw (other.0, joined_onto b (words text), joined_words text) refl
    ]

-- ---- the values of a range

words_again : (value : List ℕ) (more : List (List ℕ)) → IsValue value → AllByRecursion IsValue more → words (value ++ spaced more) ≡ value ∷ more
words_again value [] is each = ap words (append-nil value) ∙ words_one value (Lacks-letters value is.alphanumeric)
words_again value (next ∷ more) is each =
    words_first value (next ++ spaced more) (Lacks-letters value is.alphanumeric)
    ∙ ap (λ (parts : List (List ℕ)). value ∷ parts) (words_again next more each.0 each.1)

all_values : (values : List (List ℕ)) → AllByRecursion IsValue values → list_all is_value values ≡ true
all_values [] each = refl
all_values (value ∷ more) each = and_from _ _ (value_is value each.0) (all_values more each.1)

all_values-is : (values : List (List ℕ)) → list_all is_value values ≡ true → AllByRecursion IsValue values
all_values-is [] e = tt
all_values-is (value ∷ more) e =
    let p = and_parts (is_value value) (list_all is_value more) e in
    (is_value-is value p.0, all_values-is more p.1)

kept : (values : List (List ℕ)) → list_all is_value values ≡ true → cond (list_all is_value values) (Some values) None ≡ Some values
kept values e = rw e refl

pub values_again : (value : List ℕ) (more : List (List ℕ)) → AllByRecursion IsValue (value ∷ more) → values_of (value ++ spaced more) ≡ Some (value ∷ more)
values_again value more each =
    ap (λ (parts : List (List ℕ)). cond (list_all is_value parts) (Some parts) None) (words_again value more each.0 each.1)
    ∙ kept (value ∷ more) (all_values (value ∷ more) each)

-- what values were found behind the space, and how they are written
pub record WroteValues (text : List ℕ) (values : List (List ℕ)) : Type 0 where
  pub written : 32 ∷ text ≡ spaced values
  pub each : AllByRecursion IsValue values

pub values_found : (text : List ℕ) (values : List (List ℕ)) → values_of text ≡ Some values → WroteValues text values
values_found text values e =
    let t = cond_some (list_all is_value (words text)) (words text) values e in
    subst (λ (vs : List (List ℕ)). WroteValues text vs) t.1 (record {
      written = sym (spaced_some (words text) (some_words text) ∙ ap (λ (bs : List ℕ). 32 ∷ bs) (joined_words text));
      each = all_values-is (words text) t.0;
    })

-- ---- reading values one after another

pub values_more : (text word rest : List ℕ) → cut_at 32 text ≡ Some (word, rest) → is_value word ≡ true → list_all is_value (words text) ≡ list_all is_value (words rest)
values_more text word rest cut is = ap (list_all is_value) (words_cut text word rest cut) ∙ rw is refl

pub values_wrong : (text word rest : List ℕ) → cut_at 32 text ≡ Some (word, rest) → is_value word ≡ false → list_all is_value (words text) ≡ false
values_wrong text word rest cut is = ap (list_all is_value) (words_cut text word rest cut) ∙ rw is refl

and_true : (b : Bool) → (b && true) ≡ b
and_true true = refl
and_true false = refl

pub values_last : (text : List ℕ) → cut_at 32 text ≡ None → list_all is_value (words text) ≡ is_value text
values_last text none = ap (list_all is_value) (words_uncut text none) ∙ and_true (is_value text)

abbrev placed : List (List ℕ) → List (Option (List ℕ))
placed values = map (λ value. Some value) values

pub places_more : (text word rest : List ℕ) (places whole : List (Option (List ℕ))) → cut_at 32 text ≡ Some (word, rest) → places ++ placed (words text) ≡ whole → (places ++ Some word ∷ []) ++ placed (words rest) ≡ whole
places_more text word rest places whole cut told =
    append_assoc places (Some word ∷ []) (placed (words rest)) ∙ ap (λ (ws : List (List ℕ)). places ++ placed ws) (sym (words_cut text word rest cut)) ∙ told

pub places_last : (text : List ℕ) (places whole : List (Option (List ℕ))) → cut_at 32 text ≡ None → places ++ placed (words text) ≡ whole → places ++ Some text ∷ [] ≡ whole
places_last text places whole none told = ap (λ (ws : List (List ℕ)). places ++ placed ws) (sym (words_uncut text none)) ∙ told
