-- A first line that is read is written so, and one that is written is read again.
use Rattle.std.proofs.Common.{◌≡◌, ℕ, zero, suc, ◌^◌, ◌<◌, ◌≤◌, Bool, true, false, cond, leb, ◌&&◌, List, ◌∷◌, ◌++◌, Option, Some, None, option_map, refl, sym, ap, subst, ◌∙◌, arith, append_assoc}
use Rattle.std.specs.Prelude.{codes, option_and_then}
use Rattle.std.specs.Fmt.{decimal}
use Rattle.std.specs.Str.{bytes_eq}
use Rattle.std.proofs.lemmas.Bool.{and_parts, and_from, le-leb, leb-true}
use Rattle.std.proofs.lemmas.Fmt.{digits_decimal}
use Rattle.std.proofs.lemmas.Option.{cond_some, same_Some}
use Rattle.std.proofs.lemmas.Str.Parse.{not_in_digits}
use Rattle.bounded_model.specs.declared.history.Order.{Order}
use Rattle.bounded_model.specs.declared.history.Order.TheVariants.{Fifo, Lifo}
use Rattle.tagged_index.specs.declared.limit.TheConstants.{MAX_CAPACITY, MIN_CAPACITY, MIN_TAG_LIMIT}
use Rattle.tagged_index.specs.declared.word.TheConstants.{MAX_TAG}
use Rattle.script.specs.Reading.{order_of, limits_of, limits_in, head_of}
use Rattle.script.specs.Words.{number_of, word_and_rest}
use Rattle.script.specs.Script.{Head, IsHead, order_text, head_text}
use Rattle.script.proofs.Cuts.{Lacks, cut_again, cut_found}
use Rattle.script.proofs.Numbers.{own, number_again, number_found}
use Rattle.script.proofs.Words.{same_text}

-- a number's digits have no byte that is no digit
pub Lacks-decimal : (byte n : ℕ) → n < 2 ^ 64 → (48 ≤ byte → ⊥) → Lacks byte (decimal n)
Lacks-decimal byte n small outside i lt =
    not_in_digits own (decimal n) byte (digits_decimal own n small) (λ r. outside r.0) i lt

-- ---- the limits

in_range : (b : Bool) (limits : ℕ × ℕ) → b ≡ true → cond b (Some limits) None ≡ Some limits
in_range b limits e = rw e refl

abbrev pub limits_text : ℕ → ℕ → List ℕ
limits_text capacity tag_limit = decimal capacity ++ 32 ∷ decimal tag_limit

limits_again : (head : Head) → IsHead head → limits_in (limits_text head.capacity head.tag_limit) ≡ Some (head.capacity, head.tag_limit)
unfolding limits_in
limits_again head is =
    let capacity-small : head.capacity < 2 ^ 64 = omega (arith, is.capacity_in_range) in
    let tag_limit-small : head.tag_limit < 2 ^ 64 = omega (arith, is.tag_limit_in_range) in
    rw (
      cut_again 32 (decimal head.capacity) (decimal head.tag_limit) (Lacks-decimal 32 head.capacity capacity-small (λ h. absurd (omega arith))),
      number_again head.capacity capacity-small,
      number_again head.tag_limit tag_limit-small,
    )
    (in_range _ (head.capacity, head.tag_limit) (and_from _ _ (and_from _ _ (le-leb _ _ is.some_capacity) (le-leb _ _ is.capacity_in_range)) (and_from _ _ (le-leb _ _ is.some_tag_limit) (le-leb _ _ is.tag_limit_in_range))))

-- what limits were found, and how they are written
record WroteLimits (words : List ℕ) (limits : ℕ × ℕ) : Type 0 where
  written : words ≡ limits_text limits.0 limits.1
  some_capacity : MIN_CAPACITY ≤ limits.0
  capacity_in_range : limits.0 ≤ MAX_CAPACITY
  some_tag_limit : MIN_TAG_LIMIT ≤ limits.1
  tag_limit_in_range : limits.1 ≤ MAX_TAG

limits_made : (words : List ℕ) (c t : ℕ) (limits : ℕ × ℕ) → words ≡ limits_text c t → limits_of c t ≡ Some limits → WroteLimits words limits
limits_made words c t limits written e =
    let made = cond_some ((leb MIN_CAPACITY c && leb c MAX_CAPACITY) && (leb MIN_TAG_LIMIT t && leb t MAX_TAG)) (c, t) limits e in
    let both = and_parts (leb MIN_CAPACITY c && leb c MAX_CAPACITY) (leb MIN_TAG_LIMIT t && leb t MAX_TAG) made.0 in
    let capacity = and_parts (leb MIN_CAPACITY c) (leb c MAX_CAPACITY) both.0 in
    let tag_limit = and_parts (leb MIN_TAG_LIMIT t) (leb t MAX_TAG) both.1 in
    subst (λ (l : ℕ × ℕ). WroteLimits words l) made.1 (record {
      written = written;
      some_capacity = leb-true _ _ capacity.0;
      capacity_in_range = leb-true _ _ capacity.1;
      some_tag_limit = leb-true _ _ tag_limit.0;
      tag_limit_in_range = leb-true _ _ tag_limit.1;
    })

limits_found : (words : List ℕ) (limits : ℕ × ℕ) → limits_in words ≡ Some limits → WroteLimits words limits
unfolding limits_in
limits_found words limits e = go (word_and_rest words) refl e
  where
    both : (parts : List ℕ × List ℕ) → words ≡ parts.0 ++ 32 ∷ parts.1 → (c : Option ℕ) → number_of parts.0 ≡ c → (t : Option ℕ) → number_of parts.1 ≡ t → option_and_then (λ capacity. option_and_then (λ tag_limit. limits_of capacity tag_limit) t) c ≡ Some limits → WroteLimits words limits
    both parts written (Some c) is-c (Some t) is-t found =
        let first = number_found parts.0 c is-c in
        let second = number_found parts.1 t is-t in
        limits_made words c t limits (rw (← first.1, ← second.1) written) found
    both parts written (Some c) is-c None is-t found = absurd cc
    both parts written None is-c t is-t found = absurd cc

    go : (o : Option (List ℕ × List ℕ)) → word_and_rest words ≡ o → option_and_then (λ parts. option_and_then (λ capacity. option_and_then (λ tag_limit. limits_of capacity tag_limit) (number_of parts.1)) (number_of parts.0)) o ≡ Some limits → WroteLimits words limits
    go None cut found = absurd cc
    go (Some parts) cut found = both parts (cut_found 32 words parts.0 parts.1 cut).parts (number_of parts.0) refl (number_of parts.1) refl found

-- ---- the order

order_again : (order : Order) → order_of (order_text order) ≡ Some order
order_again Fifo = refl
order_again Lifo = refl

order_found : (word : List ℕ) (order : Order) → order_of word ≡ Some order → word ≡ order_text order
order_found word order e = queue (bytes_eq word (codes "queue")) refl e
  where
    stack : (b : Bool) → bytes_eq word (codes "stack") ≡ b → cond b (Some Lifo) None ≡ Some order → word ≡ order_text order
    stack true is found = same_text word (codes "stack") is ∙ ap order_text (same_Some Lifo order found)
    stack false is found = absurd cc

    queue : (b : Bool) → bytes_eq word (codes "queue") ≡ b → cond b (Some Fifo) (cond (bytes_eq word (codes "stack")) (Some Lifo) None) ≡ Some order → word ≡ order_text order
    queue true is found = same_text word (codes "queue") is ∙ ap order_text (same_Some Fifo order found)
    queue false is found = stack (bytes_eq word (codes "stack")) refl found

-- ---- the first line

-- its words behind the first space
pub head_text_is : (head : Head) → head_text head ≡ order_text head.order ++ 32 ∷ limits_text head.capacity head.tag_limit
head_text_is head = simp append_assoc

Lacks-order : (order : Order) → Lacks 32 (order_text order)
Lacks-order Fifo zero lt = λ e. absurd (omega arith)
Lacks-order Fifo (suc zero) lt = λ e. absurd (omega arith)
Lacks-order Fifo (suc (suc zero)) lt = λ e. absurd (omega arith)
Lacks-order Fifo (suc (suc (suc zero))) lt = λ e. absurd (omega arith)
Lacks-order Fifo (suc (suc (suc (suc zero)))) lt = λ e. absurd (omega arith)
Lacks-order Fifo (suc (suc (suc (suc (suc i))))) lt = absurd (omega arith)
Lacks-order Lifo zero lt = λ e. absurd (omega arith)
Lacks-order Lifo (suc zero) lt = λ e. absurd (omega arith)
Lacks-order Lifo (suc (suc zero)) lt = λ e. absurd (omega arith)
Lacks-order Lifo (suc (suc (suc zero))) lt = λ e. absurd (omega arith)
Lacks-order Lifo (suc (suc (suc (suc zero)))) lt = λ e. absurd (omega arith)
Lacks-order Lifo (suc (suc (suc (suc (suc i))))) lt = absurd (omega arith)

abbrev head_with : Order → ℕ × ℕ → Head
head_with order limits = record { order = order; capacity = limits.0; tag_limit = limits.1 }

pub head_again : (head : Head) → IsHead head → head_of (head_text head) ≡ Some head
unfolding head_of
head_again head is =
    rw (
      head_text_is head,
      cut_again 32 (order_text head.order) (limits_text head.capacity head.tag_limit) (Lacks-order head.order),
      order_again head.order,
      limits_again head is,
    ) refl

pub record IsWrittenHead (text : List ℕ) (head : Head) : Type 0 where
  pub written : text ≡ head_text head
  pub is : IsHead head

pub head_found : (text : List ℕ) (head : Head) → head_of text ≡ Some head → IsWrittenHead text head
unfolding head_of
head_found text head e = go (word_and_rest text) refl e
  where
    both : (parts : List ℕ × List ℕ) → text ≡ parts.0 ++ 32 ∷ parts.1 → (o : Option Order) → order_of parts.0 ≡ o → (l : Option (ℕ × ℕ)) → limits_in parts.1 ≡ l → option_and_then (λ order. option_map (head_with order) l) o ≡ Some head → IsWrittenHead text head
    both parts written (Some order) is-order (Some limits) is-limits found =
        let first = order_found parts.0 order is-order in
        let second = limits_found parts.1 limits is-limits in
        let made : Head = head_with order limits in
        let whole : text ≡ head_text made = written ∙ ap (λ (w : List ℕ). w ++ 32 ∷ parts.1) first ∙ ap (λ (w : List ℕ). order_text order ++ 32 ∷ w) second.written ∙ sym (head_text_is made) in
        subst (λ (h : Head). IsWrittenHead text h) (same_Some made head found) (record {
          written = whole;
          is = record { some_capacity = second.some_capacity; capacity_in_range = second.capacity_in_range; some_tag_limit = second.some_tag_limit; tag_limit_in_range = second.tag_limit_in_range };
        })
    both parts written (Some order) is-order None is-limits found = absurd cc
    both parts written None is-order l is-limits found = absurd cc

    go : (o : Option (List ℕ × List ℕ)) → word_and_rest text ≡ o → option_and_then (λ parts. option_and_then (λ order. option_map (λ limits. head_with order limits) (limits_in parts.1)) (order_of parts.0)) o ≡ Some head → IsWrittenHead text head
    go None cut found = absurd cc
    go (Some parts) cut found = both parts (cut_found 32 text parts.0 parts.1 cut).parts (order_of parts.0) refl (limits_in parts.1) refl found
