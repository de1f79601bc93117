-- Chains of nodes, and their slots as a seat has them.
use Rattle.std.proofs.Common.{◌≡◌, ℕ, ◌≤◌, Bool, true, false, List, [], ◌∷◌, ◌++◌, length, reverse, refl, sym, ap, ◌∙◌, subst, arith}
use Rattle.std.proofs.lemmas.List.{map-append, reverse-append, length-reverse}
use Rattle.std.specs.Prelude.{Option as Slot, Some, None, map}
use mathlib.Core.Option.{Option, some}
use Rattle.bounded_model.specs.Machine.{without_first}
use Rattle.index_list.specs.Steps.{numbers}
use Rattle.machine.specs.Words.{times, Stands}
use Rattle.machine.specs.Chains.{first, values_of, HasValues}
use Rattle.machine.proofs.Lists.{times_here, times_append}
use Rattle.stack_machine.specs.declared.lines.Direction.{Direction}
use Rattle.stack_machine.specs.declared.lines.Direction.TheVariants.{Down, Up}
use Rattle.stack_machine.specs.Deeds.{in_order}
use Rattle.running.specs.Tables.{turned, values}
use Rattle.stack_table.specs.Slots.{Links, full, vacant}

-- a node that stands once in a chain has one place there
pub same_rest : (i : ℕ) (xs ys xs' ys' : List ℕ) → times i (xs ++ i ∷ ys) ≤ 1 → xs ++ i ∷ ys ≡ xs' ++ i ∷ ys' → ys ≡ ys'
same_rest i [] ys [] ys' once e = ap without_first e
same_rest i [] ys (x ∷ xs') ys' once e =
    let tail : ys ≡ xs' ++ i ∷ ys' = ap without_first e in
    let t : times i ys ≡ times i (xs' ++ i ∷ ys') = ap (times i) tail in
    absurd (omega (arith, once, t, times_here i ys, times_append i xs' (i ∷ ys'), times_here i ys'))
same_rest i (x ∷ xs) ys [] ys' once e =
    let head : x ≡ i = ap first e in
    let both : times i (x ∷ (xs ++ i ∷ ys)) ≡ times i (i ∷ (xs ++ i ∷ ys)) = ap (λ (k : ℕ). times i (k ∷ (xs ++ i ∷ ys))) head in
    absurd (omega (arith, once, both, times_here i (xs ++ i ∷ ys), times_append i xs (i ∷ ys), times_here i ys))
same_rest i (x ∷ xs) ys (x' ∷ xs') ys' once e = same_rest i xs ys xs' ys' (omega arith) (ap without_first e)

-- what a list begins with
pub stands_first : (link : ℕ → ℕ) (x : ℕ) (xs : List ℕ) → Stands link x xs → x ≡ first xs
stands_first link x [] s = s
stands_first link x (y ∷ ys) s = s.0

-- where a list stands from node i on, and i is once on the chain, its link names the next
pub links_on : (link : ℕ → ℕ) (chain before after : List ℕ) (i : ℕ) → chain ≡ before ++ i ∷ after → times i chain ≤ 1 → Stands link (link i) after → Links chain i (link i)
links_on link chain before after i parts once stands others more e =
    let one : times i (before ++ i ∷ after) ≤ 1 = subst (λ (xs : List ℕ). times i xs ≤ 1) parts once in
    stands_first link (link i) after stands ∙ ap first (same_rest i before after others more one (sym parts ∙ e))

reverse_map : {A B : Type 0} (f : A → B) (xs : List A) → reverse (map f xs) ≡ map f (reverse xs)
reverse_map f [] = refl
reverse_map f (x ∷ xs) = reverse-append (f x ∷ []) (map f xs) ∙ ap (λ (ys : List _). ys ++ f x ∷ []) (reverse_map f xs) ∙ sym (map-append f (reverse xs) (x ∷ [])) ∙ ap (map f) (sym (reverse-append (x ∷ []) xs))

module _ {A : Type 0} where
  pub length_in_order : (d : Direction) (xs : List A) → length (in_order d xs) ≡ length xs
  length_in_order Down xs = refl
  length_in_order Up xs = length-reverse xs

module _ (T : Type 0) where
  pub numbers_vacant : (is : List ℕ) → numbers (vacant {T = T} is) ≡ is
  numbers_vacant [] = refl
  numbers_vacant (i ∷ is) = ap (λ (xs : List ℕ). i ∷ xs) (numbers_vacant is)

module _ {T : Type 0} where
  pub vacant_append : (is js : List ℕ) → vacant {T = T} (is ++ js) ≡ vacant is ++ vacant js
  vacant_append [] js = refl
  vacant_append (i ∷ is) js = ap (λ (zs : List (ℕ × Slot T)). (i, None) ∷ zs) (vacant_append is js)

  pub numbers_full : (is : List ℕ) (vs : List T) → length is ≡ length vs → numbers (full is vs) ≡ is
  numbers_full [] vs e = refl
  numbers_full (i ∷ is) (v ∷ vs) e = ap (λ (xs : List ℕ). i ∷ xs) (numbers_full is vs (omega arith))
  numbers_full (i ∷ is) [] e = absurd (omega arith)

  -- the values of full slots, also where they are turned round
  pub values_full : (way : Bool) (is : List ℕ) (vs : List T) → length is ≡ length vs → values_of (map some (turned way (values (full is vs)))) ≡ turned way vs
  values_full way is vs e = ap (λ (us : List (Slot T)). values_of (map some (turned way us))) (values_are is vs e) ∙ turned_some way vs
    where
      values_are : (js : List ℕ) (us : List T) → length js ≡ length us → values (full js us) ≡ map Some us
      values_are [] [] f = refl
      values_are (j ∷ js) (u ∷ us) f = ap (λ (ws : List (Slot T)). Some u ∷ ws) (values_are js us (omega arith))
      values_are [] (u ∷ us) f = absurd (omega arith)
      values_are (j ∷ js) [] f = absurd (omega arith)

      all_there : (us : List T) → values_of (map some (map Some us)) ≡ us
      all_there [] = refl
      all_there (u ∷ us) = ap (λ (ws : List T). u ∷ ws) (all_there us)

      turned_some : (b : Bool) (us : List T) → values_of (map some (turned b (map Some us))) ≡ turned b us
      turned_some false us = all_there us
      turned_some true us = ap (λ (ws : List (Slot T)). values_of (map some ws)) (reverse_map Some us) ∙ all_there (reverse us)

  -- values at home, in the other order
  has_append : (home : ℕ → Option (Slot T)) (is js : List ℕ) (us vs : List T) → HasValues home is us → HasValues home js vs → HasValues home (is ++ js) (us ++ vs)
  has_append home [] js [] vs a b = b
  has_append home (i ∷ is) js (u ∷ us) vs a b = (a.0, has_append home is js us vs a.1 b)
  has_append home [] js (u ∷ us) vs a b = absurd a
  has_append home (i ∷ is) js [] vs a b = absurd a

  has_reverse : (home : ℕ → Option (Slot T)) (is : List ℕ) (vs : List T) → HasValues home is vs → HasValues home (reverse is) (reverse vs)
  has_reverse home [] [] a = tt
  has_reverse home (i ∷ is) (v ∷ vs) a =
      let h : HasValues home (reverse is ++ i ∷ []) (reverse vs ++ v ∷ []) = has_append home (reverse is) (i ∷ []) (reverse vs) (v ∷ []) (has_reverse home is vs a.1) (a.0, tt) in
      subst (λ (us : List T). HasValues home (reverse (i ∷ is)) us) (sym (reverse-append (v ∷ []) vs)) (subst (λ (js : List ℕ). HasValues home js (reverse vs ++ v ∷ [])) (sym (reverse-append (i ∷ []) is)) h)
  has_reverse home [] (v ∷ vs) a = absurd a
  has_reverse home (i ∷ is) [] a = absurd a

  pub has_in_order : (home : ℕ → Option (Slot T)) (d : Direction) (is : List ℕ) (vs : List T) → HasValues home is vs → HasValues home (in_order d is) (in_order d vs)
  has_in_order home Down is vs a = a
  has_in_order home Up is vs a = has_reverse home is vs a
