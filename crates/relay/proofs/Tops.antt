-- Taking the greatest of the last elements of lists that rise.
use Rattle.std.proofs.Common.{reverse, inl, inr, ◌⊎◌, ◌≡◌, ℕ, zero, suc, ◌+◌, ◌-◌, ◌<◌, ◌≤◌, List, [], ◌∷◌, ◌++◌, refl, arith, ap, sym, ◌∙◌, subst, length, take, drop, All, flat_map, remove, get_or, Vec, IsPermutation, append-nil, append_assoc, length-append}
use Rattle.std.specs.List.Sorted.{IsNonDecreasingBy}
use Rattle.std.specs.declared.alloc.Global.{Global}
use Rattle.std.proofs.lemmas.List.{get_or_push, get_or_default, get_or_append_left, length_push, length-reverse, get_or-reverse}
use Rattle.std.proofs.lemmas.List.Elements.{All-append, All-head, All-rest, All-cons, All-nil, All-take, All-drop}
use Rattle.std.proofs.lemmas.Grind.{flat_map-append}
use Rattle.std.proofs.lemmas.List.Sorted.{IsPermutation-refl, IsPermutation-trans, IsPermutation-append_comm, IsPermutation-append_left, IsPermutation-append_right, IsPermutation-pop_more, All-permutation}
use Rattle.relay.specs.declared.outcome.Taken.{Taken}
use Rattle.relay.proofs.Lists.{same_or_not}
use Rattle.relay.specs.Merge.{all_of, IsUp, IsHeight, IsTop, IsAbove, Falls, Merging}

-- the height of a list

nothing : {A : Type 0} (front : List A) (x : A) → [] ≡ front ++ x ∷ [] → ⊥
nothing front x e = absurd (omega (arith, ap length e, length-append front (x ∷ [])))

pub height_none : (l : Vec Taken Global) → l.items ≡ [] → IsHeight l 0
height_none l e = record { last = λ front t is. absurd (nothing front t (sym e ∙ is)); none = λ f. refl }

pub height_last : (l : Vec Taken Global) (x : Taken) (i h : ℕ) → i + 1 ≡ length l.items → x ≡ get_or l.items i x → h ≡ x.number + 1 → IsHeight l h
height_last l x i h lt at is = record {
  last = λ front t e.
      let long = length-append front (t ∷ []) in
      let same : get_or l.items i x ≡ t = ap (λ (ts : List Taken). get_or ts i x) e ∙ get_or_push front t x i (omega (arith, ap length e)) in
      is ∙ ap (λ (u : Taken). u.number + 1) (at ∙ same);
  none = λ e. absurd (omega (arith, ap length e));
}

pub below_last : (l : Vec Taken Global) (x : Taken) (i h : ℕ) → IsUp l → i + 1 ≡ length l.items → x ≡ get_or l.items i x → h ≡ x.number + 1 → All (λ t. t.number < h) l.items
below_last l x i h up lt at is k d m =
    let last = up k i d (omega arith) (omega arith) in
    let same : get_or l.items i d ≡ x = get_or_default l.items i d x (omega arith) ∙ sym at in
    omega (arith, last, ap (λ (u : Taken). u.number) same, is)

pub below_none : (l : Vec Taken Global) (h : ℕ) → l.items ≡ [] → All (λ t. t.number < h) l.items
below_none l h e k d m = absurd (omega (arith, ap length e))

-- lower than one is lower than a higher one
pub below_more : (lists : List (Vec Taken Global)) (h k : ℕ) → h ≤ k → All (λ m. All (λ t. t.number < h) m.items) lists → All (λ m. All (λ t. t.number < k) m.items) lists
below_more lists h k le all i d m j e n = omega (arith, all i d m j e n)

-- an element that is taken out of a list of lists

module _ {X A : Type 0} (f : X → List A) where
  pub flat_remove : (ls : List X) (i : ℕ) (l : X) → i < length ls → l ≡ get_or ls i l → IsPermutation (flat_map f ls) (f l ++ flat_map f (remove ls i))
  flat_remove [] i l lt e = absurd (omega arith)
  flat_remove (x ∷ ls) zero l lt e = subst (λ y. IsPermutation (f x ++ flat_map f ls) (f y ++ flat_map f ls)) (sym e) (IsPermutation-refl (f x ++ flat_map f ls))
  flat_remove (x ∷ ls) (suc i) l lt e =
      let rest = flat_map f (remove ls i) in
      let deep = IsPermutation-append_right (f x) _ _ (flat_remove ls i l (omega arith) e) in
      let turn = subst (λ a. IsPermutation a ((f l ++ f x) ++ rest)) (append_assoc (f x) (f l) rest) (IsPermutation-append_left rest _ _ (IsPermutation-append_comm (f x) (f l))) in
      subst (IsPermutation (f x ++ flat_map f ls)) (append_assoc (f l) (f x) rest) (IsPermutation-trans _ _ _ deep turn)

  pub flat_nothing : (ls : List X) → All (λ l. f l ≡ []) ls → flat_map f ls ≡ []
  flat_nothing [] h = refl
  flat_nothing (x ∷ ls) h = ap (λ l. l ++ flat_map f ls) (All-head (λ l. f l ≡ []) x ls h) ∙ flat_nothing ls (All-rest (λ l. f l ≡ []) x ls (x ∷ ls) refl h)

  pub flat_all : (P : A → Type 0) (ls : List X) → All (λ l. All P (f l)) ls → All P (flat_map f ls)
  flat_all P [] h = All-nil P
  flat_all P (x ∷ ls) h = All-append P (f x) (flat_map f ls) (All-head (λ l. All P (f l)) x ls h) (flat_all P ls (All-rest (λ l. All P (f l)) x ls (x ∷ ls) refl h))

-- what is left of a list that rises does
pub up_front : (l m : Vec Taken Global) (t : Taken) → l.items ≡ m.items ++ t ∷ [] → IsUp l → IsUp m
up_front l m t e up i j d le lt =
    let long = length_push m.items t in
    let whole = subst (IsNonDecreasingBy (λ (u : Taken). u.number)) e up i j d le (omega (arith, long)) in
    omega (arith, whole, ap (λ (u : Taken). u.number) (get_or_append_left m.items (t ∷ []) d i (omega arith)), ap (λ (u : Taken). u.number) (get_or_append_left m.items (t ∷ []) d j (omega arith)))

-- an empty list at the top: all are empty
none_of : (ls : List Taken) → All (λ t. t.number < 0) ls → ls ≡ []
none_of [] h = refl
none_of (t ∷ ts) h = absurd (omega (arith, h 0 t (omega arith)))

pub all_empty : (lists : List (Vec Taken Global)) (l : Vec Taken Global) → IsTop lists l → l.items ≡ [] → all_of lists ≡ []
all_empty lists l top e =
    let zero' = top.is.none e in
    flat_nothing (λ v. v.items) lists (λ k d n. none_of _ (subst (λ h. All (λ t. t.number < h) (get_or lists k d).items) zero' (top.below k d n)))

-- the list at the top is taken out

pub All-remove : (P : Vec Taken Global → Type 0) (ls : List (Vec Taken Global)) (i : ℕ) → All P ls → All P (remove ls i)
All-remove P ls i h = All-append P (take i ls) (drop (suc i) ls) (All-take P i ls h) (All-drop P (suc i) ls h)

pub above_others : (lists : List (Vec Taken Global)) (i : ℕ) (l : Vec Taken Global) → IsTop lists l → IsAbove l (remove lists i)
above_others lists i l top front t e =
    let high = top.is.last front t e in
    let all = All-remove (λ m. All (λ u. u.number < top.height) m.items) lists i top.below in
    λ k d n j x p. omega (arith, all k d n j x p, high)

-- higher than a number that is above all others
pub still_above : (others : List (Vec Taken Global)) (l : Vec Taken Global) (bound h : ℕ) → IsHeight l h → bound ≤ h → All (λ m. All (λ u. u.number < bound) m.items) others → IsAbove l others
still_above others l bound h is le below front t e = λ k d n j x p. omega (arith, below k d n j x p, is.last front t e, le)

-- what lists hold whose last is this one
pub all_back : (others : List (Vec Taken Global)) (l : Vec Taken Global) → all_of (others ++ l ∷ []) ≡ all_of others ++ l.items
all_back others l = flat_map-append (λ (v : Vec Taken Global). v.items) others (l ∷ []) ∙ ap (λ ts. all_of others ++ ts) (append-nil l.items)

pub length_back : (others : List (Vec Taken Global)) (l : Vec Taken Global) → length (all_of (others ++ l ∷ [])) ≡ length (all_of others) + length l.items
length_back others l = ap length (all_back others l) ∙ length-append (all_of others) l.items

pub taken_out : (lists : List (Vec Taken Global)) (i : ℕ) (l : Vec Taken Global) → i < length lists → l ≡ get_or lists i l → IsPermutation (all_of lists) (all_of (remove lists i ++ l ∷ []))
taken_out lists i l lt at =
    let rest = all_of (remove lists i) in
    let turned = IsPermutation-trans _ _ _ (flat_remove (λ (v : Vec Taken Global). v.items) lists i l lt at) (IsPermutation-append_comm l.items rest) in
    subst (IsPermutation (all_of lists)) (sym (all_back (remove lists i) l)) turned

-- the list that grows: its numbers fall

pub falls_none : (ts : List Taken) → ts ≡ [] → Falls ts
falls_none ts e i j d le lt = absurd (omega (arith, ap length e))

pub falls_more : (ts : List Taken) (t : Taken) → Falls ts → All (λ u. t.number ≤ u.number) ts → Falls (ts ++ t ∷ [])
falls_more ts t falls least i j d le lt =
    let long = length_push ts t in
    elim (last_or_not j (length ts) (omega (arith, lt, long))) [
      | inl at_end ↦ elim (last_or_not i (length ts) (omega (arith, le, lt, long))) [
        | inl e ↦ omega (arith, ap (λ k. (get_or (ts ++ t ∷ []) k d).number) (at_end ∙ sym e))
        | inr inside ↦ omega (arith, ap (λ (u : Taken). u.number) (get_or_push ts t d j (sym at_end)), ap (λ (u : Taken). u.number) (get_or_append_left ts (t ∷ []) d i inside), least i d inside)
      ]
      | inr inside ↦ omega (arith, ap (λ (u : Taken). u.number) (get_or_append_left ts (t ∷ []) d j inside), ap (λ (u : Taken). u.number) (get_or_append_left ts (t ∷ []) d i (omega arith)), falls i j d le inside)
    ]
  where
    last_or_not : (k n : ℕ) → k < n + 1 → (k ≡ n) ⊎ (k < n)
    last_or_not k n l = elim (same_or_not k n) [ inl e ↦ inl e | inr o ↦ inr (omega (arith, o, l)) ]

-- turned round, they do not fall
pub turned : (ts : List Taken) → Falls ts → IsNonDecreasingBy (λ t. t.number) (reverse ts)
turned ts falls i j d le lt =
    let long = length-reverse ts in
    omega (arith, ap (λ (u : Taken). u.number) (get_or-reverse ts i d (omega arith)), ap (λ (u : Taken). u.number) (get_or-reverse ts j d (omega arith)), falls (length ts - 1 - j) (length ts - 1 - i) d (omega arith) (omega arith))

-- One more is moved from the lists to the list that grows.
-- t is taken out of what was there before, and nothing there has a greater number
record TakesGreatest (before after : List Taken) (t : Taken) : Type 0 where
  same : IsPermutation before (t ∷ after)
  most : All (λ u. u.number ≤ t.number) before

pub merging_none : (start all : List Taken) (lists : List (Vec Taken Global)) → all ≡ [] → start ≡ all_of lists → Merging start all lists
merging_none start all lists e is = record {
  same = subst (λ l. IsPermutation start (l ++ all_of lists)) (sym e) (subst (IsPermutation start) is (IsPermutation-refl start));
  falls = falls_none all e;
  above = λ k d lt. absurd (omega (arith, ap length e));
}

merging_more : (start all : List Taken) (before after : List (Vec Taken Global)) (t : Taken) → Merging start all before → TakesGreatest (all_of before) (all_of after) t → Merging start (all ++ t ∷ []) after
merging_more start all before after t m g =
    let fewer : (P : Taken → Type 0) → All P (all_of before) → All P (all_of after) = λ P h. All-rest P t (all_of after) (t ∷ all_of after) refl (All-permutation P (all_of before) (t ∷ all_of after) g.same h) in
    let one : (P : Taken → Type 0) → All P (all_of before) → P t = λ P h. All-head P t (all_of after) (All-permutation P (all_of before) (t ∷ all_of after) g.same h) in
    record {
      same = IsPermutation-pop_more start all (all_of before) (all_of after) t m.same g.same;
      falls = falls_more all t m.falls (λ k d lt. one (λ u. u.number ≤ (get_or all k d).number) (m.above k d lt));
      above = All-append (λ u. All (λ v. v.number ≤ u.number) (all_of after)) all (t ∷ []) (λ k d lt. fewer (λ v. v.number ≤ (get_or all k d).number) (m.above k d lt))
          (All-cons (λ u. All (λ v. v.number ≤ u.number) (all_of after)) t [] (fewer (λ v. v.number ≤ t.number) g.most) (All-nil (λ u. All (λ v. v.number ≤ u.number) (all_of after))));
    }

-- as the lists stand in another order
pub merging_turned : (start all : List Taken) (before after : List (Vec Taken Global)) → IsPermutation (all_of before) (all_of after) → Merging start all before → Merging start all after
merging_turned start all before after p m = record {
  same = IsPermutation-trans _ _ _ m.same (IsPermutation-append_right all _ _ p);
  falls = m.falls;
  above = λ k d lt. All-permutation (λ u. u.number ≤ (get_or all k d).number) (all_of before) (all_of after) p (m.above k d lt);
}

-- as the last list stands in other memory
pub merging_moved : (start all : List Taken) (others : List (Vec Taken Global)) (l m : Vec Taken Global) → l.items ≡ m.items → Merging start all (others ++ l ∷ []) → Merging start all (others ++ m ∷ [])
merging_moved start all others l m e g =
    let same = all_back others l ∙ (ap (λ ts. all_of others ++ ts) e ∙ sym (all_back others m)) in
    merging_turned start all (others ++ l ∷ []) (others ++ m ∷ []) (subst (IsPermutation (all_of (others ++ l ∷ []))) same (IsPermutation-refl (all_of (others ++ l ∷ [])))) g

-- from the end of the last list, which is above the others
pub merging_last : (start all : List Taken) (others : List (Vec Taken Global)) (l m : Vec Taken Global) (t : Taken) → l.items ≡ m.items ++ t ∷ [] → IsUp l → IsAbove l others → Merging start all (others ++ l ∷ []) → Merging start (all ++ t ∷ []) (others ++ m ∷ [])
merging_last start all others l m t is up above merging =
    let front = all_of others in
    let long = ap length is ∙ length_push m.items t in
    let whole : all_of (others ++ l ∷ []) ≡ (front ++ m.items) ++ t ∷ [] = all_back others l ∙ (ap (λ ts. front ++ ts) is ∙ sym (append_assoc front m.items (t ∷ []))) in
    let first : IsPermutation ((front ++ m.items) ++ t ∷ []) (t ∷ (front ++ m.items)) = IsPermutation-append_comm (front ++ m.items) (t ∷ []) in
    let own : All (λ u. u.number ≤ t.number) l.items =
    λ k d lt.
    let last = ap (λ (ts : List Taken). get_or ts (length m.items) d) is ∙ get_or_push m.items t d (length m.items) refl in
    omega (arith, up k (length m.items) d (omega (arith, lt, long)) (omega (arith, long)), ap (λ (u : Taken). u.number) last) in
    merging_more start all (others ++ l ∷ []) (others ++ m ∷ []) t merging record {
      same = subst (λ ts. IsPermutation ts (t ∷ all_of (others ++ m ∷ []))) (sym whole) (subst (λ ts. IsPermutation ((front ++ m.items) ++ t ∷ []) (t ∷ ts)) (sym (all_back others m)) first);
      most = subst (All (λ u. u.number ≤ t.number)) (sym (all_back others l)) (All-append (λ u. u.number ≤ t.number) front l.items (flat_all (λ v. v.items) (λ u. u.number ≤ t.number) others (above m.items t is)) own);
    }
