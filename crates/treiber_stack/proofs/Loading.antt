-- Places of a range, and nodes with their values.
use Rattle.std.proofs.Common.{◌≡◌, ℕ, zero, suc, ◌+◌, ◌<◌, ◌≤◌, List, [], ◌∷◌, ◌++◌, map, get_or, set, length, reverse, take, drop, replicate, refl, sym, ap, ◌∙◌, subst, length-append, arith}
use Rattle.std.proofs.lemmas.List.{length-drop, length-replicate, reverse-append}
use Rattle.std.proofs.lemmas.Bool.{false≢true}
use Rattle.std.specs.Prelude.{Option as Slot, Some, None, IsSome}
use Rattle.std.specs.List.{AllByRecursion as Every}
use Rattle.bounded_model.specs.Bulk.{somes}
use Rattle.treiber_stack.specs.Prelude.{full}
use Rattle.treiber_stack.specs.code.Ranging.{places_from, value_at}

module _ {T : Type 0} where
  some_or : T → Slot T → T
  some_or d None = d
  some_or d (Some x) = x

  pub same_some : (x y : T) → Some x ≡ Some y → x ≡ y
  unfolding some_or
  same_some x y e = ap (some_or x) e

  -- the value behind the first k
  next_at : (vs : List T) (k : ℕ) → k < length vs → (v : T) × (take (suc k) vs ≡ take k vs ++ v ∷ []) × (drop k vs ≡ v ∷ drop (suc k) vs) × (value_at vs k ≡ Some v)
  next_at [] k h = absurd (omega arith)
  next_at (v ∷ vs) zero h = (v, refl, refl, refl)
  next_at (v ∷ vs) (suc k) h = let r = next_at vs k (omega arith) in (r.0, ap (λ (us : List T). v ∷ us) r.1, r.2, r.3)

  pub next_value : (vs : List T) (k : ℕ) → k < length vs → (v : T) × (take (k + 1) vs ≡ take k vs ++ v ∷ []) × (drop k vs ≡ v ∷ drop (k + 1) vs) × (value_at vs k ≡ Some v)
  next_value vs k h =
      let e : suc k ≡ k + 1 = omega arith in
      let r = next_at vs k h in
      (r.0, subst (λ (m : ℕ). take m vs ≡ take k vs ++ r.0 ∷ []) e r.1, subst (λ (m : ℕ). drop k vs ≡ r.0 ∷ drop m vs) e r.2, r.3)

  -- a node that was taken has the next value
  pub loaded_more : (i : ℕ) (chain : List ℕ) (k : ℕ) (vs : List T) (v : T) → take (k + 1) vs ≡ take k vs ++ v ∷ [] → (i, Some v) ∷ full chain (reverse (take k vs)) ≡ full (i ∷ chain) (reverse (take (k + 1) vs))
  loaded_more i chain k vs v e = ap (λ (us : List T). full (i ∷ chain) us) (sym (ap (λ (us : List T). reverse us) e ∙ reverse-append (take k vs) (v ∷ [])))

  -- places as values leave
  place_at : (k : ℕ) (d x : Slot T) (ys : List (Slot T)) → get_or (replicate k None ++ x ∷ ys) k d ≡ x
  place_at zero d x ys = refl
  place_at (suc k) d x ys = place_at k d x ys

  leave_suc : (k : ℕ) (x y : Slot T) (ys : List (Slot T)) → set (replicate k None ++ x ∷ ys) k y ≡ replicate k None ++ y ∷ ys
  leave_suc zero x y ys = refl
  leave_suc (suc k) x y ys = ap (λ (zs : List (Slot T)). None ∷ zs) (leave_suc k x y ys)

  none_more : (k : ℕ) (ys : List (Slot T)) → replicate k None ++ None ∷ ys ≡ replicate (suc k) None ++ ys
  none_more zero ys = refl
  none_more (suc k) ys = ap (λ (zs : List (Slot T)). None ∷ zs) (none_more k ys)

  places_here : (vs : List T) (k : ℕ) (h : k < length vs) → places_from k vs ≡ replicate k None ++ Some (next_value vs k h).0 ∷ map Some (drop (k + 1) vs)
  places_here vs k h = ap (λ (us : List T). replicate k None ++ map Some us) (next_value vs k h).2

  -- the next place has the next value
  place_next : (vs : List T) (k : ℕ) (d : Slot T) → k < length vs → get_or (places_from k vs) k d ≡ value_at vs k
  place_next vs k d h = ap (λ (ps : List (Slot T)). get_or ps k d) (places_here vs k h) ∙ place_at k d (Some (next_value vs k h).0) (map Some (drop (k + 1) vs)) ∙ sym (next_value vs k h).3

  -- it leaves
  place_left : (vs : List T) (k : ℕ) → k < length vs → set (places_from k vs) k None ≡ places_from (k + 1) vs
  place_left vs k h =
      let e : suc k ≡ k + 1 = omega arith in
      ap (λ (ps : List (Slot T)). set ps k None) (places_here vs k h) ∙ leave_suc k (Some (next_value vs k h).0) None (map Some (drop (k + 1) vs)) ∙ none_more k (map Some (drop (k + 1) vs))
      ∙ ap (λ (m : ℕ). replicate m None ++ map Some (drop (k + 1) vs)) e

  -- places as values come back
  none_suc : (p : ℕ) (d : Slot T) (ys : List (Slot T)) → get_or (replicate (suc p) None ++ ys) p d ≡ None
  none_suc zero d ys = refl
  none_suc (suc p) d ys = none_suc p d ys

  none_at : (m p : ℕ) → suc p ≡ m → (d : Slot T) (ys : List (Slot T)) → get_or (replicate m None ++ ys) p d ≡ None
  none_at m p e d ys = subst (λ (x : ℕ). get_or (replicate x None ++ ys) p d ≡ None) e (none_suc p d ys)

  set_suc : (p : ℕ) (x : Slot T) (ys : List (Slot T)) → set (replicate (suc p) None ++ ys) p x ≡ replicate p None ++ x ∷ ys
  set_suc zero x ys = refl
  set_suc (suc p) x ys = ap (λ (zs : List (Slot T)). None ∷ zs) (set_suc p x ys)

  set_at : (m p : ℕ) → suc p ≡ m → (x : Slot T) (ys : List (Slot T)) → set (replicate m None ++ ys) p x ≡ replicate p None ++ x ∷ ys
  set_at m p e x ys = subst (λ (y : ℕ). set (replicate y None ++ ys) p x ≡ replicate p None ++ x ∷ ys) e (set_suc p x ys)

  pub length_some : (vs : List T) → length (map Some vs) ≡ length vs
  length_some [] = refl
  length_some (v ∷ vs) = ap suc (length_some vs)

  -- places keep their number
  pub length_places : (k : ℕ) (vs : List T) → k ≤ length vs → length (places_from k vs) ≡ length vs
  length_places k vs few =
      let some : length (map Some (drop k vs)) ≡ length (drop k vs) = length_some (drop k vs) in
      omega (arith, few, some, length-append (replicate k None) (map Some (drop k vs)), length-replicate {A = Slot T} k None, length-drop k vs)

  -- the same in places that so many values have left
  module _ (vs : List T) (places : List (Slot T)) (k : ℕ) (low : k < length vs) where
    pub place_here : places ≡ places_from k vs → (d : Slot T) → get_or places k d ≡ value_at vs k
    place_here are d = ap (λ (ps : List (Slot T)). get_or ps k d) are ∙ place_next vs k d low

    pub place_gone : places ≡ places_from k vs → set places k None ≡ places_from (k + 1) vs
    place_gone are = ap (λ (ps : List (Slot T)). set ps k None) are ∙ place_left vs k low

    -- and in places to which the last one comes back
    pub place_empty : places ≡ places_from (k + 1) vs → (d : Slot T) → get_or places k d ≡ None
    place_empty are d = ap (λ (ps : List (Slot T)). get_or ps k d) are ∙ none_at (k + 1) k (omega arith) d (map Some (drop (k + 1) vs))

    pub place_back : (x : T) → value_at vs k ≡ Some x → places ≡ places_from (k + 1) vs → set places k (Some x) ≡ places_from k vs
    place_back x is are =
        ap (λ (ps : List (Slot T)). set ps k (Some x)) are
        ∙ set_at (k + 1) k (omega arith) (Some x) (map Some (drop (k + 1) vs))
        ∙ ap (λ (s : Slot T). replicate k None ++ s ∷ map Some (drop (k + 1) vs)) (sym is ∙ (next_value vs k low).3)
        ∙ sym (places_here vs k low)

  -- a copy is of the next value
  pub copy_here : (vs : List T) (k : ℕ) (d : T) → k < length vs → value_at vs k ≡ Some (get_or vs k d)
  copy_here [] k d low = absurd (omega arith)
  copy_here (v ∷ vs) zero d low = refl
  copy_here (v ∷ vs) (suc k) d low = copy_here vs k d (omega arith)

  -- the values of places that all have one
  pub all_values : (places : List (Slot T)) → Every (λ p. IsSome p) places → (vs : List T) × (places ≡ map Some vs)
  all_values [] every = ([], refl)
  all_values (None ∷ places) every = absurd (false≢true every.0)
  all_values (Some v ∷ places) every = let r = all_values places every.1 in (v ∷ r.0, ap (λ (ps : List (Slot T)). Some v ∷ ps) r.1)

  pub somes_all : (vs : List T) → somes (map Some vs) ≡ vs
  somes_all [] = refl
  somes_all (v ∷ vs) = ap (λ (us : List T). v ∷ us) (somes_all vs)

  pub somes_taken : (k : ℕ) (vs : List T) → somes (take k (map Some vs)) ≡ take k vs
  somes_taken zero vs = refl
  somes_taken (suc k) [] = refl
  somes_taken (suc k) (v ∷ vs) = ap (λ (us : List T). v ∷ us) (somes_taken k vs)

  pub drop_some : (k : ℕ) (vs : List T) → drop k (map Some vs) ≡ map Some (drop k vs)
  drop_some zero vs = refl
  drop_some (suc k) [] = refl
  drop_some (suc k) (v ∷ vs) = drop_some k vs
