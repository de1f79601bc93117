-- What all passes did is what each did, put together.
use Rattle.std.proofs.Common.{◌≡◌, ◌≢◌, ℕ, suc, zero, ◌+◌, ◌<◌, ◌≤◌, List, [], ◌∷◌, ◌++◌, refl, true, false, arith, ap, sym, ◌∙◌, subst, append-nil, append_assoc, length, filter, IsPermutation, nat_le}
use Rattle.std.specs.List.{AllByRecursion as Every, flat_map}
use Rattle.std.proofs.lemmas.Bool.Decides.{nat_tests}
use Rattle.std.proofs.lemmas.List.Sorted.{IsPermutation-refl, IsPermutation-trans, IsPermutation-append_left, IsPermutation-append_right, IsPermutation-append_comm, length_permutation}
use Rattle.bounded_model.specs.declared.history.Event.{Event}
use Rattle.bounded_model.specs.Histories.{own, pass_of, Later}
use Rattle.bounded_model.specs.Gathers.{gather, EachFrom}
use Rattle.bounded_model.proofs.Histories.{own-mine, own-other, own-append, is_nil, no_parts, Later-cons}

pub gather-append : {T A : Type 0} (f : Event T → List A) (more h : List (Event T)) → gather f (more ++ h) ≡ gather f h ++ gather f more
gather-append f [] h = sym (append-nil (gather f h))
gather-append f (e ∷ more) h = rw (gather-append f more h) (append_assoc (gather f h) (gather f more) (f e))

-- only the events of passes from number a on
abbrev since : {T : Type 0} → ℕ → List (Event T) → List (Event T)
since a h = filter (λ e. nat_le a (pass_of e)) h

since_yes : {T : Type 0} (a : ℕ) (e : Event T) (h : List (Event T)) → a ≤ pass_of e → since a (e ∷ h) ≡ e ∷ since a h
since_yes a e h is = let b : nat_le a (pass_of e) ≡ true = grind (arith, nat_tests) in rw b

since_no : {T : Type 0} (a : ℕ) (e : Event T) (h : List (Event T)) → pass_of e < a → since a (e ∷ h) ≡ since a h
since_no a e h is = let b : nat_le a (pass_of e) ≡ false = grind (arith, nat_tests) in rw b

since_all : {T : Type 0} (h : List (Event T)) → since 0 h ≡ h
since_all [] = refl
since_all (e ∷ h) = since_yes 0 e h (omega arith) ∙ ap (λ l. e ∷ l) (since_all h)

since_none : {T : Type 0} (a : ℕ) (h : List (Event T)) → Every (λ e. pass_of e < a) h → since a h ≡ []
since_none a [] known = refl
since_none a (e ∷ h) known = since_no a e h known.0 ∙ since_none a h known.1

-- a number is below, at, or above another
data Placed (x a : ℕ) : Type 0 where
  Below : x < a → Placed x a
  Here : x ≡ a → Placed x a
  Above : suc a ≤ x → Placed x a

placed : (x a : ℕ) → Placed x a
placed zero zero = Here refl
placed zero (suc a) = Below (omega arith)
placed (suc x) zero = Above (omega arith)
placed (suc x) (suc a) = elim (placed x a) [ Below l ↦ Below (omega arith) | Here e ↦ Here (ap suc e) | Above g ↦ Above (omega arith) ]

module _ {T A : Type 0} (f : Event T → List A) where
  last_moves : (xs ys zs fe : List A) → IsPermutation (xs ++ ys) zs → IsPermutation ((xs ++ fe) ++ ys) (zs ++ fe)
  last_moves xs ys zs fe p =
      IsPermutation-trans _ _ _
      (subst (λ l. IsPermutation l (xs ++ (ys ++ fe))) (sym (append_assoc xs fe ys)) (IsPermutation-append_right xs (fe ++ ys) (ys ++ fe) (IsPermutation-append_comm fe ys)))
      (subst (λ l. IsPermutation l (zs ++ fe)) (append_assoc xs ys fe) (IsPermutation-append_left fe (xs ++ ys) zs p))

  last_stays : (xs ys zs fe : List A) → IsPermutation (xs ++ ys) zs → IsPermutation (xs ++ (ys ++ fe)) (zs ++ fe)
  last_stays xs ys zs fe p = subst (λ l. IsPermutation l (zs ++ fe)) (append_assoc xs ys fe) (IsPermutation-append_left fe (xs ++ ys) zs p)

  -- the events from a on are those of a, and those above
  parted : (a : ℕ) (h : List (Event T)) → IsPermutation (gather f (own a h) ++ gather f (since (suc a) h)) (gather f (since a h))
  parted a [] = IsPermutation-refl []
  parted a (e ∷ h) =
      elim (placed (pass_of e) a) [
        | Below below ↦
            let other : pass_of e ≢ a = λ q. absurd (omega arith) in
            rw (own-other a e h other, since_no (suc a) e h (omega arith), since_no a e h below) (parted a h)
        | Here is ↦
            rw (own-mine a e h is, since_no (suc a) e h (omega arith), since_yes a e h (omega arith))
            (last_moves (gather f (own a h)) (gather f (since (suc a) h)) (gather f (since a h)) (f e) (parted a h))
        | Above above ↦
            let other : pass_of e ≢ a = λ q. absurd (omega arith) in
            rw (own-other a e h other, since_yes (suc a) e h above, since_yes a e h (omega arith))
            (last_stays (gather f (own a h)) (gather f (since (suc a) h)) (gather f (since a h)) (f e) (parted a h))
      ]

  -- what each worker did by its own account, worker by worker from number a on, is what the history holds from a on
  by_passes_since : {W : Type 0} (g : W → List A) (h : List (Event T)) (n a : ℕ) (ws : List W) → n ≡ a + length ws
      → EachFrom (λ p w. gather f (own p h) ≡ g w) a ws → Every (λ e. pass_of e < n) h → IsPermutation (flat_map g ws) (gather f (since a h))
  by_passes_since g h n a [] is each known =
      let same : n ≡ a = omega arith in
      subst (λ l. IsPermutation [] (gather f l)) (sym (since_none a h (subst (λ k. Every (λ e. pass_of e < k) h) same known))) (IsPermutation-refl [])
  by_passes_since g h n a (w ∷ ws) is each known =
      rw (sym each.0)
      (IsPermutation-trans _ _ _ (IsPermutation-append_right (gather f (own a h)) _ _ (by_passes_since g h n (suc a) ws (omega arith) each.1 known)) (parted a h))

  -- where the events are of passes 0, 1, .., one for each of these workers, and each worker accounts for those of its pass,
  -- all their accounts together are what the history holds
  pub by_passes : {W : Type 0} (g : W → List A) (h : List (Event T)) (ws : List W)
      → EachFrom (λ p w. gather f (own p h) ≡ g w) 0 ws → Every (λ e. pass_of e < length ws) h → IsPermutation (flat_map g ws) (gather f h)
  by_passes g h ws each known = subst (λ l. IsPermutation (flat_map g ws) (gather f l)) (since_all h) (by_passes_since g h (length ws) 0 ws (omega arith) each known)

  nothing_of_all : {W : Type 0} (ws : List W) → flat_map {X = W} {A = A} (λ w. []) ws ≡ []
  nothing_of_all [] = refl
  nothing_of_all (w ∷ ws) = nothing_of_all ws

  -- what no pass did, the history does not hold
  pub nobody : {W : Type 0} (h : List (Event T)) (ws : List W) → EachFrom (λ p w. gather f (own p h) ≡ []) 0 ws → Every (λ e. pass_of e < length ws) h → gather f h ≡ []
  nobody h ws each known =
      let p = by_passes (λ w. []) h ws each known in
      is_nil (gather f h) (length_permutation _ _ p ∙ ap length (nothing_of_all ws))

  -- what a pass has not done by a later time, it has not done before
  pub gather-own-earlier : (p : ℕ) {old new : List (Event T)} → Later old new → gather f (own p new) ≡ [] → gather f (own p old) ≡ []
  gather-own-earlier p {old} {new} later none =
      (no_parts (gather f (own p old)) (gather f (own p later.more)) (sym (gather-append f (own p later.more) (own p old)) ∙ (ap (gather f) (sym (own-append p later.more old) ∙ sym (ap (own p) later.is)) ∙ none))).0

  stranger : (e : Event T) (p : ℕ) (h : List (Event T)) → pass_of e ≢ p → gather f h ≡ gather f (own p h) → gather f (own (pass_of e) (e ∷ h)) ≡ [] → gather f (e ∷ h) ≡ gather f (own p (e ∷ h))
  stranger e p h other before none =
      let nothing : f e ≡ [] = (no_parts (gather f (own (pass_of e) h)) (f e) (sym (ap (gather f) (own-mine (pass_of e) e h refl)) ∙ none)).1 in
      rw (own-other p e h other, nothing, append-nil (gather f h), before) refl

  -- where no other pass did any, what one pass did is all there is, in its order
  pub alone : (p : ℕ) (h : List (Event T)) → ((q : ℕ) → q ≢ p → gather f (own q h) ≡ []) → gather f h ≡ gather f (own p h)
  alone p [] others = refl
  alone p (e ∷ h) others =
      let before : gather f h ≡ gather f (own p h) = alone p h (λ q other. gather-own-earlier q (Later-cons e h) (others q other)) in
      elim (placed (pass_of e) p) [
        | Below below ↦ let other : pass_of e ≢ p = λ q. absurd (omega arith) in stranger e p h other before (others (pass_of e) other)
        | Here is ↦ rw (own-mine p e h is, before) refl
        | Above above ↦ let other : pass_of e ≢ p = λ q. absurd (omega arith) in stranger e p h other before (others (pass_of e) other)
      ]
