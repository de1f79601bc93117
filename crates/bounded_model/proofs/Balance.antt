-- What was put is what was taken and what is there: in a queue in this order, in a stack in some order.
use Rattle.std.proofs.Common.{◌≡◌, ℕ, List, [], ◌∷◌, ◌++◌, refl, Bool, true, ap, sym, ◌∙◌, subst, append-nil, append_assoc, filter, IsPermutation, reverse}
use mathlib.Core.List.{reverse-cons}
use Rattle.std.proofs.lemmas.List.{map-append}
use Rattle.std.proofs.lemmas.List.Elements.{filter-append}
use Rattle.std.proofs.lemmas.List.Sorted.{IsPermutation-refl, IsPermutation-trans, IsPermutation-append_left, IsPermutation-append_right, IsPermutation-append_comm, IsPermutation-sym}
use Rattle.bounded_model.specs.declared.history.Order.{Order}
use Rattle.bounded_model.specs.declared.history.Order.TheVariants.{Fifo, Lifo}
use Rattle.bounded_model.specs.declared.history.Event.{Event}
use Rattle.bounded_model.specs.declared.history.Event.TheVariants.{Hold, Put, Take, TakeAll, Free, Close, Shut}
use Rattle.bounded_model.specs.Machine.{Shape, state, Legal, put_on, without_first}
use Rattle.bounded_model.specs.Gathers.{gather, Moved, moved_by, put_of, sent_of, took_of, values_of}

-- the values of one call
pub values_of-moved_by : {T : Type 0} (p n : ℕ) (vs : List T) → values_of (moved_by p n vs) ≡ vs
values_of-moved_by p n [] = refl
values_of-moved_by p n (v ∷ vs) = ap (λ l. v ∷ l) (values_of-moved_by p n vs)

module _ {T : Type 0} where
  pub values_of-append : (xs ys : List (Moved T)) → values_of (xs ++ ys) ≡ values_of xs ++ values_of ys
  values_of-append xs ys = map-append (λ m. m.value) xs ys

  -- with or without their numbers, what was put is the same
  pub values_of-sent : (h : List (Event T)) → values_of (gather sent_of h) ≡ gather put_of h
  values_of-sent [] = refl
  values_of-sent (Hold p ∷ h) = simp append-nil (values_of-sent h)
  values_of-sent (Put p vs n ∷ h) = values_of-append (gather sent_of h) (moved_by p n vs) ∙ rw (values_of-sent h, values_of-moved_by p n vs) refl
  values_of-sent (Take p v n ∷ h) = simp append-nil (values_of-sent h)
  values_of-sent (TakeAll p vs n ∷ h) = simp append-nil (values_of-sent h)
  values_of-sent (Free p k ∷ h) = simp append-nil (values_of-sent h)
  values_of-sent (Close p ∷ h) = simp append-nil (values_of-sent h)
  values_of-sent (Shut p ∷ h) = simp append-nil (values_of-sent h)

  -- a queue: what was put is what was taken, and then what is there
  pub first_in_first_out : (c : Shape) (h : List (Event T)) → c.order ≡ Fifo → Legal c h → gather put_of h ≡ values_of (gather took_of h) ++ (state c h).values
  first_in_first_out c [] queue l = refl
  first_in_first_out c (Hold p ∷ h) queue l = simp append-nil (first_in_first_out c h queue l.1)
  first_in_first_out c (Put p vs n ∷ h) queue l =
      let more : put_on c.order (state c h).values vs ≡ (state c h).values ++ vs = rw queue in
      let before = first_in_first_out c h queue l.1 in
      rw (append-nil, more, before) (append_assoc (values_of (gather took_of h)) (state c h).values vs)
  first_in_first_out c (Take p v n ∷ h) queue l =
      let is = l.0.1.1 in
      let before = first_in_first_out c h queue l.1 in
      let taken = values_of-append (gather took_of h) (record { value = v; number = n; by = p } ∷ []) in
      rw (append-nil, taken, before, is) (sym (append_assoc (values_of (gather took_of h)) (v ∷ []) l.0.1.0))
  first_in_first_out c (TakeAll p vs n ∷ h) queue l = absurd (rw queue at l.0.1)
  first_in_first_out c (Free p k ∷ h) queue l = simp append-nil (first_in_first_out c h queue l.1)
  first_in_first_out c (Close p ∷ h) queue l = simp append-nil (first_in_first_out c h queue l.1)
  first_in_first_out c (Shut p ∷ h) queue l = simp append-nil (first_in_first_out c h queue l.1)

module _ {T : Type 0} (p : T → Bool) where
  filter_back : (xs : List T) → IsPermutation (filter p (reverse xs)) (filter p xs)
  filter_back [] = IsPermutation-refl []
  filter_back (x ∷ xs) =
      let is : filter p (reverse (x ∷ xs)) ≡ filter p (reverse xs) ++ filter p (x ∷ []) = ap (filter p) (reverse-cons x xs) ∙ filter-append p (reverse xs) (x ∷ []) in
      let to : filter p (x ∷ []) ++ filter p xs ≡ filter p (x ∷ xs) = sym (filter-append p (x ∷ []) xs) in
      subst (λ l. IsPermutation l (filter p (x ∷ xs))) (sym is)
      (IsPermutation-trans _ _ _ (IsPermutation-append_left (filter p (x ∷ [])) _ _ (filter_back xs)) (subst (IsPermutation (filter p xs ++ filter p (x ∷ []))) to (IsPermutation-append_comm (filter p xs) (filter p (x ∷ [])))))

  put_more : (o : Order) (xs vs : List T) → IsPermutation (filter p xs ++ filter p vs) (filter p (put_on o xs vs))
  put_more Fifo xs vs = subst (IsPermutation (filter p xs ++ filter p vs)) (sym (filter-append p xs vs)) (IsPermutation-refl _)
  put_more Lifo xs vs =
      subst (IsPermutation (filter p xs ++ filter p vs)) (sym (filter-append p (reverse vs) xs))
      (IsPermutation-trans _ _ _ (IsPermutation-append_comm (filter p xs) (filter p vs)) (IsPermutation-append_left (filter p xs) _ _ (IsPermutation-sym _ _ (filter_back vs))))

  -- values that go from the list to what was taken
  taken_more : (taken out rest : List T) (moved more : List (Moved T)) → taken ≡ values_of moved → out ≡ values_of more
      → filter p (values_of (moved ++ more)) ++ filter p rest ≡ filter p taken ++ filter p (out ++ rest)
  taken_more taken out rest moved more is out_is =
      let both : filter p (values_of (moved ++ more)) ≡ filter p taken ++ filter p out =
      ap (filter p) (values_of-append moved more) ∙ (filter-append p (values_of moved) (values_of more) ∙ rw (is, out_is) refl) in
      rw (both, filter-append p out rest) (append_assoc (filter p taken) (filter p out) (filter p rest))

  -- in either order: among the values of one kind, what was put is what was taken and what is there
  pub all_there_of : (c : Shape) (h : List (Event T)) → Legal c h → IsPermutation (filter p (gather put_of h)) (filter p (values_of (gather took_of h)) ++ filter p (state c h).values)
  all_there_of c [] l = IsPermutation-refl []
  all_there_of c (Hold q ∷ h) l = simp append-nil (all_there_of c h l.1)
  all_there_of c (Put q vs n ∷ h) l =
      let before = all_there_of c h l.1 in
      let fp = filter p (gather put_of h) in
      let ft = filter p (values_of (gather took_of h)) in
      let fx = filter p (state c h).values in
      rw append-nil (
      subst (λ l. IsPermutation l (ft ++ filter p (put_on c.order (state c h).values vs))) (sym (filter-append p (gather put_of h) vs))
      (IsPermutation-trans (fp ++ filter p vs) ((ft ++ fx) ++ filter p vs) _ (IsPermutation-append_left (filter p vs) _ _ before)
      (subst (λ l. IsPermutation l (ft ++ filter p (put_on c.order (state c h).values vs))) (sym (append_assoc ft fx (filter p vs)))
      (IsPermutation-append_right ft _ _ (put_more c.order (state c h).values vs)))))
  all_there_of c (Take q v n ∷ h) l =
      let before = all_there_of c h l.1 in
      let ft = filter p (values_of (gather took_of h)) in
      let one = record { value = v; number = n; by = q } ∷ [] in
      let rest : without_first (state c h).values ≡ l.0.1.0 = ap without_first l.0.1.1 in
      let right : filter p (values_of (gather took_of h ++ one)) ++ filter p (without_first (state c h).values) ≡ ft ++ filter p (state c h).values =
      ap (λ xs. filter p (values_of (gather took_of h ++ one)) ++ filter p xs) rest
      ∙ (taken_more (values_of (gather took_of h)) (v ∷ []) l.0.1.0 (gather took_of h) one refl refl ∙ ap (λ xs. ft ++ filter p xs) (sym l.0.1.1)) in
      rw append-nil (subst (IsPermutation (filter p (gather put_of h))) (sym right) before)
  all_there_of c (TakeAll q vs n ∷ h) l =
      let before = all_there_of c h l.1 in
      let right = taken_more (values_of (gather took_of h)) vs [] (gather took_of h) (moved_by q n vs) refl (sym (values_of-moved_by q n vs)) in
      let all : vs ++ [] ≡ (state c h).values = append-nil vs ∙ sym l.0.2 in
      subst (λ l. IsPermutation l (filter p (values_of (gather took_of h ++ moved_by q n vs)) ++ [])) (ap (filter p) (sym (append-nil (gather put_of h))))
      (subst (IsPermutation (filter p (gather put_of h))) (sym (right ∙ ap (λ l. filter p (values_of (gather took_of h)) ++ filter p l) all)) before)
  all_there_of c (Free q j ∷ h) l = simp append-nil (all_there_of c h l.1)
  all_there_of c (Close q ∷ h) l = simp append-nil (all_there_of c h l.1)
  all_there_of c (Shut q ∷ h) l = simp append-nil (all_there_of c h l.1)

filter_all : {T : Type 0} (xs : List T) → filter (λ x. true) xs ≡ xs
filter_all [] = refl
filter_all (x ∷ xs) = ap (λ l. x ∷ l) (filter_all xs)

-- in either order, of all values
pub all_there : {T : Type 0} (c : Shape) (h : List (Event T)) → Legal c h → IsPermutation (gather put_of h) (values_of (gather took_of h) ++ (state c h).values)
all_there c h l =
    let of_true = all_there_of (λ x. true) c h l in
    rw (filter_all (gather put_of h), filter_all (values_of (gather took_of h)), filter_all (state c h).values) at of_true
