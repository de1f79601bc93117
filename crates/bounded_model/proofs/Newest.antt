-- A stack's values are the latest puts that have not been taken, the latest first.
use Rattle.std.proofs.Common.{◌≡◌, ◌⊎◌, ℕ, ◌+◌, ◌≤◌, List, [], ◌∷◌, ◌++◌, length, reverse, refl, sym, ap, ◌∙◌, subst, ⊎_elim, inl, inr, arith, append-nil, append_assoc, length-append}
use mathlib.Core.List.{reverse-cons}
use Rattle.std.proofs.lemmas.List.{reverse-append, reverse-reverse, length-reverse}
use Rattle.bounded_model.specs.declared.history.Order.{Order}
use Rattle.bounded_model.specs.declared.history.Order.TheVariants.{Lifo}
use Rattle.bounded_model.specs.declared.history.Event.{Event}
use Rattle.bounded_model.specs.declared.history.Event.TheVariants.{Hold, Put, Take, TakeAll, Free, Close, Shut}
use Rattle.bounded_model.specs.Machine.{Shape, state, Legal, put_on, without_first}
use Rattle.bounded_model.specs.Gathers.{gather, moved_by, put_of, took_of, values_of}
use Rattle.bounded_model.specs.Latest.{IsLatest}
use Rattle.bounded_model.proofs.Histories.{no_parts}
use Rattle.bounded_model.proofs.Balance.{values_of-moved_by}

module _ {T : Type 0} where
  -- where a list in two parts has v
  abbrev InPart : List T → List T → List T → T → List T → Type 0
  InPart xs ys first v last = ((rest : List T) × (xs ≡ first ++ v ∷ rest)) ⊎ ((rest : List T) × (first ≡ xs ++ rest) × (ys ≡ rest ++ v ∷ last))

  in_part : (xs ys first : List T) (v : T) (last : List T) → xs ++ ys ≡ first ++ v ∷ last → InPart xs ys first v last
  in_part [] ys first v last e = inr (first, refl, e)
  in_part (x ∷ xs) ys [] v last e = inl (xs, (let same : x ≡ v = cc in ap (λ (y : T). y ∷ xs) same))
  in_part (x ∷ xs) ys (y ∷ first) v last e =
      let same : x ≡ y = cc in
      let rest : xs ++ ys ≡ first ++ v ∷ last = cc in
      ⊎_elim
      (λ m. inl (m.0, (let is : xs ≡ first ++ v ∷ m.0 = m.1 in cc)))
      (λ m. inr (m.0, (let is : first ≡ xs ++ m.0 = m.1 in cc), m.2))
      (in_part xs ys first v last rest)

  -- one more event: what it puts is put above v, and what it takes was above v
  goes_on : (e : Event T) (h : List (Event T)) (v : T) (left left' : ℕ) → left + length (put_of e) ≡ length (took_of e) + left' → IsLatest v left h → IsLatest v left' (e ∷ h)
  goes_on e h v left left' moves x = record {
    since = e ∷ x.since;
    by = x.by;
    below = x.below;
    above = x.above;
    number = x.number;
    before = x.before;
    was_put = ap (λ (l : List (Event T)). e ∷ l) x.was_put;
    all_taken = taken;
    never_more = never;
  }
    where
      taken : length (gather took_of x.since ++ took_of e) + left' ≡ length x.above + length (gather put_of x.since ++ put_of e)
      taken = omega (arith, moves, x.all_taken, length-append (gather took_of x.since) (took_of e), length-append (gather put_of x.since) (put_of e))

      never : (more less : List (Event T)) → e ∷ x.since ≡ more ++ less → length (gather took_of less) ≤ length x.above + length (gather put_of less)
      never [] less is = subst (λ (l : List (Event T)). length (gather took_of l) ≤ length x.above + length (gather put_of l)) is (omega (arith, taken))
      never (y ∷ more) less is = let rest : x.since ≡ more ++ less = cc in x.never_more more less rest

  -- v is in a put, below those that stand first
  in_put : (p n : ℕ) (vs first rest : List T) (v : T) (h : List (Event T)) → reverse vs ≡ first ++ v ∷ rest → IsLatest v (length first) (Put p vs n ∷ h)
  in_put p n vs first rest v h is =
      let turned : vs ≡ reverse rest ++ v ∷ reverse first =
      sym (reverse-reverse vs) ∙ ap reverse is ∙ reverse-append first (v ∷ rest) ∙ ap (λ (l : List T). l ++ reverse first) (reverse-cons v rest) ∙ append_assoc (reverse rest) (v ∷ []) (reverse first) in
      record {
        since = [];
        by = p;
        below = reverse rest;
        above = reverse first;
        number = n;
        before = h;
        was_put = ap (λ (l : List T). Put p l n ∷ h) turned;
        all_taken = omega (arith, length-reverse first);
        never_more = λ more less e. let none : less ≡ [] = (no_parts more less (sym e)).1 in subst (λ (l : List (Event T)). length (gather took_of l) ≤ length (reverse first) + length (gather put_of l)) (sym none) (omega arith);
      }

  -- each value of a stack is the latest put below those that stand before it
  stands_latest : (c : Shape) (h : List (Event T)) → c.order ≡ Lifo → Legal c h → (first : List T) (v : T) (last : List T) → (state c h).values ≡ first ++ v ∷ last → IsLatest v (length first) h
  stands_latest c [] lifo l first v last is = let no : v ∷ last ≡ [] = (no_parts first (v ∷ last) (sym is)).1 in cc
  stands_latest c (Hold p ∷ h) lifo l first v last is = goes_on (Hold p) h v (length first) (length first) (omega arith) (stands_latest c h lifo l.1 first v last is)
  stands_latest c (Put p vs n ∷ h) lifo l first v last is =
      let on_top : reverse vs ++ (state c h).values ≡ first ++ v ∷ last = ap (λ (o : Order). put_on o (state c h).values vs) (sym lifo) ∙ is in
      ⊎_elim
      (λ m. in_put p n vs first m.0 v h m.1)
      (λ m. goes_on (Put p vs n) h v (length m.0) (length first) (omega (arith, ap length m.1, length-append (reverse vs) m.0, length-reverse vs)) (stands_latest c h lifo l.1 m.0 v last m.2))
      (in_part (reverse vs) (state c h).values first v last on_top)
  stands_latest c (Take p w n ∷ h) lifo l first v last is =
      let was : (state c h).values ≡ w ∷ l.0.1.0 = l.0.1.1 in
      let rest : l.0.1.0 ≡ first ++ v ∷ last = sym (ap without_first was) ∙ is in
      goes_on (Take p w n) h v (length (w ∷ first)) (length first) (omega arith) (stands_latest c h lifo l.1 (w ∷ first) v last (was ∙ ap (λ (xs : List T). w ∷ xs) rest))
  stands_latest c (TakeAll p vs n ∷ h) lifo l first v last is = let no : v ∷ last ≡ [] = (no_parts first (v ∷ last) (sym is)).1 in cc
  stands_latest c (Free p k ∷ h) lifo l first v last is = goes_on (Free p k) h v (length first) (length first) (omega arith) (stands_latest c h lifo l.1 first v last is)
  stands_latest c (Close p ∷ h) lifo l first v last is = goes_on (Close p) h v (length first) (length first) (omega arith) (stands_latest c h lifo l.1 first v last is)
  stands_latest c (Shut p ∷ h) lifo l first v last is = goes_on (Shut p) h v (length first) (length first) (omega arith) (stands_latest c h lifo l.1 first v last is)

  -- what an event takes stands on top
  takes_top : (c : Shape) (e : Event T) (h : List (Event T)) → Legal c (e ∷ h) → (rest : List T) × ((state c h).values ≡ values_of (took_of e) ++ rest)
  takes_top c (Hold p) h l = ((state c h).values, refl)
  takes_top c (Put p vs n) h l = ((state c h).values, refl)
  takes_top c (Take p v n) h l = l.0.1
  takes_top c (TakeAll p vs n) h l = ([], l.0.2 ∙ sym (values_of-moved_by p n vs) ∙ sym (append-nil (values_of (moved_by p n vs))))
  takes_top c (Free p k) h l = ((state c h).values, refl)
  takes_top c (Close p) h l = ((state c h).values, refl)
  takes_top c (Shut p) h l = ((state c h).values, refl)

  legal_before : (c : Shape) (newer h : List (Event T)) → Legal c (newer ++ h) → Legal c h
  legal_before c [] h l = l
  legal_before c (e ∷ newer) h l = legal_before c newer h l.1

  pub takes_latest : (c : Shape) (newer : List (Event T)) (e : Event T) (h : List (Event T)) → c.order ≡ Lifo → Legal c (newer ++ e ∷ h)
      → (first : List T) (v : T) (last : List T) → values_of (took_of e) ≡ first ++ v ∷ last → IsLatest v (length first) h
  takes_latest c newer e h lifo legal first v last is =
      let l = legal_before c newer (e ∷ h) legal in
      let top = takes_top c e h l in
      stands_latest c h lifo l.1 first v (last ++ top.0) (top.1 ∙ ap (λ (xs : List T). xs ++ top.0) is ∙ append_assoc first (v ∷ last) top.0)
