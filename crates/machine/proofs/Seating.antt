-- What all seats know together, after one of them has made a step, was cut in two, or took in another.
use Rattle.std.proofs.Common.{◌≡◌, ◌≢◌, ℕ, zero, suc, ◌+◌, ◌<◌, ◌≤◌, ◌⊎◌, inl, inr, ⊎_elim, List, [], ◌∷◌, ◌++◌, length, set, refl, sym, ap, ◌∙◌, subst, arith, lt_of_not-le}
use Rattle.std.specs.List.{AllByRecursion as Every}
use mathlib.Core.Option.{some, some-injective, some-ne-none}
use lib.ListN.{get_elem?}
use Rattle.bounded_model.specs.declared.history.Event.{Event}
use Rattle.bounded_model.specs.declared.views.PassView.{PassView}
use Rattle.bounded_model.specs.declared.views.RootView.{RootView}
use Rattle.bounded_model.specs.Machine.{Shape}
use Rattle.bounded_model.specs.Histories.{own, Later}
use Rattle.bounded_model.proofs.Histories.{Later-refl, Later-trans, own-earlier}
use Rattle.machine.specs.declared.seats.View.{View}
use Rattle.machine.specs.declared.seats.View.TheVariants.{AtRoot, AtPass, AtMeeting, AtNote, AtHearing, Left}
use Rattle.machine.specs.Seats.{IsJoined, Owns, Saw, Rooted, Knows, Fine, Seated, Shares, held_at, first_view, left_of, right_of, both_of, takes_back}
use Rattle.machine.proofs.Hands.{same_hand}
use Rattle.machine.proofs.Sums.{at_set}

module _ {A : Type 0} where
  pub joined-below : (n x : ℕ) (a : List (ℕ × A)) → Every (λ b. b.0 < n) a → IsJoined x a → x < n
  joined-below n x [] below j = absurd j
  joined-below n x (b ∷ a) below (inl e) = let l : b.0 < n = below.0 in omega arith
  joined-below n x (b ∷ a) below (inr j) = joined-below n x a below.1 j

  -- who isn't joined differs from all who are
  pub unjoined_apart : (x : ℕ) (a : List (ℕ × A)) → (IsJoined x a → ⊥) → Every (λ b. b.0 ≢ x) a
  unjoined_apart x [] never = tt
  unjoined_apart x (b ∷ a) never = (λ e. never (inl (sym e)), unjoined_apart x a (λ j. never (inr j)))

  pub below_more : (n : ℕ) (a : List (ℕ × A)) → Every (λ b. b.0 < n) a → Every (λ b. b.0 < n + 1) a
  below_more n [] below = tt
  below_more n (b ∷ a) below = (let l : b.0 < n = below.0 in omega arith, below_more n a below.1)

module _ {T : Type 0} where
  account_later : (h k : List (Event T)) (a : List (ℕ × List (Event T))) → Every (λ b. own b.0 h ≡ b.1) a → ((x : ℕ) → IsJoined x a → own x k ≡ own x h) → Every (λ b. own b.0 k ≡ b.1) a
  account_later h k [] right same = tt
  account_later h k (b ∷ a) right same = (same b.0 (inl refl) ∙ right.0, account_later h k a right.1 (λ x j. same x (inr j)))

  saw_later : (h k : List (Event T)) (p : PassView T) → Saw h p → Later h k → own p.number k ≡ own p.number h → Saw k p
  saw_later h k p f later same = record { seen = Later-trans f.seen later; own_events = same ∙ f.own_events }

  takes_back_rooted : (h : List (Event T)) (r : RootView T) (heard : List (Event T)) (p : PassView T) → Rooted h r heard → Saw h p
      → (((r.given ≤ p.number) ⊎ IsJoined p.number r.account) → ⊥) → Rooted h (takes_back r p) p.seen
  takes_back_rooted h r heard p f g out = record {
    seen = f.seen;
    heard_seen = g.seen;
    joined = (g.own_events, f.joined);
    apart = (unjoined_apart p.number r.account (λ j. out (inr j)), f.apart);
    given = (lt_of_not-le (λ le. out (inl le)), f.given);
    unknown = f.unknown;
    works = ap (λ (numbers : List ℕ). p.number ∷ numbers) f.works;
  }

module _ {T L : Type 0} where
  knows_later : (h k : List (Event T)) (v : View T L) → Knows h v → Later h k → ((x : ℕ) → Owns v x → own x k ≡ own x h) → Knows k v
  knows_later h k (AtRoot r ks heard l) f later same = record {
    seen = Later-trans f.seen later;
    heard_seen = Later-trans f.heard_seen later;
    joined = account_later h k r.account f.joined (λ x j. same x (inr j));
    apart = f.apart;
    given = f.given;
    unknown = λ x le. same x (inl le) ∙ f.unknown x le;
    works = f.works;
  }
  knows_later h k (AtPass p begun l) f later same = saw_later h k p f later (same p.number refl)
  knows_later h k (AtMeeting p xs a q ys b) f later same = (saw_later h k p f.0 later (same p.number (inl refl)), saw_later h k q f.1 later (same q.number (inr refl)), f.2)
  knows_later h k (AtNote told) f later same = Later-trans f later
  knows_later h k (AtHearing p xs l told) f later same = (saw_later h k p f.0 later (same p.number refl), Later-trans f.1 later)
  knows_later h k Left f later same = tt

  -- how a cut shares out the numbers
  pub left_owns : (sh : Shares L) (v : View T L) (x : ℕ) → Owns (left_of sh v) x → Owns v x
  left_owns sh (AtRoot r ks heard l) x (inl le) = inl (omega arith)
  left_owns sh (AtRoot r ks heard l) x (inr j) = inr j
  left_owns sh (AtMeeting p xs k q ys l) x o = inl o
  left_owns sh v x o = o

  pub right_owns : (sh : Shares L) (v : View T L) (x : ℕ) → Owns (right_of sh v) x → Owns v x
  right_owns sh (AtRoot r ks heard l) x o = inl (omega arith)
  right_owns sh (AtPass p begun l) x o = absurd o
  right_owns sh (AtMeeting p xs k q ys l) x o = inr o
  right_owns sh (AtHearing p xs l told) x o = absurd o
  right_owns sh v x o = o

  halves_apart : (sh : Shares L) (h : List (Event T)) (v : View T L) → Knows h v → (x : ℕ) → Owns (left_of sh v) x → Owns (right_of sh v) x → ⊥
  halves_apart sh h (AtRoot r ks heard l) f x (inl le) e = omega arith
  halves_apart sh h (AtRoot r ks heard l) f x (inr j) e = let l = joined-below r.given x r.account f.given j in omega arith
  halves_apart sh h (AtMeeting p xs k q ys l) f x o e = f.2 (sym o ∙ e)
  halves_apart sh h v f x o e = e

  left_knows : (sh : Shares L) (h : List (Event T)) (v : View T L) → Knows h v → Knows h (left_of sh v)
  left_knows sh h (AtRoot r ks heard l) f = record { seen = f.seen; heard_seen = f.heard_seen; joined = f.joined; apart = f.apart; given = below_more r.given r.account f.given; unknown = λ x le. f.unknown x (omega arith); works = f.works }
  left_knows sh h (AtPass p begun l) f = f
  left_knows sh h (AtMeeting p xs k q ys l) f = f.0
  left_knows sh h (AtNote told) f = f
  left_knows sh h (AtHearing p xs l told) f = f.0
  left_knows sh h Left f = tt

  right_knows : (sh : Shares L) (h : List (Event T)) (v : View T L) → Knows h v → Knows h (right_of sh v)
  right_knows sh h (AtRoot r ks heard l) f = record { seen = f.seen; own_events = f.unknown r.given (omega arith) ∙ sym (own-earlier r.given f.seen (f.unknown r.given (omega arith))) }
  right_knows sh h (AtPass p begun l) f = f.seen
  right_knows sh h (AtMeeting p xs k q ys l) f = f.1
  right_knows sh h (AtNote told) f = f
  right_knows sh h (AtHearing p xs l told) f = f.1
  right_knows sh h Left f = tt

  -- and a union puts them together
  pub both_owns : (sh : Shares L) (v w : View T L) (x : ℕ) → Owns (both_of sh v w) x → Owns v x ⊎ Owns w x
  both_owns sh (AtRoot r ks heard l) (AtPass p begun k) x (inl le) = inl (inl le)
  both_owns sh (AtRoot r ks heard l) (AtPass p begun k) x (inr (inl e)) = inr e
  both_owns sh (AtRoot r ks heard l) (AtPass p begun k) x (inr (inr j)) = inl (inr j)
  both_owns sh (AtPass p begun l) (AtPass q begun' l') x o = o
  both_owns sh v w x o = inl o

  both_knows : (sh : Shares L) (h : List (Event T)) (v w : View T L) → Knows h v → Knows h w → ((x : ℕ) → Owns v x → Owns w x → ⊥) → Knows h (both_of sh v w)
  both_knows sh h (AtRoot r ks heard l) (AtPass p begun k) f g off = takes_back_rooted h r heard.seen p f g (λ o. off p.number o refl)
  both_knows sh h (AtPass p begun l) (AtPass q begun' l') f g off = (f, g, λ e. off p.number refl e)
  both_knows sh h (AtPass p begun l) (AtNote told) f g off = (f, g)
  both_knows sh h v w f g off = f

  pub set_swap : (l : List (View T L)) (i j : ℕ) (a b : View T L) → i ≢ j → set (set l i a) j b ≡ set (set l j b) i a
  set_swap [] i j a b ne = refl
  set_swap (x ∷ l) zero zero a b ne = absurd (ne refl)
  set_swap (x ∷ l) zero (suc j) a b ne = refl
  set_swap (x ∷ l) (suc i) zero a b ne = refl
  set_swap (x ∷ l) (suc i) (suc j) a b ne = ap (λ ys. x ∷ ys) (set_swap l i j a b (λ e. ne (ap suc e)))

  pub at_end : (l : List (View T L)) (a b : View T L) (j : ℕ) → get_elem? (l ++ a ∷ []) j ≡ some b → (get_elem? l j ≡ some b) ⊎ ((a ≡ b) × (j ≡ length l))
  at_end [] a b zero e = inr (some-injective a b e, refl)
  at_end [] a b (suc j) e = absurd (some-ne-none b (sym e))
  at_end (x ∷ xs) a b zero e = inl e
  at_end (x ∷ xs) a b (suc j) e = ⊎_elim (λ t. inl t) (λ t. let n = t.1 in inr (t.0, omega arith)) (at_end xs a b j e)

module _ {T L : Type 0} (c : Shape) (held : L → ℕ) where
  -- a seat's facts outlive events of passes that it doesn't answer for
  pub fine_later : (h k : List (Event T)) (v : View T L) → Fine c held h v → Later h k → ((x : ℕ) → Owns v x → own x k ≡ own x h) → Fine c held k v
  fine_later h k v f later same = record { knows = knows_later h k v f.knows later same; hands = λ x o. same_hand c x k h (same x o) ∙ f.hands x o }

  seated_set : (h k : List (Event T)) (views : List (View T L)) (id : ℕ) (w : View T L) → Seated c held h views → ((j : ℕ) (u : View T L) → j ≢ id → get_elem? views j ≡ some u → Fine c held k u) → Fine c held k w
      → ((j : ℕ) (u : View T L) → j ≢ id → get_elem? views j ≡ some u → (x : ℕ) → Owns u x → Owns w x → ⊥) → Seated c held k (set views id w)
  seated_set h k views id w f others fine off = record {
    each = λ j u e. ⊎_elim (λ t. subst (Fine c held k) t.1 fine) (λ t. others j u t.0 t.1) (at_set views id j w u e);
    apart = λ i j a b ne ea eb x oa ob. ⊎_elim
        (λ s. ⊎_elim (λ t. ne (s.0 ∙ sym t.0)) (λ t. off j b t.0 t.1 x ob (subst (λ (y : View T L). Owns y x) (sym s.1) oa)) (at_set views id j w b eb))
        (λ s. ⊎_elim (λ t. off i a s.0 s.1 x oa (subst (λ (y : View T L). Owns y x) (sym t.1) ob)) (λ t. f.apart i j a b ne s.1 t.1 x oa ob) (at_set views id j w b eb))
        (at_set views id i w a ea);
  }

  -- one seat has made a step: it answers for no new number, and the events that it added are of its own numbers
  pub seated_step : (h k : List (Event T)) (views : List (View T L)) (id : ℕ) (v w : View T L) → Seated c held h views → get_elem? views id ≡ some v → Later h k → ((x : ℕ) → (Owns v x → ⊥) → own x k ≡ own x h) → Fine c held k w
      → ((x : ℕ) → Owns w x → Owns v x) → Seated c held k (set views id w)
  seated_step h k views id v w f mine later same fine fewer = seated_set h k views id w f
      (λ j u ne e. fine_later h k u (f.each j u e) later (λ x o. same x (λ o'. f.apart j id u v ne e mine x o o')))
      fine
      (λ j u ne e x o o'. f.apart j id u v ne e mine x o (fewer x o'))

  seated_new : (h : List (Event T)) (views : List (View T L)) (w : View T L) → Seated c held h views → Fine c held h w → ((j : ℕ) (u : View T L) → get_elem? views j ≡ some u → (x : ℕ) → Owns u x → Owns w x → ⊥) → Seated c held h (views ++ w ∷ [])
  seated_new h views w f fine off = record {
    each = λ j u e. ⊎_elim (λ t. f.each j u t) (λ t. subst (Fine c held h) t.0 fine) (at_end views w u j e);
    apart = λ i j a b ne ea eb x oa ob. ⊎_elim
        (λ s. ⊎_elim (λ t. f.apart i j a b ne s t x oa ob) (λ t. off i a s x oa (subst (λ (y : View T L). Owns y x) (sym t.0) ob)) (at_end views w b j eb))
        (λ s. ⊎_elim (λ t. off j b t x ob (subst (λ (y : View T L). Owns y x) (sym s.0) oa)) (λ t. ne (s.1 ∙ sym t.1)) (at_end views w b j eb))
        (at_end views w a i ea);
  }

  -- the passes that a cut gives have nothing in hand
  abbrev pub EmptyParts : Shares L → View T L → Type 0
  EmptyParts sh (AtRoot r ks heard l) = held (sh.gives l).1 ≡ 0
  EmptyParts sh (AtMeeting p xs k q ys l) = (held k ≡ 0) × (held l ≡ 0)
  EmptyParts sh (AtHearing p xs l told) = held l ≡ 0
  EmptyParts sh v = Unit {0}

  left_holds : (sh : Shares L) (v : View T L) → EmptyParts sh v → held_at held v ≡ held_at held (left_of sh v)
  left_holds sh (AtRoot r ks heard l) e = refl
  left_holds sh (AtPass p begun l) e = refl
  left_holds sh (AtMeeting p xs k q ys l) e = sym e.0
  left_holds sh (AtNote told) e = refl
  left_holds sh (AtHearing p xs l told) e = sym e
  left_holds sh Left e = refl

  right_holds : (sh : Shares L) (v : View T L) (x : ℕ) → EmptyParts sh v → Owns (right_of sh v) x → held_at held v ≡ held_at held (right_of sh v)
  right_holds sh (AtRoot r ks heard l) x e o = sym e
  right_holds sh (AtPass p begun l) x e o = absurd o
  right_holds sh (AtMeeting p xs k q ys l) x e o = sym e.1
  right_holds sh (AtNote told) x e o = refl
  right_holds sh (AtHearing p xs l told) x e o = absurd o
  right_holds sh Left x e o = refl

  -- a seat was cut in two
  pub seated_split : (sh : Shares L) (h : List (Event T)) (views : List (View T L)) (id : ℕ) (v : View T L) → EmptyParts sh v → Seated c held h views → get_elem? views id ≡ some v → Seated c held h (set views id (left_of sh v) ++ right_of sh v ∷ [])
  seated_split sh h views id v empty f mine =
      let fine = f.each id v mine in
      let left : Fine c held h (left_of sh v) = record { knows = left_knows sh h v fine.knows; hands = λ x o. fine.hands x (left_owns sh v x o) ∙ left_holds sh v empty } in
      let right : Fine c held h (right_of sh v) = record { knows = right_knows sh h v fine.knows; hands = λ x o. fine.hands x (right_owns sh v x o) ∙ right_holds sh v x empty o } in
      let s = seated_step h h views id v (left_of sh v) f mine (Later-refl h) (λ x never. refl) left (left_owns sh v) in
      seated_new h (set views id (left_of sh v)) (right_of sh v) s right (λ j u e x o o'. ⊎_elim
      (λ t. halves_apart sh h v fine.knows x (subst (λ (y : View T L). Owns y x) (sym t.1) o) o')
      (λ t. f.apart j id u v t.0 t.1 mine x o (right_owns sh v x o'))
      (at_set views id j (left_of sh v) u e))

  both_holds : (sh : Shares L) (v w : View T L) → held_at held v ≡ 0 → 0 ≡ held_at held (both_of sh v w)
  both_holds sh (AtRoot r ks heard l) (AtPass p begun k) e = refl
  both_holds sh (AtPass p begun l) (AtRoot s ks heard l') e = sym e
  both_holds sh (AtPass p begun l) (AtMeeting q xs k q' ys l') e = sym e
  both_holds sh (AtPass p begun l) (AtHearing q xs l' told) e = sym e
  both_holds sh (AtPass p begun l) Left e = sym e
  both_holds sh v w e = refl

  -- a seat with empty hands was taken in by another
  pub seated_join : (sh : Shares L) (h : List (Event T)) (views : List (View T L)) (id other : ℕ) (v w : View T L) → Seated c held h views → get_elem? views id ≡ some v → other ≢ id → get_elem? views other ≡ some w → held_at held v ≡ 0 → held_at held w ≡ 0
      → Seated c held h (set (set views id (both_of sh v w)) other Left)
  seated_join sh h views id other v w f mine ne theirs hv hw =
      let gone : Fine c held h Left = record { knows = tt; hands = λ x o. absurd o } in
      let g = seated_step h h views other w Left f theirs (Later-refl h) (λ x never. refl) gone (λ x o. absurd o) in
      let off : (x : ℕ) → Owns v x → Owns w x → ⊥ = λ x o o'. f.apart id other v w (λ e. ne (sym e)) mine theirs x o o' in
      let mine_fine = f.each id v mine in
      let their_fine = f.each other w theirs in
      let both : Fine c held h (both_of sh v w) = record {
        knows = both_knows sh h v w mine_fine.knows their_fine.knows off;
        hands = λ x o. ⊎_elim (λ a. mine_fine.hands x a ∙ hv) (λ b. their_fine.hands x b ∙ hw) (both_owns sh v w x o) ∙ both_holds sh v w hv;
      } in
      subst (Seated c held h) (sym (set_swap views id other (both_of sh v w) Left (λ e. ne (sym e))))
      (seated_set h h (set views other Left) id (both_of sh v w) g
      (λ j u nj e. g.each j u e)
      both
      (λ j u nj e x o o'. ⊎_elim
      (λ t. subst (λ (y : View T L). Owns y x) (sym t.1) o)
      (λ t. ⊎_elim (λ a. f.apart j id u v nj t.1 mine x o a) (λ b. f.apart j other u w t.0 t.1 theirs x o b) (both_owns sh v w x o'))
      (at_set views other j Left u e)))

  pub only_first : (j : ℕ) (a v : View T L) → get_elem? (a ∷ []) j ≡ some v → (j ≡ 0) × (a ≡ v)
  only_first zero a v e = (refl, some-injective a v e)
  only_first (suc j) a v e = absurd (some-ne-none v (sym e))

  -- at the start there is the root, and nothing has happened
  pub seated_first : (l : L) → Seated {T = T} c held [] (first_view l ∷ [])
  seated_first l =
      let fine : Fine {T = T} c held [] (first_view l) = record {
        knows = record { seen = Later-refl []; heard_seen = Later-refl []; joined = tt; apart = tt; given = tt; unknown = λ x le. refl; works = refl };
        hands = λ x o. refl;
      } in record {
        each = λ j v e. subst (Fine c held []) (only_first j (first_view l) v e).1 fine;
        apart = λ j k v w ne ev ew x o o'. let a = (only_first j (first_view l) v ev).0 in let b = (only_first k (first_view l) w ew).0 in ne (omega arith);
      }
