-- Some seat has all of the history, whatever seats do.
use Rattle.std.proofs.Common.{◌≡◌, ◌≢◌, ℕ, ◌⊎◌, inl, inr, ⊎_elim, List, [], ◌∷◌, ◌++◌, length, set, refl, sym, ap, ◌∙◌, subst}
use mathlib.Core.Option.{some, some-injective}
use lib.ListN.{get_elem?}
use Rattle.bounded_model.specs.declared.history.Event.{Event}
use Rattle.bounded_model.specs.Histories.{Later}
use Rattle.bounded_model.proofs.Histories.{no_parts}
use Rattle.machine.specs.declared.seats.View.{View}
use Rattle.machine.specs.declared.seats.View.TheVariants.{AtRoot, AtPass, AtMeeting, AtNote, AtHearing, Left}
use Rattle.machine.specs.Seats.{Acts, Knows, first_view, looked, left_of, right_of, both_of}
use Rattle.machine.proofs.Scheduled.{set_other, set_same}
use Rattle.machine.proofs.Tests.{same_or_not}
use Rattle.running.specs.Machine.{Names, Machine}
use Rattle.running.specs.Rule.{HasAll, Newest, MayUnite}
use Rattle.running.proofs.Acts.{front_there, last_there}

module _ {T L O : Type 0} {names : Names L O} (m : Machine T L O names) where
  -- what is known of a seat that stands at this place
  same_view : (views : List (View T L)) (h : List (Event T)) (n : Newest h views) (id : ℕ) (v : View T L) → get_elem? views id ≡ some v → n.seat ≡ id → HasAll h v
  same_view views h n id v mine e = subst (HasAll h) (some-injective n.view v (sym n.there ∙ ap (get_elem? views) e ∙ mine)) n.has_all

  looked_all : (h : List (Event T)) (acts : Acts L) (v : View T L) → HasAll h v → HasAll h (looked h acts v)
  looked_all h acts (AtRoot r ks heard l) a = inl refl
  looked_all h acts (AtPass p begun l) a = refl
  looked_all h acts (AtMeeting p xs k q ys l) a = inl refl
  looked_all h acts (AtNote told) a = a
  looked_all h acts (AtHearing p xs l told) a = inl refl
  looked_all h acts Left a = a

  split_all : (h : List (Event T)) (v : View T L) → HasAll h v → HasAll h (left_of names.shares v) ⊎ HasAll h (right_of names.shares v)
  split_all h (AtRoot r ks heard l) a = inl a
  split_all h (AtPass p begun l) a = inl a
  split_all h (AtMeeting p xs k q ys l) a = a
  split_all h (AtNote told) a = inl a
  split_all h (AtHearing p xs l told) a = a
  split_all h Left a = absurd a

  -- the root has heard nothing besides what it has seen
  root_all : {h seen heard : List (Event T)} → heard ≡ [] → Later seen h → (seen ≡ h) ⊎ (heard ≡ h) → seen ≡ h
  root_all none later (inl e) = e
  root_all none later (inr e) =
      let empty = sym e ∙ none in
      (no_parts later.more _ (sym later.is ∙ empty)).1 ∙ sym empty

  unite_all : (h : List (Event T)) (v w : View T L) → MayUnite m v w → Knows h v → HasAll h v ⊎ HasAll h w → HasAll h (both_of names.shares v w)
  unite_all h (AtRoot r ks heard l) (AtPass p begun k) may knows (inl a) = inl (root_all may.2 knows.seen a)
  unite_all h (AtRoot r ks heard l) (AtPass p begun k) may knows (inr b) = inr b
  unite_all h (AtPass p begun k) (AtPass q begun' l) may knows a = a
  unite_all h (AtPass p begun l) (AtNote told) may knows a = a
  unite_all h v w may knows a = absurd may

  module _ (views : List (View T L)) (h : List (Event T)) (n : Newest h views) where
    pub newest_look : (acts : Acts L) (id : ℕ) (v : View T L) → get_elem? views id ≡ some v → Newest h (set views id (looked h acts v))
    newest_look acts id v mine = ⊎_elim
        (λ e. record { seat = id; view = looked h acts v; there = set_same views id v (looked h acts v) mine; has_all = looked_all h acts v (same_view views h n id v mine e) })
        (λ ne. record { seat = n.seat; view = n.view; there = set_other views id n.seat (looked h acts v) (λ e. ne (sym e)) ∙ n.there; has_all = n.has_all })
        (same_or_not n.seat id)

    pub newest_split : (id : ℕ) (v : View T L) → get_elem? views id ≡ some v → Newest h (set views id (left_of names.shares v) ++ right_of names.shares v ∷ [])
    newest_split id v mine =
        let left : List (View T L) = set views id (left_of names.shares v) in
        let right : View T L = right_of names.shares v in
        ⊎_elim
        (λ e. ⊎_elim
        (λ a. record { seat = id; view = left_of names.shares v; there = front_there m left (right ∷ []) id (left_of names.shares v) (set_same views id v (left_of names.shares v) mine); has_all = a })
        (λ b. record { seat = length left; view = right; there = last_there m left right; has_all = b })
        (split_all h v (same_view views h n id v mine e)))
        (λ ne. record { seat = n.seat; view = n.view; there = front_there m left (right ∷ []) n.seat n.view (set_other views id n.seat (left_of names.shares v) (λ e. ne (sym e)) ∙ n.there); has_all = n.has_all })
        (same_or_not n.seat id)

    pub newest_join : (id other : ℕ) (v w : View T L) → get_elem? views id ≡ some v → get_elem? views other ≡ some w → Knows h v → MayUnite m v w → other ≢ id → Newest h (set (set views id (both_of names.shares v w)) other Left)
    newest_join id other v w mine theirs knows may ne =
        let both : View T L = both_of names.shares v w in
        let mine_there : get_elem? (set (set views id both) other Left) id ≡ some both = set_other (set views id both) other id Left ne ∙ set_same views id v both mine in
        ⊎_elim
        (λ e. record { seat = id; view = both; there = mine_there; has_all = unite_all h v w may knows (inl (same_view views h n id v mine e)) })
        (λ off. ⊎_elim
        (λ e. record { seat = id; view = both; there = mine_there; has_all = unite_all h v w may knows (inr (same_view views h n other w theirs e)) })
        (λ off'. record { seat = n.seat; view = n.view; there = set_other (set views id both) other n.seat Left (λ e. off' (sym e)) ∙ set_other views id n.seat both (λ e. off (sym e)) ∙ n.there; has_all = n.has_all })
        (same_or_not n.seat other))
        (same_or_not n.seat id)

  -- a seat that has just made a step has all
  pub newest_step : (views : List (View T L)) (h : List (Event T)) (id : ℕ) (v w : View T L) → get_elem? views id ≡ some v → HasAll h w → Newest h (set views id w)
  newest_step views h id v w mine a = record { seat = id; view = w; there = set_same views id v w mine; has_all = a }

-- the root of a new container
pub newest_first : (T : Type 0) {L : Type 0} (l : L) → Newest {T = T} [] (first_view l ∷ [])
newest_first T l = record { seat = 0; view = first_view l; there = refl; has_all = inl refl }
