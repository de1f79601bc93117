-- Calls of any passes, as their callers know them, are in one order.
use Rattle.std.proofs.Common.{◌≡◌, ◌≢◌, ℕ, zero, suc, ◌+◌, ◌<◌, ◌≤◌, ◌⊎◌, inl, inr, ⊎_elim, List, [], ◌∷◌, ◌++◌, length, length-append, refl, sym, ap, ◌∙◌, subst, arith}
use Rattle.std.specs.List.{AllByRecursion as Every}
use mathlib.Core.Option.{some, some-injective, some-ne-none}
use lib.ListN.{get_elem?}
use Rattle.bounded_model.specs.declared.history.Event.{Event}
use Rattle.bounded_model.specs.Machine.{Shape}
use Rattle.bounded_model.specs.Histories.{pass_of, Later}
use Rattle.bounded_model.proofs.Histories.{Later-trans, is_nil}
use Rattle.runs.specs.InTime.{Effect, Changes, Finds, KnownCall, IsRight, HeardOf, IsCallOf, InTurn, Place, turn_of, IsBefore, Stands, InOneOrder}

every_at : {A : Type 0} (P : A → Type 0) (xs : List A) (i : ℕ) (x : A) → get_elem? xs i ≡ some x → Every P xs → P x
every_at P [] i x is each = absurd (some-ne-none x (sym is))
every_at P (y ∷ ys) zero x is each = subst P (some-injective y x is) each.0
every_at P (y ∷ ys) (suc i) x is each = every_at P ys i x is each.1

data Sizes (m n : ℕ) : Type 0 where
  Less : m < n → Sizes m n
  Same : m ≡ n → Sizes m n
  More : n < m → Sizes m n

sizes : (m n : ℕ) → Sizes m n
sizes zero zero = Same refl
sizes zero (suc n) = Less (omega arith)
sizes (suc m) zero = More (omega arith)
sizes (suc m) (suc n) = elim (sizes m n) [ Less l ↦ Less (omega arith) | Same e ↦ Same (ap suc e) | More l ↦ More (omega arith) ]

module _ {T : Type 0} where
  longer : {a b : List (Event T)} → Later a b → length a ≤ length b
  longer {a} {b} l = let long = ap length l.is ∙ length-append l.more a in omega arith

  no_longer : {a b : List (Event T)} → Later a b → length b ≤ length a → b ≡ a
  no_longer {a} {b} l short =
      let long = ap length l.is ∙ length-append l.more a in
      l.is ∙ ap (λ (xs : List (Event T)). xs ++ a) (is_nil l.more (omega arith))

  cut : (xs ys a b : List (Event T)) → xs ++ a ≡ ys ++ b → length a ≡ length b → a ≡ b
  cut [] [] a b e same = e
  cut [] (y ∷ ys) a b e same = let long = ap length e ∙ length-append (y ∷ ys) b in absurd (omega (arith, long, same))
  cut (x ∷ xs) [] a b e same = let long = ap length (sym e) ∙ length-append (x ∷ xs) a in absurd (omega (arith, long, same))
  cut (x ∷ xs) (y ∷ ys) a b e same = let rest : xs ++ a ≡ ys ++ b = cc in cut xs ys a b rest same

  module _ (c : Shape) (h : List (Event T)) (calls : List (KnownCall T)) (each : Every (IsCallOf c h) calls) (turns : InTurn calls) where
    call : (i : ℕ) (a : KnownCall T) → get_elem? calls i ≡ some a → IsCallOf c h a
    call i a x = every_at (IsCallOf c h) calls i a x each

    abbrev moment : (i : ℕ) (a : KnownCall T) → get_elem? calls i ≡ some a → List (Event T)
    moment i a x = (call i a x).did.at

    abbrev place : (i : ℕ) (a : KnownCall T) → get_elem? calls i ≡ some a → Place T
    place i a x = record { at = moment i a x; turn = turn_of i a.effect }

    of_it : (i : ℕ) (a : KnownCall T) (x : get_elem? calls i ≡ some a) → Later (moment i a x) h
    of_it i a x = let k = call i a x in Later-trans k.did.until k.seen

    stands : (i : ℕ) (a : KnownCall T) (x : get_elem? calls i ≡ some a) → Stands c h a (moment i a x)
    stands i a x = let k = call i a x in record { since = k.did.since; until = k.did.until; of = of_it i a x; right = k.did.holds }

    -- a call stands after those of which its caller had heard
    after : (i j : ℕ) (b : KnownCall T) (m : List (Event T)) (n : List (Event T)) (e : Effect T) → i < j → (turn : ℕ) → turn ≤ i + 1 → Later m b.before.seen → Later b.before.seen n → IsRight c b.before e n → (length m < length n) ⊎ ((m ≡ n) × (turn < turn_of j e))
    after i j b m n (Changes e) less turn low seen since right = inl (let a = longer seen in let d = longer right.2 in let k = ap length right.1 in omega arith)
    after i j b m n (Finds answer) less turn low seen since right = elim (sizes (length m) (length n)) [
      | Less l ↦ inl l
      | Same s ↦ inr (sym (no_longer (Later-trans seen since) (omega arith)), omega arith)
      | More l ↦ absurd (let a = longer seen in let d = longer since in omega arith)
    ]

    low_turn : (i : ℕ) (e : Effect T) → turn_of i e ≤ i + 1
    low_turn i (Changes e) = omega arith
    low_turn i (Finds answer) = omega arith

    in_time : (i j : ℕ) (a b : KnownCall T) (x : get_elem? calls i ≡ some a) (y : get_elem? calls j ≡ some b) → i < j → HeardOf a b → IsBefore (place i a x) (place j b y)
    in_time i j a b x y less heard =
        let k = call i a x in
        let l = call j b y in
        after i j b (moment i a x) (moment j b y) b.effect less (turn_of i a.effect) (low_turn i a.effect) (Later-trans k.did.until heard) l.did.since l.did.holds

    -- two calls at one moment are not both of those that changed the container
    apart : (i j : ℕ) (a b : KnownCall T) (m : List (Event T)) (e f : Effect T) → ((i < j) → a.before.number ≡ b.before.number → (length m < length m) ⊎ ((m ≡ m) × (turn_of i e < turn_of j f))) → ((j < i) → a.before.number ≡ b.before.number → (length m < length m) ⊎ ((m ≡ m) × (turn_of j f < turn_of i e))) → i ≢ j
        → IsRight c a.before e m → IsRight c b.before f m → (turn_of i e < turn_of j f) ⊎ (turn_of j f < turn_of i e)
    apart i j a b m (Changes e) (Finds g) up down ne r s = inl (omega arith)
    apart i j a b m (Finds g) (Changes f) up down ne r s = inr (omega arith)
    apart i j a b m (Finds g) (Finds g') up down ne r s = elim (sizes i j) [ Less l ↦ inl (omega arith) | Same e ↦ absurd (ne e) | More l ↦ inr (omega arith) ]
    apart i j a b m (Changes e) (Changes f) up down ne r s =
        let one : e ∷ r.0 ≡ f ∷ s.0 = sym r.1 ∙ s.1 in
        let same_event : e ≡ f = cc in
        let same : a.before.number ≡ b.before.number = sym r.3 ∙ ap pass_of same_event ∙ s.3 in
        elim (sizes i j) [
          | Less l ↦ absurd (⊎_elim (λ (k : length m < length m). omega arith) (λ (k : (m ≡ m) × (turn_of i (Changes e) < turn_of j (Changes f))). let t = k.1 in omega arith) (up l same))
          | Same e ↦ absurd (ne e)
          | More l ↦ absurd (⊎_elim (λ (k : length m < length m). omega arith) (λ (k : (m ≡ m) × (turn_of j (Changes f) < turn_of i (Changes e))). let t = k.1 in omega arith) (down l same))
        ]

    one_by_one : (i j : ℕ) (a b : KnownCall T) (x : get_elem? calls i ≡ some a) (y : get_elem? calls j ≡ some b) → i ≢ j → IsBefore (place i a x) (place j b y) ⊎ IsBefore (place j b y) (place i a x)
    one_by_one i j a b x y ne = elim (sizes (length (moment i a x)) (length (moment j b y))) [
      | Less l ↦ inl (inl l)
      | More l ↦ inr (inl l)
      | Same s ↦
          let la = of_it i a x in
          let lb = of_it j b y in
          let m : List (Event T) = moment i a x in
          let same : m ≡ moment j b y = cut la.more lb.more m (moment j b y) (sym la.is ∙ lb.is) s in
          let right : IsRight c b.before b.effect m = subst (IsRight c b.before b.effect) (sym same) (call j b y).did.holds in
          let up : (i < j) → a.before.number ≡ b.before.number → (length m < length m) ⊎ ((m ≡ m) × (turn_of i a.effect < turn_of j b.effect)) =
          λ l num. subst (λ (n : List (Event T)). (length m < length n) ⊎ ((m ≡ n) × (turn_of i a.effect < turn_of j b.effect))) (sym same) (in_time i j a b x y l (turns i j a b x y l num)) in
          let down : (j < i) → a.before.number ≡ b.before.number → (length m < length m) ⊎ ((m ≡ m) × (turn_of j b.effect < turn_of i a.effect)) =
          λ l num. subst (λ (n : List (Event T)). (length n < length m) ⊎ ((n ≡ m) × (turn_of j b.effect < turn_of i a.effect))) (sym same) (in_time j i b a y x l (turns j i b a y x l (sym num))) in
          ⊎_elim (λ (t : turn_of i a.effect < turn_of j b.effect). inl (inr (same, t))) (λ (t : turn_of j b.effect < turn_of i a.effect). inr (inr (sym same, t))) (apart i j a b m a.effect b.effect up down ne (call i a x).did.holds right)
    ]

    pub in_one_order : InOneOrder c h calls
    in_one_order = record {
      place = place;
      turn = λ i a x. refl;
      stands = stands;
      one_by_one = one_by_one;
      in_time = in_time;
    }
