-- The count of cells in hand is the sum of all hands, and a container is never more than full.
use Rattle.std.proofs.Common.{◌≡◌, ◌≢◌, ℕ, zero, suc, ◌+◌, ◌-◌, ◌<◌, ◌≤◌, List, [], ◌∷◌, refl, true, false, arith, ap, sym, ◌∙◌, length, length-append, reverse}
use Rattle.std.specs.Prelude.{◌==◌}
use Rattle.std.specs.List.{AllByRecursion as Every}
use Rattle.std.proofs.lemmas.List.{length-reverse}
use Rattle.std.proofs.lemmas.Bool.Decides.{nat_tests}
use Rattle.bounded_model.specs.declared.history.Order.{Order}
use Rattle.bounded_model.specs.declared.history.Order.TheVariants.{Fifo, Lifo}
use Rattle.bounded_model.specs.declared.history.Event.{Event}
use Rattle.bounded_model.specs.declared.history.Event.TheVariants.{Hold, Put, Take, TakeAll, Free, Close, Shut}
use Rattle.bounded_model.specs.Machine.{Shape, state, Legal, put_on, with_hand, without_first}
use Rattle.bounded_model.specs.Histories.{pass_of}

-- the hands of passes 0 to n - 1, added up
abbrev pub hands_below : ℕ → (ℕ → ℕ) → ℕ
hands_below zero hand = 0
hands_below (suc n) hand = hands_below n hand + hand n

pub with_hand-same : (hand : ℕ → ℕ) (p k : ℕ) → with_hand hand p k p ≡ k
with_hand-same hand p k = let b : (p == p) ≡ true = grind (arith, nat_tests) in rw b

pub with_hand-other : (hand : ℕ → ℕ) (p k q : ℕ) → q ≢ p → with_hand hand p k q ≡ hand q
with_hand-other hand p k q other = let b : (q == p) ≡ false = grind (arith, nat_tests) in rw b

hands_untouched : (n : ℕ) (hand : ℕ → ℕ) (p k : ℕ) → n ≤ p → hands_below n (with_hand hand p k) ≡ hands_below n hand
hands_untouched zero hand p k above = refl
hands_untouched (suc n) hand p k above =
    let other : n ≢ p = λ e. absurd (omega arith) in
    rw (hands_untouched n hand p k (omega arith), with_hand-other hand p k n other)

-- the last of the passes below suc n, or an earlier one
data Last (p n : ℕ) : Type 0 where
  Is : n ≡ p → Last p n
  Earlier : p < n → Last p n

last_or_not : (p n : ℕ) → p < suc n → Last p n
last_or_not zero zero h = Is refl
last_or_not zero (suc n) h = Earlier (omega arith)
last_or_not (suc p) zero h = absurd (omega arith)
last_or_not (suc p) (suc n) h = elim (last_or_not p n (omega arith)) [ Is e ↦ Is (ap suc e) | Earlier l ↦ Earlier (omega arith) ]

hands_changed : (n : ℕ) (hand : ℕ → ℕ) (p k : ℕ) → p < n → hands_below n (with_hand hand p k) + hand p ≡ hands_below n hand + k
hands_changed zero hand p k below = absurd (omega arith)
hands_changed (suc n) hand p k below =
    elim (last_or_not p n below) [
      | Is e ↦
          let same = hands_untouched n hand p k (omega arith) in
          let here : with_hand hand p k n ≡ k = ap (with_hand hand p k) e ∙ with_hand-same hand p k in
          let was : hand n ≡ hand p = ap hand e in
          omega arith
      | Earlier l ↦
          let other : n ≢ p = λ e. absurd (omega arith) in
          let here = with_hand-other hand p k n other in
          let rest = hands_changed n hand p k l in
          omega arith
    ]

one_of_hands : (n : ℕ) (hand : ℕ → ℕ) (p : ℕ) → p < n → hand p ≤ hands_below n hand
one_of_hands n hand p below = let c = hands_changed n hand p 0 below in omega arith

no_hands : (n : ℕ) → hands_below n (λ _. 0) ≡ 0
no_hands zero = refl
no_hands (suc n) = let more = no_hands n in omega arith

put_length : {T : Type 0} (o : Order) (values vs : List T) → length (put_on o values vs) ≡ length values + length vs
put_length Fifo values vs = length-append values vs
put_length Lifo values vs = let a = length-append (reverse vs) values in let b = length-reverse vs in omega arith

module _ {T : Type 0} (c : Shape) where
  -- where only passes below n have events, the count of cells in hand is the sum of their hands
  pub held_is_sum : (n : ℕ) (h : List (Event T)) → Every (λ e. pass_of e < n) h → Legal c h → (state c h).held ≡ hands_below n (state c h).hand
  held_is_sum n [] known l = sym (no_hands n)
  held_is_sum n (Hold p ∷ h) known l =
      let before = held_is_sum n h known.1 l.1 in
      let change = hands_changed n (state c h).hand p ((state c h).hand p + 1) known.0 in
      omega arith
  held_is_sum n (Put p vs k ∷ h) known l =
      let before = held_is_sum n h known.1 l.1 in
      let change = hands_changed n (state c h).hand p ((state c h).hand p - length vs) known.0 in
      let within : length vs ≤ (state c h).hand p = l.0.2 in
      let one = one_of_hands n (state c h).hand p known.0 in
      omega arith
  held_is_sum n (Take p v k ∷ h) known l =
      let before = held_is_sum n h known.1 l.1 in
      let change = hands_changed n (state c h).hand p ((state c h).hand p + 1) known.0 in
      omega arith
  held_is_sum n (TakeAll p vs k ∷ h) known l =
      let before = held_is_sum n h known.1 l.1 in
      let change = hands_changed n (state c h).hand p ((state c h).hand p + length vs) known.0 in
      omega arith
  held_is_sum n (Free p k ∷ h) known l =
      let before = held_is_sum n h known.1 l.1 in
      let change = hands_changed n (state c h).hand p ((state c h).hand p - k) known.0 in
      let within : k ≤ (state c h).hand p = l.0.1 in
      let one = one_of_hands n (state c h).hand p known.0 in
      omega arith
  held_is_sum n (Close p ∷ h) known l = held_is_sum n h known.1 l.1
  held_is_sum n (Shut p ∷ h) known l = held_is_sum n h known.1 l.1

  -- a number above all passes of a history
  above_all : List (Event T) → ℕ
  above_all [] = 0
  above_all (e ∷ h) = suc (pass_of e) + above_all h

  known_below : (n : ℕ) (h : List (Event T)) → above_all h ≤ n → Every (λ e. pass_of e < n) h
  unfolding above_all
  known_below n [] enough = tt
  known_below n (e ∷ h) enough = (omega arith, known_below n h (omega arith))

  -- no hand is more than all hands together
  pub hand_within : (h : List (Event T)) (p : ℕ) → Legal c h → (state c h).hand p ≤ (state c h).held
  hand_within h p l =
      let n : ℕ = suc p + above_all h in
      let sum = held_is_sum n h (known_below n h (omega arith)) l in
      let one = one_of_hands n (state c h).hand p (omega arith) in
      omega arith

  -- values and hands together are never more than the capacity
  pub within_capacity : (h : List (Event T)) → Legal c h → length (state c h).values + (state c h).held ≤ c.capacity
  within_capacity [] l = omega arith
  within_capacity (Hold p ∷ h) l = let room = l.0 in omega arith
  within_capacity (Put p vs n ∷ h) l =
      let before = within_capacity h l.1 in
      let hand = hand_within h p l.1 in
      let within = l.0.2 in
      let long = put_length c.order (state c h).values vs in
      omega arith
  within_capacity (Take p v n ∷ h) l =
      let before = within_capacity h l.1 in
      let is : length (state c h).values ≡ length (v ∷ l.0.1.0) = ap length l.0.1.1 in
      let rest : length (without_first (state c h).values) ≡ length l.0.1.0 = ap (λ xs. length (without_first xs)) l.0.1.1 in
      omega arith
  within_capacity (TakeAll p vs n ∷ h) l =
      let before = within_capacity h l.1 in
      let is : length (state c h).values ≡ length vs = ap length l.0.2 in
      omega arith
  within_capacity (Free p k ∷ h) l = let before = within_capacity h l.1 in omega arith
  within_capacity (Close p ∷ h) l = within_capacity h l.1
  within_capacity (Shut p ∷ h) l = within_capacity h l.1

  -- each cell that holds a value or is in a hand was taken by a Hold
  pub filled_by_holds : (h : List (Event T)) → Legal c h → length (state c h).values + (state c h).held ≤ (state c h).holds
  filled_by_holds [] l = omega arith
  filled_by_holds (Hold p ∷ h) l = let before = filled_by_holds h l.1 in omega arith
  filled_by_holds (Put p vs n ∷ h) l =
      let before = filled_by_holds h l.1 in
      let hand = hand_within h p l.1 in
      let within = l.0.2 in
      let long = put_length c.order (state c h).values vs in
      omega arith
  filled_by_holds (Take p v n ∷ h) l =
      let before = filled_by_holds h l.1 in
      let is : length (state c h).values ≡ length (v ∷ l.0.1.0) = ap length l.0.1.1 in
      let rest : length (without_first (state c h).values) ≡ length l.0.1.0 = ap (λ xs. length (without_first xs)) l.0.1.1 in
      omega arith
  filled_by_holds (TakeAll p vs n ∷ h) l =
      let before = filled_by_holds h l.1 in
      let is : length (state c h).values ≡ length vs = ap length l.0.2 in
      omega arith
  filled_by_holds (Free p k ∷ h) l = let before = filled_by_holds h l.1 in omega arith
  filled_by_holds (Close p ∷ h) l = filled_by_holds h l.1
  filled_by_holds (Shut p ∷ h) l = filled_by_holds h l.1
