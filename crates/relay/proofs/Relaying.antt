-- What the relay promises follows from what its workers did.
use Rattle.std.proofs.Common.{◌≡◌, ℕ, ◌*◌, ◌<◌, ◌≤◌, List, [], ◌∷◌, ◌++◌, refl, Bool, true, false, arith, ap, sym, ◌∙◌, subst, append-nil, inl, inr, zero, suc, ◌≢◌, length, flat_map, IsPermutation, drop, Some, None, length-append}
use Rattle.std.specs.Prelude.{◌==◌}
use Rattle.std.specs.List.{AllByRecursion as Every}
use Rattle.std.specs.List.Sorted.{IsNonDecreasingBy}
use Rattle.std.proofs.lemmas.Bool.Decides.{nat_tests}
use Rattle.std.proofs.lemmas.List.Elements.{filter-append}
use Rattle.std.proofs.lemmas.List.Sorted.{IsPermutation-append_left, length_permutation}
use Rattle.bounded_model.specs.declared.history.Order.TheVariants.{Fifo}
use Rattle.bounded_model.specs.declared.history.Event.{Event}
use Rattle.bounded_model.specs.Machine.{Shape, state, Legal}
use Rattle.bounded_model.specs.Histories.{own, pass_of}
use Rattle.bounded_model.specs.Justified.{IsEmpty, IsClosed, IsShut, IsWorn}
use Rattle.bounded_model.specs.Gathers.{gather, Moved, values_of, put_of, took_of, hold_of, fold_of, close_of, shut_of, Rises, Counts, EachFrom}
use Rattle.bounded_model.proofs.Histories.{own-mine, own-other}
use Rattle.bounded_model.proofs.Gathering.{by_passes, nobody}
use Rattle.bounded_model.proofs.Balance.{first_in_first_out, all_there_of, all_there}
use Rattle.bounded_model.proofs.Numbers.{takes_rise, takes_count}
use Rattle.bounded_model.proofs.Staying.{done_stays, never_closed, never_shut as unshut_for_good, worn_stays}
use Rattle.relay.specs.declared.workers.ProducerEnd.TheVariants.{SentAll, ClosedIt, MetClosed, MetSpent}
use Rattle.relay.specs.declared.workers.ConsumerEnd.TheVariants.{TookEnough, ShutIt, FoundClosed, FoundShut, FoundSpent, NoRoom}
use Rattle.relay.specs.declared.plan.Orders.{Orders}
use Rattle.relay.specs.Workers.{Worker, Producer, Consumer, Closer, Did, Unused, Once, Ran, items_of, taken_of, from, Accounts, InOrder, AllSent, TookK, AtMost, AtMostFirst, FirstTook, FirstPut, HasConsumer}
use Rattle.relay.proofs.Lists.{same_or_not, EachFrom_weaker, EachFrom_both, EachFrom_at, Every_front, Every_back, none_some, some_same}
use Rattle.relay.proofs.Working.{is_nil}
use Rattle.relay.proofs.Merging.{sorted_is}

module _ {T A : Type 0} (f : Event T → List A) where
  -- what each did, worker by worker
  abbrev parts : ℕ → List (Worker T) → List (Event T) → List (List A)
  parts a [] h = []
  parts a (w ∷ ws) h = gather f (own a h) ∷ parts (suc a) ws h

  abbrev by_each : ℕ → List (Worker T) → List (Event T) → List A
  by_each a ws h = flat_map (λ l. l) (parts a ws h)

  parts_are : (a : ℕ) (ws : List (Worker T)) (h : List (Event T)) → EachFrom (λ p l. gather f (own p h) ≡ l) a (parts a ws h)
  parts_are a [] h = tt
  parts_are a (w ∷ ws) h = (refl, parts_are (suc a) ws h)

  parts_long : (a : ℕ) (ws : List (Worker T)) (h : List (Event T)) → length ws ≡ length (parts a ws h)
  parts_long a [] h = refl
  parts_long a (w ∷ ws) h = ap suc (parts_long (suc a) ws h)

  each_all : (ws : List (Worker T)) (h : List (Event T)) → Every (λ e. pass_of e < length ws) h → IsPermutation (by_each 0 ws h) (gather f h)
  each_all ws h known = by_passes f (λ l. l) h (parts 0 ws h) (parts_are 0 ws h) (subst (λ n. Every (λ e. pass_of e < n) h) (parts_long 0 ws h) known)

  gathers : (g : Worker T → List A) (P : ℕ → Worker T → Type 0) (h : List (Event T)) (ws : List (Worker T)) → ((a : ℕ) (w : Worker T) → P a w → gather f (own a h) ≡ g w)
      → EachFrom P 0 ws → Every (λ e. pass_of e < length ws) h → IsPermutation (flat_map g ws) (gather f h)
  gathers g P h ws is each known = by_passes f g h ws (EachFrom_weaker P (λ a w. gather f (own a h) ≡ g w) is 0 ws each) known

  no_worker : (P : ℕ → Worker T → Type 0) (h : List (Event T)) (ws : List (Worker T)) → ((a : ℕ) (w : Worker T) → P a w → gather f (own a h) ≡ [])
      → EachFrom P 0 ws → Every (λ e. pass_of e < length ws) h → gather f h ≡ []
  no_worker P h ws none each known = nobody f h ws (EachFrom_weaker P (λ a w. gather f (own a h) ≡ []) none 0 ws each) known

-- what was so once
module _ {T : Type 0} (c : Shape) (h : List (Event T)) where
  once_done : Legal c h → Once h (λ q. IsEmpty c q × IsClosed c q) → IsEmpty c h
  once_done legal o = done_stays c o.until legal o.holds.0 o.holds.1

  once_closed : gather close_of h ≡ [] → Once h (IsClosed c) → ⊥
  once_closed none o = never_closed c o.until none o.holds

  once_shut : gather shut_of h ≡ [] → Once h (IsShut c) → ⊥
  once_shut none o = unshut_for_good c o.until none o.holds

  once_spent : Once h (IsWorn c) → c.limit ≤ 2 * length (gather hold_of h)
  once_spent o = worn_stays c o.until o.holds

module _ {T : Type 0} (sender : T → ℕ) where
  from_all : (s : ℕ) (xs : List T) → Every (λ x. sender x ≡ s) xs → from sender s xs ≡ xs
  from_all s [] h = refl
  from_all s (x ∷ xs) h = let b : (sender x == s) ≡ true = grind (arith, nat_tests, h.0) in rw b (ap (λ l. x ∷ l) (from_all s xs h.1))

  from_none : (s a : ℕ) (xs : List T) → a ≢ s → Every (λ x. sender x ≡ a) xs → from sender s xs ≡ []
  from_none s a [] o h = refl
  from_none s a (x ∷ xs) o h =
      let other : sender x ≢ s = λ q. o (sym h.0 ∙ q) in
      let b : (sender x == s) ≡ false = grind (arith, nat_tests) in rw b (from_none s a xs o h.1)

  -- what one sender's messages among the puts are
  pub from_puts : (s n : ℕ) (h : List (Event T)) → Every (λ e. pass_of e < n) h → ((a : ℕ) → a < n → Every (λ x. sender x ≡ a) (gather put_of (own a h))) → from sender s (gather put_of h) ≡ gather put_of (own s h)
  from_puts s n [] known each = refl
  from_puts s n (e ∷ h) known each =
      let mine : Every (λ x. sender x ≡ pass_of e) (gather put_of (own (pass_of e) h) ++ put_of e) = (rw (own-mine (pass_of e) e h refl) at (each (pass_of e) known.0)) in
      let here = Every_back (λ x. sender x ≡ pass_of e) (gather put_of (own (pass_of e) h)) (put_of e) mine in
      let before : (a : ℕ) → a < n → Every (λ x. sender x ≡ a) (gather put_of (own a h)) =
      λ a l. elim (same_or_not (pass_of e) a) [
        | inl is ↦ Every_front (λ x. sender x ≡ a) (gather put_of (own a h)) (put_of e) (rw (own-mine a e h is) at (each a l))
        | inr other ↦ rw (own-other a e h other) at (each a l)
      ] in
      let rest = from_puts s n h known.1 before in
      filter-append (λ x. sender x == s) (gather put_of h) (put_of e) ∙
      elim (same_or_not (pass_of e) s) [
        | inl is ↦ rw (rest, own-mine s e h is, from_all s (put_of e) (subst (λ k. Every (λ x. sender x ≡ k) (put_of e)) is here)) refl
        | inr other ↦ rw (rest, own-other s e h other, from_none s (pass_of e) (put_of e) other here) (append-nil (gather put_of (own s h)))
      ]

module _ {T : Type 0} (sender : T → ℕ) (c : Shape) (plan : Orders) (h : List (Event T)) (ws : List (Worker T)) (used : Bool) (ran : Ran sender c plan h ws used) where
  did_folds : (a : ℕ) (w : Worker T) → Did sender c plan h a w → gather fold_of (own a h) ≡ []
  did_folds a (Producer items unsent end) d = d.folds
  did_folds a (Consumer taken end) d = d.folds
  did_folds a (Closer u) d = d.folds

  did_takes : (a : ℕ) (w : Worker T) → Did sender c plan h a w → gather took_of (own a h) ≡ taken_of w
  did_takes a (Producer items unsent end) d = d.takes
  did_takes a (Consumer taken end) d = d.takes
  did_takes a (Closer u) d = d.takes

  did_puts : (a : ℕ) (w : Worker T) → Did sender c plan h a w → Every (λ x. sender x ≡ a) (gather put_of (own a h))
  did_puts a (Producer items unsent end) d = Every_front (λ x. sender x ≡ a) (gather put_of (own a h)) unsent (subst (Every (λ x. sender x ≡ a)) (sym d.puts) d.from)
  did_puts a (Consumer taken end) d = subst (Every (λ x. sender x ≡ a)) (sym d.puts) tt
  did_puts a (Closer u) d = subst (Every (λ x. sender x ≡ a)) (sym d.puts) tt

  did_holds : (a : ℕ) (w : Worker T) → Did sender c plan h a w → length (gather hold_of (own a h)) ≤ length (items_of w)
  did_holds a (Producer items unsent end) d = d.holds
  did_holds a (Consumer taken end) d = rw d.holds (omega arith)
  did_holds a (Closer u) d = rw d.holds (omega arith)

  abbrev D : ℕ → Worker T → Type 0
  D = Did sender c plan h

  no_folds : gather fold_of h ≡ []
  no_folds = no_worker fold_of D h ws did_folds ran.did ran.known

  holds_in : (a : ℕ) (vs : List (Worker T)) → EachFrom D a vs → length (by_each hold_of a vs h) ≤ length (flat_map items_of vs)
  holds_in a [] k = omega arith
  holds_in a (w ∷ vs) k =
      let l = length-append (gather hold_of (own a h)) (by_each hold_of (suc a) vs h) in
      let r = length-append (items_of w) (flat_map items_of vs) in
      omega (arith, did_holds a w k.0, holds_in (suc a) vs k.1)

  -- no more was held than there are messages
  few_holds : length (gather hold_of h) ≤ length (flat_map items_of ws)
  few_holds = let same = length_permutation _ _ (each_all hold_of ws h ran.known) in let few = holds_in 0 ws ran.did in omega arith

  puts_from : (s : ℕ) → from sender s (gather put_of h) ≡ gather put_of (own s h)
  puts_from s = from_puts sender s (length ws) h ran.known (λ a l. let at = EachFrom_at D 0 ws ran.did a (omega arith) (omega arith) in did_puts a at.0 at.1)

  -- the lists that the consumers took, put together and sorted by number, are what was taken in the order of time
  pub delivered_is : (delivered : List (Moved T)) → IsPermutation (flat_map taken_of ws) delivered → IsNonDecreasingBy (λ t. t.number) delivered → delivered ≡ gather took_of h
  delivered_is delivered p up = sorted_is (λ t. t.number) (flat_map taken_of ws) delivered (gather took_of h) (gathers took_of taken_of D h ws did_takes ran.did ran.known) p up (takes_rise c h ran.legal no_folds).1

  -- the numbers of what was delivered rise, and over a queue they are 0, 1, 2, ..
  pub numbers_rise : (delivered : List (Moved T)) → delivered ≡ gather took_of h → Rises (λ t. t.number) delivered
  numbers_rise delivered is = subst (Rises (λ t. t.number)) (sym is) (takes_rise c h ran.legal no_folds).1

  pub numbers_count : (delivered : List (Moved T)) → delivered ≡ gather took_of h → c.order ≡ Fifo → Counts (λ t. t.number) 0 delivered
  numbers_count delivered is o = subst (Counts (λ t. t.number) 0) (sym is) (takes_count c h o ran.legal).1

  -- a queue: each sender's messages in their order
  in_order_at : c.order ≡ Fifo → (s : ℕ) (w : Worker T) → D s w → InOrder sender (values_of (gather took_of h)) (state c h).values s w
  in_order_at o s (Producer items unsent end) d =
      let all = sym (puts_from s) ∙ (ap (from sender s) (first_in_first_out c h o ran.legal) ∙ filter-append (λ x. sender x == s) (values_of (gather took_of h)) (state c h).values) in
      ap (λ l. l ++ unsent) (sym all) ∙ d.puts
  in_order_at o s (Consumer taken end) d = tt
  in_order_at o s (Closer u) d = tt

  pub in_order : c.order ≡ Fifo → EachFrom (InOrder sender (values_of (gather took_of h)) (state c h).values) 0 ws
  in_order o = EachFrom_weaker D _ (in_order_at o) 0 ws ran.did

  -- in either order the same messages
  accounts_at : (s : ℕ) (w : Worker T) → D s w → Accounts sender (values_of (gather took_of h)) (state c h).values s w
  accounts_at s (Producer items unsent end) d =
      let all = subst (λ l. IsPermutation l (from sender s (values_of (gather took_of h)) ++ from sender s (state c h).values)) (puts_from s) (all_there_of (λ x. sender x == s) c h ran.legal) in
      subst (λ l. IsPermutation l ((from sender s (values_of (gather took_of h)) ++ from sender s (state c h).values) ++ unsent)) d.puts (IsPermutation-append_left unsent _ _ all)
  accounts_at s (Consumer taken end) d = tt
  accounts_at s (Closer u) d = tt

  pub accounts : EachFrom (Accounts sender (values_of (gather took_of h)) (state c h).values) 0 ws
  accounts = EachFrom_weaker D _ accounts_at 0 ws ran.did

  -- a part is no longer than the whole
  own_fewer : {A : Type 0} (f : Event T → List A) (a : ℕ) (k : List (Event T)) → length (gather f (own a k)) ≤ length (gather f k)
  own_fewer f a [] = omega arith
  own_fewer f a (e ∷ k) =
      let l = length-append (gather f k) (f e) in
      elim (same_or_not (pass_of e) a) [
        | inl is ↦ rw (own-mine a e k is) (omega (arith, own_fewer f a k, length-append (gather f (own a k)) (f e)))
        | inr other ↦ rw (own-other a e k other) (omega (arith, own_fewer f a k))
      ]

  did_few : (a : ℕ) (w : Worker T) → Did sender c plan h a w → length (gather put_of (own a h)) ≤ length (items_of w)
  did_few a (Producer items unsent end) d = omega (arith, ap length d.puts, length-append (gather put_of (own a h)) unsent)
  did_few a (Consumer taken end) d = rw d.puts (omega arith)
  did_few a (Closer u) d = rw d.puts (omega arith)

  puts_within : (a : ℕ) (vs : List (Worker T)) → EachFrom D a vs → length (by_each put_of a vs h) ≤ length (flat_map items_of vs)
  puts_within a [] k = omega arith
  puts_within a (w ∷ vs) k =
      let l = length-append (gather put_of (own a h)) (by_each put_of (suc a) vs h) in
      let r = length-append (items_of w) (flat_map items_of vs) in
      omega (arith, did_few a w k.0, puts_within (suc a) vs k.1)

  values_long : (ts : List (Moved T)) → length (values_of ts) ≡ length ts
  values_long [] = refl
  values_long (t ∷ ts) = ap suc (values_long ts)

  -- what the consumers took is what was taken
  pub all_taken : IsPermutation (flat_map taken_of ws) (gather took_of h)
  all_taken = gathers took_of taken_of D h ws did_takes ran.did ran.known

  -- no more is left than there are messages
  pub few_left : length (state c h).values ≤ length (flat_map items_of ws)
  few_left =
      let same = length_permutation _ _ (each_all put_of ws h ran.known) in
      let few = puts_within 0 ws ran.did in
      let all = length_permutation _ _ (all_there c h ran.legal) in
      omega (arith, length-append (values_of (gather took_of h)) (state c h).values)

  -- a sender whose pass put nothing has nothing anywhere
  pub nothing_of : (s : ℕ) → gather put_of (own s h) ≡ [] → from sender s (values_of (gather took_of h)) ++ from sender s (state c h).values ≡ []
  nothing_of s none = is_nil _ (omega (arith, length_permutation _ _ (all_there_of (λ x. sender x == s) c h ran.legal), ap length (puts_from s ∙ none)))

  -- no more was taken than there are messages
  pub few_takes : length (gather took_of h) ≤ length (flat_map items_of ws)
  few_takes =
      let same = length_permutation _ _ (each_all put_of ws h ran.known) in
      let few = puts_within 0 ws ran.did in
      let all = length_permutation _ _ (all_there c h ran.legal) in
      let l = length-append (values_of (gather took_of h)) (state c h).values in
      omega (arith, values_long (gather took_of h))

  no_room : (a : ℕ) (taken : List (Moved T)) → gather took_of (own a h) ≡ taken → plan.messages < length taken → ⊥
  no_room a taken is more = absurd (omega (arith, few_takes, own_fewer took_of a h, ap length is, ran.messages))

  -- from here on, the messages are fewer than half of the least limit
  module _ (few : 2 * length (flat_map items_of ws) < c.limit) where
    not_spent : c.limit ≤ 2 * length (gather hold_of h) → ⊥
    not_spent l = let k = few_holds in absurd (omega arith)

    -- who closed, where the closer was not used
    did_closes : gather close_of (own 0 h) ≡ [] → used ≡ false → (a : ℕ) (w : Worker T) → D a w × Unused used w → gather close_of (own a h) ≡ []
    did_closes zero' u a (Producer items unsent SentAll) d = d.0.ends.1
    did_closes zero' u a (Producer items unsent ClosedIt) d = subst (λ k. gather close_of (own k h) ≡ []) (sym d.0.ends.0) zero'
    did_closes zero' u a (Producer items unsent MetClosed) d = d.0.ends.0
    did_closes zero' u a (Producer items unsent MetSpent) d = d.0.ends.0
    did_closes zero' u a (Consumer taken end) d = d.0.closes
    did_closes zero' u a (Closer v) d = d.0.closes (d.1 ∙ u)

    no_closes : gather close_of (own 0 h) ≡ [] → used ≡ false → gather close_of h ≡ []
    no_closes z u = no_worker close_of (λ a w. D a w × Unused used w) h ws (did_closes z u) (EachFrom_both D _ 0 ws ran.did ran.unused) ran.known

    closes_zero : plan.close_after ≡ None → (a : ℕ) (w : Worker T) → D a w × Unused used w → a ≡ 0 → used ≡ false → gather close_of (own 0 h) ≡ []
    closes_zero n a (Producer items unsent SentAll) d e u = subst (λ k. gather close_of (own k h) ≡ []) e d.0.ends.1
    closes_zero n a (Producer items unsent ClosedIt) d e u = absurd (none_some plan.close_after _ n d.0.ends.1)
    closes_zero n a (Producer items unsent MetClosed) d e u = subst (λ k. gather close_of (own k h) ≡ []) e d.0.ends.0
    closes_zero n a (Producer items unsent MetSpent) d e u = subst (λ k. gather close_of (own k h) ≡ []) e d.0.ends.0
    closes_zero n a (Consumer taken end) d e u = subst (λ k. gather close_of (own k h) ≡ []) e d.0.closes
    closes_zero n a (Closer v) d e u = subst (λ k. gather close_of (own k h) ≡ []) e (d.0.closes (d.1 ∙ u))

    -- nothing is unsent where no close was asked for
    sent_at : plan.close_after ≡ None → 0 < length ws → (s : ℕ) (w : Worker T) → D s w × Unused used w → AllSent s w
    sent_at n some s (Producer items unsent SentAll) d = d.0.ends.0
    sent_at n some s (Producer items unsent ClosedIt) d = absurd (none_some plan.close_after _ n d.0.ends.1)
    sent_at n some s (Producer items unsent MetClosed) d =
        let first = EachFrom_at (λ a w. D a w × Unused used w) 0 ws (EachFrom_both D _ 0 ws ran.did ran.unused) 0 (omega arith) (omega arith) in
        absurd (once_closed c h (no_closes (closes_zero n 0 first.0 first.1 refl d.1) d.1) d.0.ends.1)
    sent_at n some s (Producer items unsent MetSpent) d = absurd (not_spent (once_spent c h d.0.ends.1))
    sent_at n some s (Consumer taken end) d = tt
    sent_at n some s (Closer u) d = tt

    pub all_sent : plan.close_after ≡ None → 0 < length ws → EachFrom AllSent 0 ws
    all_sent n some = EachFrom_weaker _ _ (sent_at n some) 0 ws (EachFrom_both D _ 0 ws ran.did ran.unused)

    -- with a close after m, producer 0 put its first m
    drop_front : {A : Type 0} (xs ys : List A) → drop (length xs) (xs ++ ys) ≡ ys
    drop_front [] ys = refl
    drop_front (x ∷ xs) ys = drop_front xs ys

    drop_past : {A : Type 0} (n : ℕ) (xs : List A) → length xs ≤ n → drop n xs ≡ []
    drop_past zero [] l = refl
    drop_past (suc n) [] l = refl
    drop_past zero (x ∷ xs) l = absurd (omega arith)
    drop_past (suc n) (x ∷ xs) l = drop_past n xs (omega arith)

    first_at : (m : ℕ) → plan.close_after ≡ Some m → (s : ℕ) (w : Worker T) → D s w × Unused used w → FirstPut m s w
    first_at m n s (Producer items unsent SentAll) d = λ e. d.0.ends.0 ∙ sym (drop_past m items (d.0.ends.2 m e n))
    first_at m n s (Producer items unsent ClosedIt) d = λ e.
        let is = some_same plan.close_after _ _ n d.0.ends.1 in
        sym (drop_front (gather put_of (own s h)) unsent) ∙ (ap (λ k. drop k (gather put_of (own s h) ++ unsent)) (sym is) ∙ ap (drop m) d.0.puts)
    first_at m n s (Producer items unsent MetClosed) d = λ e.
        absurd (once_closed c h (no_closes (subst (λ k. gather close_of (own k h) ≡ []) e d.0.ends.0) d.1) d.0.ends.1)
    first_at m n s (Producer items unsent MetSpent) d = λ e. absurd (not_spent (once_spent c h d.0.ends.1))
    first_at m n s (Consumer taken end) d = tt
    first_at m n s (Closer u) d = tt

    pub first_put : (m : ℕ) → plan.close_after ≡ Some m → EachFrom (FirstPut m) 0 ws
    first_put m n = EachFrom_weaker _ _ (first_at m n) 0 ws (EachFrom_both D _ 0 ws ran.did ran.unused)

    -- who shut, where consumer 0 did not
    did_shuts : gather shut_of (own plan.producers h) ≡ [] → (a : ℕ) (w : Worker T) → D a w → gather shut_of (own a h) ≡ []
    did_shuts z a (Producer items unsent end) d = d.shuts
    did_shuts z a (Consumer taken TookEnough) d = d.ends.0
    did_shuts z a (Consumer taken ShutIt) d = subst (λ k. gather shut_of (own k h) ≡ []) (sym d.ends.0) z
    did_shuts z a (Consumer taken FoundClosed) d = d.ends.0
    did_shuts z a (Consumer taken FoundShut) d = d.ends.0
    did_shuts z a (Consumer taken FoundSpent) d = d.ends.0
    did_shuts z a (Consumer taken NoRoom) d = d.ends.0
    did_shuts z a (Closer u) d = d.shuts

    no_shuts : gather shut_of (own plan.producers h) ≡ [] → gather shut_of h ≡ []
    no_shuts z = no_worker shut_of D h ws (did_shuts z) ran.did ran.known

    none_shuts : plan.shut_after ≡ None → (a : ℕ) (w : Worker T) → D a w → gather shut_of (own a h) ≡ []
    none_shuts n a (Producer items unsent end) d = d.shuts
    none_shuts n a (Consumer taken TookEnough) d = d.ends.0
    none_shuts n a (Consumer taken ShutIt) d = absurd (none_some plan.shut_after _ n d.ends.1)
    none_shuts n a (Consumer taken FoundClosed) d = d.ends.0
    none_shuts n a (Consumer taken FoundShut) d = d.ends.0
    none_shuts n a (Consumer taken FoundSpent) d = d.ends.0
    none_shuts n a (Consumer taken NoRoom) d = d.ends.0
    none_shuts n a (Closer u) d = d.shuts

    never_shut : plan.shut_after ≡ None → gather shut_of h ≡ []
    never_shut n = no_worker shut_of D h ws (none_shuts n) ran.did ran.known

    -- where something is left and nobody was to shut, each consumer took its share
    took_at : plan.shut_after ≡ None → (IsEmpty c h → ⊥) → (k : ℕ) → plan.take ≡ Some k → (s : ℕ) (w : Worker T) → D s w → TookK k s w
    took_at n left k t s (Producer items unsent end) d = tt
    took_at n left k t s (Consumer taken TookEnough) d = some_same plan.take _ _ d.ends.1 t
    took_at n left k t s (Consumer taken ShutIt) d = absurd (none_some plan.shut_after _ n d.ends.1)
    took_at n left k t s (Consumer taken FoundClosed) d = absurd (left (once_done c h ran.legal d.ends.1))
    took_at n left k t s (Consumer taken FoundShut) d = absurd (once_shut c h (never_shut n) d.ends.1)
    took_at n left k t s (Consumer taken FoundSpent) d = absurd (not_spent (once_spent c h d.ends.1))
    took_at n left k t s (Consumer taken NoRoom) d = absurd (no_room s taken d.takes d.ends.1)
    took_at n left k t s (Closer u) d = tt

    pub each_took : plan.shut_after ≡ None → (IsEmpty c h → ⊥) → (k : ℕ) → plan.take ≡ Some k → EachFrom (TookK k) 0 ws
    each_took n left k t = EachFrom_weaker D _ (took_at n left k t) 0 ws ran.did

    -- and where consumer 0 was to shut after m, it took m, or its share where that is less
    first_took_at : (m : ℕ) → plan.shut_after ≡ Some m → (IsEmpty c h → ⊥) → (s : ℕ) (w : Worker T) → D s w → FirstTook plan m s w
    first_took_at m n left s (Producer items unsent end) d = tt
    first_took_at m n left s (Consumer taken TookEnough) d = λ e. inr (d.ends.1, d.ends.2 m e n)
    first_took_at m n left s (Consumer taken ShutIt) d = λ e. inl (some_same plan.shut_after _ _ d.ends.1 n)
    first_took_at m n left s (Consumer taken FoundClosed) d = λ e. absurd (left (once_done c h ran.legal d.ends.1))
    first_took_at m n left s (Consumer taken FoundShut) d = λ e. absurd (once_shut c h (no_shuts (subst (λ k. gather shut_of (own k h) ≡ []) e d.ends.0)) d.ends.1)
    first_took_at m n left s (Consumer taken FoundSpent) d = λ e. absurd (not_spent (once_spent c h d.ends.1))
    first_took_at m n left s (Consumer taken NoRoom) d = λ e. absurd (no_room s taken d.takes d.ends.1)
    first_took_at m n left s (Closer u) d = tt

    pub first_took : (m : ℕ) → plan.shut_after ≡ Some m → (IsEmpty c h → ⊥) → EachFrom (FirstTook plan m) 0 ws
    first_took m n left = EachFrom_weaker D _ (first_took_at m n left) 0 ws ran.did

    -- nothing is left where neither a share nor a shut was asked for
    left_at : plan.take ≡ None → plan.shut_after ≡ None → (a : ℕ) (vs : List (Worker T)) → HasConsumer vs → EachFrom D a vs → IsEmpty c h
    left_at t n a [] has d = absurd has
    left_at t n a (Producer items unsent end ∷ vs) has d = left_at t n (suc a) vs has d.1
    left_at t n a (Consumer taken TookEnough ∷ vs) has d = absurd (none_some plan.take _ t d.0.ends.1)
    left_at t n a (Consumer taken ShutIt ∷ vs) has d = absurd (none_some plan.shut_after _ n d.0.ends.1)
    left_at t n a (Consumer taken FoundClosed ∷ vs) has d = once_done c h ran.legal d.0.ends.1
    left_at t n a (Consumer taken FoundShut ∷ vs) has d = absurd (once_shut c h (never_shut n) d.0.ends.1)
    left_at t n a (Consumer taken FoundSpent ∷ vs) has d = absurd (not_spent (once_spent c h d.0.ends.1))
    left_at t n a (Consumer taken NoRoom ∷ vs) has d = absurd (no_room a taken d.0.takes d.0.ends.1)
    left_at t n a (Closer u ∷ vs) has d = left_at t n (suc a) vs has d.1

    pub none_left : plan.take ≡ None → plan.shut_after ≡ None → HasConsumer ws → IsEmpty c h
    none_left t n has = left_at t n 0 ws has ran.did

  -- each took no more than its share
  most_at : (k : ℕ) → plan.take ≡ Some k → (s : ℕ) (w : Worker T) → D s w → AtMost k s w
  most_at k t s (Producer items unsent end) d = tt
  most_at k t s (Consumer taken end) d = d.most k t
  most_at k t s (Closer u) d = tt

  pub at_most : (k : ℕ) → plan.take ≡ Some k → EachFrom (AtMost k) 0 ws
  at_most k t = EachFrom_weaker D _ (most_at k t) 0 ws ran.did

  -- and consumer 0 no more than what it was to shut after
  most_first_at : (m : ℕ) → plan.shut_after ≡ Some m → (s : ℕ) (w : Worker T) → D s w → AtMostFirst plan m s w
  most_first_at m n s (Producer items unsent end) d = tt
  most_first_at m n s (Consumer taken end) d = λ e. d.most_first m e n
  most_first_at m n s (Closer u) d = tt

  pub at_most_first : (m : ℕ) → plan.shut_after ≡ Some m → EachFrom (AtMostFirst plan m) 0 ws
  at_most_first m n = EachFrom_weaker D _ (most_first_at m n) 0 ws ran.did
