-- What the consumers' lists say of the history, and of each consumer.
use Rattle.std.proofs.Common.{◌≡◌, ℕ, zero, suc, ◌+◌, ◌<◌, ◌≤◌, ◌≢◌, List, [], ◌∷◌, ◌++◌, refl, true, false, cond, sym, ◌∙◌, ap, subst, arith, length, flat_map, inl, inr, Vec}
use Rattle.std.specs.Prelude.{◌==◌, ◌⊎◌}
use Rattle.std.specs.List.{AllZip, AllByRecursion as Every}
use Rattle.std.specs.declared.alloc.Global.{Global}
use Rattle.std.specs.List.Sorted.{IsNonDecreasingBy}
use Rattle.std.proofs.lemmas.List.Elements.{All-from_recursion}
use Rattle.std.proofs.lemmas.Bool.Decides.{nat_tests}
use Rattle.std.proofs.lemmas.List.Sums.{sum_by-cons, sum_by-append}
use Rattle.bounded_model.specs.declared.history.Event.{Event}
use Rattle.bounded_model.specs.declared.history.Event.TheVariants.{Hold, Put, Take, TakeAll, Free, Close, Shut}
use Rattle.bounded_model.specs.Histories.{own, pass_of}
use Rattle.bounded_model.specs.Gathers.{gather, took_of, moved_by, values_of, Rises, Counts, EachFrom}
use Rattle.bounded_model.proofs.Histories.{own-mine, own-other}
use Rattle.relay.specs.declared.messages.Message.{Message}
use Rattle.relay.specs.declared.outcome.Taken.{Taken}
use Rattle.relay.specs.declared.plan.Orders.{Orders}
use Rattle.relay.specs.Promises.{messages_of, taken_by}
use Rattle.relay.specs.Workers.{moves_of}
use Rattle.relay.specs.Worked.{TookAs}
use Rattle.relay.proofs.Lists.{same_or_not, Every_append, Every_front, Every_back}
use Rattle.relay.specs.Jobs.{Took}
use Rattle.relay.specs.Pools.{PoolView}

-- Numbers and messages of the moves

pub moves_messages : (producers : ℕ) (ts : List Taken) → values_of (moves_of producers ts) ≡ messages_of ts
moves_messages producers [] = refl
moves_messages producers (t ∷ ts) = ap (λ l. t.message ∷ l) (moves_messages producers ts)

above : (producers n : ℕ) (ts : List Taken) → Every (λ m. n < m.number) (moves_of producers ts) → Every (λ t. n < t.number) ts
above producers n [] h = tt
above producers n (t ∷ ts) h = (h.0, above producers n ts h.1)

pub rises_from : (producers : ℕ) (ts : List Taken) → Rises (λ m. m.number) (moves_of producers ts) → Rises (λ t. t.number) ts
rises_from producers [] h = tt
rises_from producers (t ∷ ts) h = (above producers t.number ts h.0, rises_from producers ts h.1)

pub counts_from : (producers k : ℕ) (ts : List Taken) → Counts (λ m. m.number) k (moves_of producers ts) → Counts (λ t. t.number) k ts
counts_from producers k [] h = tt
counts_from producers k (t ∷ ts) h = (h.0, counts_from producers (suc k) ts h.1)

least : (producers n : ℕ) (ts : List Taken) → Every (λ t. n ≤ t.number) ts → Every (λ m. n ≤ m.number) (moves_of producers ts)
least producers n [] h = tt
least producers n (t ∷ ts) h = (h.0, least producers n ts h.1)

-- Who took what

taken_from : (a : ℕ) (e : Event Message) → pass_of e ≡ a → Every (λ m. m.by ≡ a) (took_of e)
taken_from a (Hold p) is = tt
taken_from a (Put p vs n) is = tt
taken_from a (Take p v n) is = (is, tt)
taken_from a (TakeAll p vs n) is = each vs
  where
    each : (vs : List Message) → Every (λ m. m.by ≡ a) (moved_by p n vs)
    each [] = tt
    each (v ∷ vs) = (is, each vs)
taken_from a (Free p k) is = tt
taken_from a (Close p) is = tt
taken_from a (Shut p) is = tt

own_takes : (a : ℕ) (h : List (Event Message)) → Every (λ m. m.by ≡ a) (gather took_of (own a h))
own_takes a [] = tt
own_takes a (e ∷ h) =
    elim (same_or_not (pass_of e) a) [
      | inl is ↦ rw (own-mine a e h is) (Every_append (λ m. m.by ≡ a) (gather took_of (own a h)) (took_of e) (own_takes a h) (taken_from a e is))
      | inr other ↦ rw (own-other a e h other) (own_takes a h)
    ]

named : (producers k n : ℕ) (ts : List Taken) → n ≡ producers + k → Every (λ m. m.by ≡ n) (moves_of producers ts) → Every (λ t. t.consumer ≡ k) ts
named producers k n [] e h = tt
named producers k n (t ∷ ts) e h = (omega (arith, h.0, e), named producers k n ts e h.1)

module _ {P : Type 0} (pool : PoolView P) (orders : Orders) where
  abbrev Theirs : ℕ → Took P → Type 0
  Theirs k t = Every (λ u. u.consumer ≡ k) t.list.items

  theirs : (k : ℕ) (t : Took P) → TookAs pool orders k t → Theirs k t
  theirs k t h = named orders.producers k (pool.view t.pass).number t.list.items h.number (subst (Every (λ m. m.by ≡ (pool.view t.pass).number)) h.did.takes (own_takes (pool.view t.pass).number (pool.view t.pass).seen))

  pub each_theirs : (k : ℕ) (took : List (Took P)) → EachFrom (TookAs pool orders) k took → EachFrom Theirs k took
  each_theirs k [] h = tt
  each_theirs k (t ∷ ts) h = (theirs k t h.0, each_theirs (suc k) ts h.1)

  below : (k n : ℕ) (us : List Taken) → k < n → Every (λ u. u.consumer ≡ k) us → Every (λ u. u.consumer < n) us
  below k n [] l h = tt
  below k n (u ∷ us) l h = (omega (arith, h.0, l), below k n us l h.1)

  pub all_below : (k n : ℕ) (took : List (Took P)) → k + length took ≤ n → EachFrom Theirs k took → Every (λ u. u.consumer < n) (flat_map (λ t. t.list.items) took)
  all_below k n [] l h = tt
  all_below k n (t ∷ ts) l h = Every_append (λ u. u.consumer < n) t.list.items (flat_map (λ u. u.list.items) ts) (below k n t.list.items (omega (arith, l)) h.0) (all_below (suc k) n ts (omega (arith, l)) h.1)

  abbrev is_by : ℕ → Taken → ℕ
  is_by n t = cond (t.consumer == n) 1 0

  count_yes : (n : ℕ) (us : List Taken) → Every (λ u. u.consumer ≡ n) us → taken_by n us ≡ length us
  count_yes n [] h = refl
  count_yes n (u ∷ us) h =
      let b : (u.consumer == n) ≡ true = grind (arith, nat_tests, h.0) in
      let one : is_by n u ≡ 1 = rw b refl in
      omega (arith, sum_by-cons (is_by n) u us, one, count_yes n us h.1)

  count_no : (k n : ℕ) (us : List Taken) → k ≢ n → Every (λ u. u.consumer ≡ k) us → taken_by n us ≡ 0
  count_no k n [] o h = refl
  count_no k n (u ∷ us) o h =
      let other : u.consumer ≢ n = λ e. o (sym h.0 ∙ e) in
      let b : (u.consumer == n) ≡ false = grind (arith, nat_tests) in
      let none : is_by n u ≡ 0 = rw b refl in
      omega (arith, sum_by-cons (is_by n) u us, none, count_no k n us o h.1)

  split_count : (n : ℕ) (us vs : List Taken) → taken_by n (us ++ vs) ≡ taken_by n us + taken_by n vs
  split_count n us vs = sum_by-append (is_by n) us vs

  count_past : (n k : ℕ) (took : List (Took P)) → n < k → EachFrom Theirs k took → taken_by n (flat_map (λ t. t.list.items) took) ≡ 0
  count_past n k [] l h = refl
  count_past n k (t ∷ ts) l h =
      let other : k ≢ n = λ e. absurd (omega (arith, l, e)) in
      omega (arith, split_count n t.list.items (flat_map (λ (u : Took P). u.list.items) ts), count_no k n t.list.items other h.0, count_past n (suc k) ts (omega (arith, l)) h.1)

  -- a consumer's count is the length of its list, of which Q holds; nobody else took anything
  pub count_at : (Q : ℕ → Took P → Type 0) (n k : ℕ) (took : List (Took P)) → k ≤ n → EachFrom Theirs k took → EachFrom Q k took
      → ((taken_by n (flat_map (λ t. t.list.items) took) ≡ 0) × (k + length took ≤ n)) ⊎ ((t : Took P) × Q n t × (taken_by n (flat_map (λ t. t.list.items) took) ≡ length t.list.items))
  count_at Q n k [] l h q = inl (refl, omega (arith, l))
  count_at Q n k (t ∷ ts) l h q =
      let both = split_count n t.list.items (flat_map (λ (u : Took P). u.list.items) ts) in
      elim (same_or_not k n) [
        | inl e ↦ inr (t, subst (λ j. Q j t) e q.0, omega (arith, both, count_yes n t.list.items (subst (λ j. Theirs j t) e h.0), count_past n (suc k) ts (omega (arith, e)) h.1))
        | inr o ↦ elim (count_at Q n (suc k) ts (omega (arith, o, l)) h.1 q.1) [
          | inl f ↦ inl (omega (arith, both, count_no k n t.list.items o h.0, f.0), omega (arith, f.1))
          | inr f ↦ inr (f.0, f.1, omega (arith, both, count_no k n t.list.items o h.0, f.2))
        ]
      ]

pub lists_items : {P : Type 0} (took : List (Took P)) (lists : List (Vec Taken Global)) → AllZip (λ t l. l ≡ t.list) took lists → flat_map (λ l. l.items) lists ≡ flat_map (λ t. t.list.items) took
lists_items [] [] h = refl
lists_items [] (l ∷ ls) h = absurd h
lists_items (t ∷ ts) [] h = absurd h
lists_items (t ∷ ts) (l ∷ ls) h = rw (h.0, lists_items ts ls h.1) refl

-- Each list rises

module _ {T A : Type 0} (f : Event T → List A) where
  -- what holds of all that was gathered holds of what is one pass's own
  own_every : (P : A → Type 0) (a : ℕ) (h : List (Event T)) → Every P (gather f h) → Every P (gather f (own a h))
  own_every P a [] all = tt
  own_every P a (e ∷ h) all =
      let before = own_every P a h (Every_front P (gather f h) (f e) all) in
      elim (same_or_not (pass_of e) a) [
        | inl is ↦ rw (own-mine a e h is) (Every_append P (gather f (own a h)) (f e) before (Every_back P (gather f h) (f e) all))
        | inr other ↦ rw (own-other a e h other) before
      ]

  module _ (n : A → ℕ) where
    rises_front : (xs ys : List A) → Rises n (xs ++ ys) → Rises n xs
    rises_front [] ys r = tt
    rises_front (x ∷ xs) ys r = (Every_front (λ z. n x < n z) xs ys r.0, rises_front xs ys r.1)

    rises_back : (xs ys : List A) → Rises n (xs ++ ys) → Rises n ys
    rises_back [] ys r = r
    rises_back (x ∷ xs) ys r = rises_back xs ys r.1

    -- each of the front is below each of the back
    abbrev Across : List A → List A → Type 0
    Across xs ys = Every (λ x. Every (λ y. n x < n y) ys) xs

    across : (xs ys : List A) → Rises n (xs ++ ys) → Across xs ys
    across [] ys r = tt
    across (x ∷ xs) ys r = (Every_back (λ z. n x < n z) xs ys r.0, across xs ys r.1)

    rises_append : (xs ys : List A) → Rises n xs → Rises n ys → Across xs ys → Rises n (xs ++ ys)
    rises_append [] ys r s a = s
    rises_append (x ∷ xs) ys r s a = (Every_append (λ z. n x < n z) xs ys r.0 a.0, rises_append xs ys r.1 s a.1)

    pub own_rises : (a : ℕ) (h : List (Event T)) → Rises n (gather f h) → Rises n (gather f (own a h))
    own_rises a [] r = tt
    own_rises a (e ∷ h) r =
        let before = own_rises a h (rises_front (gather f h) (f e) r) in
        elim (same_or_not (pass_of e) a) [
          | inl is ↦ rw (own-mine a e h is) (rises_append (gather f (own a h)) (f e) before (rises_back (gather f h) (f e) r) (own_every (λ x. Every (λ y. n x < n y) (f e)) a h (across (gather f h) (f e) r)))
          | inr other ↦ rw (own-other a e h other) before
        ]

-- what rises does not fall
pub rises_up : {A : Type 0} (n : A → ℕ) (xs : List A) → Rises n xs → IsNonDecreasingBy n xs
rises_up n [] r i j d le lt = absurd (omega arith)
rises_up n (x ∷ xs) r zero zero d le lt = omega arith
rises_up n (x ∷ xs) r zero (suc j) d le lt = let above = All-from_recursion (λ y. n x < n y) xs r.0 j d (omega arith) in omega (arith, above)
rises_up n (x ∷ xs) r (suc i) zero d le lt = absurd (omega arith)
rises_up n (x ∷ xs) r (suc i) (suc j) d le lt = rises_up n xs r.1 i j d (omega arith) (omega arith)
