-- The promises, for a relay whose workers have ended and whose passes are all joined.
use Rattle.std.proofs.Common.{◌≡◌, ℕ, zero, suc, ◌+◌, ◌*◌, ◌<◌, ◌≤◌, List, [], ◌∷◌, ◌++◌, refl, Bool, sym, ◌∙◌, ap, subst, arith, map, length, length-append, flat_map, drop, inl, inr, Vec, All, IsPermutation, Option, None, Some}
use Rattle.std.specs.Prelude.{◌⊎◌}
use Rattle.std.specs.List.{AllZip, AllByRecursion as Every}
use Rattle.std.specs.List.Sorted.{IsNonDecreasingBy}
use Rattle.std.specs.declared.alloc.Global.{Global}
use Rattle.std.proofs.lemmas.List.{length-map, map-append, get_or-map}
use Rattle.std.proofs.lemmas.Grind.{flat_map-append}
use Rattle.std.proofs.lemmas.List.Elements.{All-from_recursion}
use Rattle.std.proofs.lemmas.List.Sorted.{IsPermutation-map, IsPermutation-refl, length_permutation, sum_by-IsPermutation}
use Rattle.bounded_model.specs.declared.history.Event.{Event}
use Rattle.bounded_model.specs.declared.views.RootView.{RootView}
use Rattle.bounded_model.specs.Machine.{state}
use Rattle.bounded_model.specs.Histories.{own, pass_of}
use Rattle.bounded_model.specs.Justified.{IsEmpty}
use Rattle.bounded_model.specs.Gathers.{gather, Moved, put_of, took_of, values_of, Rises, EachFrom}
use Rattle.bounded_model.proofs.Histories.{own-other}
use Rattle.relay.specs.declared.workers.ProducerEnd.{ProducerEnd}
use Rattle.relay.specs.declared.messages.Message.{Message}
use Rattle.relay.specs.declared.outcome.Plan.{Plan}
use Rattle.relay.specs.declared.outcome.Taken.{Taken}
use Rattle.relay.specs.declared.outcome.Relayed.{Relayed}
use Rattle.relay.specs.declared.plan.Orders.{Orders}
use Rattle.relay.specs.Promises.{Lists, total, list_of, sent_by, messages_of, taken_by, ended_up, IsAmple, Relays, LosesNothing, KeepsOrder, SendsAll, SendsFirst, LeavesNothing, NumbersRise, NumbersCount, NamesConsumers, TakesNoMore, FirstTakesNoMore, TakesShares, FirstTakesShare}
use Rattle.relay.specs.Workers.{Worker, Producer, Closer, Did, Ran, items_of, taken_of, moves_of, Accounts, InOrder, AllSent, TookK, AtMost, AtMostFirst, FirstTook, FirstPut, HasConsumer}
use Rattle.relay.specs.Worked.{EachSentFrom}
use Rattle.relay.proofs.Lists.{EachFrom_at, EachFrom_append, EachFrom_front, EachFrom_back, Every_permutation}
use Rattle.relay.proofs.Relaying.{all_taken, few_left, few_takes, nothing_of, delivered_is, numbers_rise, numbers_count, in_order, accounts, all_sent, first_put, each_took, first_took, none_left, at_most, at_most_first}
use Rattle.relay.proofs.Accounts.{sender_of, senders, taker, workers, senders_long, workers_long, Ends, ran, all_items}
use Rattle.relay.specs.Merge.{IsUp}
use Rattle.relay.proofs.Delivering.{moves_messages, own_rises, rises_up, rises_from, counts_from, each_theirs, all_below, count_at, lists_items}
use Rattle.relay.specs.Jobs.{Sent, Took}
use Rattle.relay.specs.Pools.{PoolView}

-- Lists

list_of_past : (s : ℕ) (ls : Lists) → length ls ≤ s → list_of s ls ≡ []
list_of_past s [] l = refl
list_of_past zero (l ∷ ls) m = absurd (omega arith)
list_of_past (suc s) (l ∷ ls) m = list_of_past s ls (omega arith)

drop_none : (m : ℕ) (ms : List Message) → ms ≡ [] → drop m ms ≡ []
drop_none zero [] e = refl
drop_none (suc m) [] e = refl
drop_none m (x ∷ ms) e = absurd (omega (arith, ap length e))

before_or_past : (s n : ℕ) → (s < n) ⊎ (n ≤ s)
before_or_past s zero = inr (omega arith)
before_or_past zero (suc n) = inl (omega arith)
before_or_past (suc s) (suc n) = elim (before_or_past s n) [ inl l ↦ inl (omega arith) | inr l ↦ inr (omega arith) ]

abbrev move : ℕ → Taken → Moved Message
move producers t = record { value = t.message; number = t.number; by = producers + t.consumer }

moves_sorted : (producers : ℕ) (ts : List Taken) → IsNonDecreasingBy (λ t. t.number) ts → IsNonDecreasingBy (λ m. m.number) (moves_of producers ts)
moves_sorted producers ts up = λ i j d l m.
    let e : Taken = first_of_list ts (omega (arith, m, length-map ts (move producers))) in
    let long = length-map ts (move producers) in
    let one = get_or-map (move producers) ts i e d (omega (arith, l, m, long)) in
    let two = get_or-map (move producers) ts j e d (omega (arith, m, long)) in
    rw (one, two) (up i j e l (omega (arith, m, long)))
  where
    first_of_list : (us : List Taken) → 0 < length us → Taken
    first_of_list [] l = absurd (omega arith)
    first_of_list (u ∷ us) l = u

own_past : (n s : ℕ) (h : List (Event Message)) → Every (λ e. pass_of e < n) h → n ≤ s → own s h ≡ []
own_past n s [] known l = refl
own_past n s (e ∷ h) known l = own-other s e h (λ is. absurd (omega (arith, known.0, is, l))) ∙ own_past n s h known.1 l

module _ {P : Type 0} (pool : PoolView P) (orders : Orders) where
  -- the lists of the senders, one by one
  pub at_sender : (G : ℕ → Worker Message → Type 0) (a : ℕ) (inputs : Lists) (sent : List (Sent P)) (unsent : Lists) → EachFrom G a (senders pool orders inputs sent) → EachSentFrom pool orders a inputs sent
      → AllZip (λ s l. l.items ≡ s.list.items) sent unsent → (s b : ℕ) → s < length inputs → a + s ≡ b → (end : ProducerEnd) × G b (Producer (list_of s inputs) (list_of s unsent) end)
  at_sender G a [] sent unsent g h z s b l e = absurd (omega arith)
  at_sender G a (i ∷ is) [] unsent g h z s b l e = absurd h
  at_sender G a (i ∷ is) (q ∷ qs) [] g h z s b l e = absurd z
  at_sender G a (i ∷ is) (q ∷ qs) (u ∷ us) g h z zero b l e =
      let same : a ≡ b = omega (arith, e) in (q.end, subst (λ n. G n (Producer i.items u.items q.end)) same (subst (λ m. G a (Producer i.items m q.end)) (sym z.0) g.0))
  at_sender G a (i ∷ is) (q ∷ qs) (u ∷ us) g h z (suc s) b l e = at_sender G (suc a) is qs us g.1 h.1 z.1 s b (omega arith) (omega (arith, e))

  all_empty : (a : ℕ) (inputs : Lists) (sent : List (Sent P)) (unsent : Lists) → EachFrom AllSent a (senders pool orders inputs sent) → EachSentFrom pool orders a inputs sent
      → AllZip (λ s l. l.items ≡ s.list.items) sent unsent → Every (λ l. l.items ≡ []) unsent
  all_empty a [] [] [] g h z = tt
  all_empty a [] [] (u ∷ us) g h z = absurd z
  all_empty a [] (q ∷ qs) unsent g h z = absurd h
  all_empty a (i ∷ is) [] unsent g h z = absurd h
  all_empty a (i ∷ is) (q ∷ qs) [] g h z = absurd z
  all_empty a (i ∷ is) (q ∷ qs) (u ∷ us) g h z = (z.0 ∙ g.0, all_empty (suc a) is qs us g.1 h.1 z.1)

  pub unsent_long : (a : ℕ) (inputs : Lists) (sent : List (Sent P)) (unsent : Lists) → EachSentFrom pool orders a inputs sent → AllZip (λ s l. l.items ≡ s.list.items) sent unsent → length unsent ≡ length inputs
  unsent_long a [] [] [] h z = refl
  unsent_long a [] [] (u ∷ us) h z = absurd z
  unsent_long a [] (q ∷ qs) unsent h z = absurd h
  unsent_long a (i ∷ is) [] unsent h z = absurd h
  unsent_long a (i ∷ is) (q ∷ qs) [] h z = absurd z
  unsent_long a (i ∷ is) (q ∷ qs) (u ∷ us) h z = ap suc (unsent_long (suc a) is qs us h.1 z.1)

  -- the lists of the consumers, one by one
  at_takers : (G : ℕ → Worker Message → Type 0) (Q : ℕ → Took P → Type 0) → ((k : ℕ) (t : Took P) → G (orders.producers + k) (taker pool orders t) → Q k t)
      → (a k : ℕ) (took : List (Took P)) → orders.producers + k ≡ a → EachFrom G a (map (taker pool orders) took) → EachFrom Q k took
  at_takers G Q f a k [] e g = tt
  at_takers G Q f a k (t ∷ ts) e g = (f k t (subst (λ n. G n (taker pool orders t)) (sym e) g.0), at_takers G Q f (suc a) (suc k) ts (omega (arith, e)) g.1)

  silent : (h : List (Event Message)) (a : ℕ) (took : List (Took P)) → EachFrom (Did sender_of pool.shape orders h) a (map (taker pool orders) took) → EachFrom (λ n w. gather put_of (own n h) ≡ []) a (map (taker pool orders) took)
  silent h a [] d = tt
  silent h a (t ∷ ts) d = (d.0.puts, silent h (suc a) ts d.1)

  takers_taken : (took : List (Took P)) → flat_map taken_of (map (taker pool orders) took) ≡ moves_of orders.producers (flat_map (λ t. t.list.items) took)
  takers_taken [] = refl
  takers_taken (t ∷ ts) = ap (λ l. moves_of orders.producers t.list.items ++ l) (takers_taken ts) ∙ sym (map-append (move orders.producers) t.list.items (flat_map (λ (u : Took P). u.list.items) ts))

  senders_taken : (inputs : Lists) (sent : List (Sent P)) → flat_map taken_of (senders pool orders inputs sent) ≡ []
  senders_taken [] sent = refl
  senders_taken (i ∷ is) [] = refl
  senders_taken (i ∷ is) (q ∷ qs) = senders_taken is qs

  has_consumer : (inputs : Lists) (sent : List (Sent P)) (took : List (Took P)) (rest : List (Worker Message)) → 0 < length took → HasConsumer ((senders pool orders inputs sent ++ map (taker pool orders) took) ++ rest)
  has_consumer [] sent [] rest l = absurd (omega arith)
  has_consumer [] sent (t ∷ ts) rest l = tt
  has_consumer (i ∷ is) [] [] rest l = absurd (omega arith)
  has_consumer (i ∷ is) [] (t ∷ ts) rest l = tt
  has_consumer (i ∷ is) (q ∷ qs) took rest l = has_consumer is qs took rest l

  module _ (inputs : Lists) (sent : List (Sent P)) (took : List (Took P)) (closer : P) (used : Bool) (r : RootView Message) (e : Ends pool orders inputs sent took closer used r) where
    abbrev ws : List (Worker Message)
    ws = workers pool orders inputs sent took used

    abbrev run' : Ran sender_of pool.shape orders r.seen ws used
    run' = ran pool orders inputs sent took closer used r e

    abbrev items : length (flat_map items_of ws) ≡ total inputs
    items = all_items pool orders inputs sent took closer used r e

    front : (G : ℕ → Worker Message → Type 0) → EachFrom G 0 ws → EachFrom G 0 (senders pool orders inputs sent)
    front G g = EachFrom_front G 0 (senders pool orders inputs sent) (map (taker pool orders) took) (EachFrom_front G 0 (senders pool orders inputs sent ++ map (taker pool orders) took) (Closer used ∷ []) g)

    long : length (senders pool orders inputs sent) ≡ length inputs
    long = senders_long pool orders 0 inputs sent e.senders_are

    middle : (G : ℕ → Worker Message → Type 0) → EachFrom G 0 ws → EachFrom G (length inputs) (map (taker pool orders) took)
    middle G g = EachFrom_back G 0 (length inputs) (senders pool orders inputs sent) (map (taker pool orders) took) (omega (arith, long))
        (EachFrom_front G 0 (senders pool orders inputs sent ++ map (taker pool orders) took) (Closer used ∷ []) g)

    taken_all : flat_map taken_of ws ≡ moves_of orders.producers (flat_map (λ t. t.list.items) took)
    taken_all =
        flat_map-append taken_of (senders pool orders inputs sent ++ map (taker pool orders) took) (Closer used ∷ [])
        ∙ (Rattle.std.proofs.Common.append-nil (flat_map taken_of (senders pool orders inputs sent ++ map (taker pool orders) took))
        ∙ (flat_map-append taken_of (senders pool orders inputs sent) (map (taker pool orders) took)
        ∙ (ap (λ l. l ++ flat_map taken_of (map (taker pool orders) took)) (senders_taken inputs sent) ∙ takers_taken took)))

    pub lists_of : (lists : List (Vec Taken Global)) → AllZip (λ t l. l ≡ t.list) took lists → length (flat_map (λ l. l.items) lists) ≡ length (flat_map (λ t. t.list.items) took)
    lists_of lists zip = ap length (lists_items took lists zip)

    -- there is room for what was taken, and for what is left
    pub few_taken : length (flat_map (λ t. t.list.items) took) ≤ total inputs
    few_taken =
        let few = few_takes sender_of pool.shape orders r.seen ws used run' in
        let same = length_permutation _ _ (all_taken sender_of pool.shape orders r.seen ws used run') in
        let moves = length-map (flat_map (λ (t : Took P). t.list.items) took) (move orders.producers) in
        omega (arith, few, same, ap length taken_all, moves, items)

    -- the numbers of each list rise
    rises_at : (a : ℕ) (ts : List (Took P)) → EachFrom (Did sender_of pool.shape orders r.seen) a (map (taker pool orders) ts) → Every (λ t. IsUp t.list) ts
    rises_at a [] h = tt
    rises_at a (t ∷ ts) h =
        let whole = numbers_rise sender_of pool.shape orders r.seen ws used run' (gather took_of r.seen) refl in
        let mine = own_rises took_of (λ m. m.number) a r.seen whole in
        let own' = rises_from orders.producers t.list.items (subst (Rises (λ m. m.number)) h.0.takes mine) in
        (rises_up (λ u. u.number) t.list.items own', rises_at (suc a) ts h.1)

    each_up : (ts : List (Took P)) (ls : List (Vec Taken Global)) → AllZip (λ t l. l ≡ t.list) ts ls → Every (λ t. IsUp t.list) ts → Every IsUp ls
    each_up [] [] z h = tt
    each_up [] (l ∷ ls) z h = absurd z
    each_up (t ∷ ts) [] z h = absurd z
    each_up (t ∷ ts) (l ∷ ls) z h = (subst IsUp (sym z.0) h.0, each_up ts ls z.1 h.1)

    pub lists_up : (lists : List (Vec Taken Global)) → AllZip (λ t l. l ≡ t.list) took lists → All IsUp lists
    lists_up lists zip = All-from_recursion IsUp lists (each_up took lists zip (rises_at (length inputs) took (middle (Did sender_of pool.shape orders r.seen) run'.did)))

    pub few_there : length (state pool.shape r.seen).values ≤ total inputs
    few_there = omega (arith, few_left sender_of pool.shape orders r.seen ws used run', items)

    -- a number from the inputs on put nothing
    puts_nothing : (s : ℕ) → length inputs ≤ s → gather put_of (own s r.seen) ≡ []
    puts_nothing s l =
        let G : ℕ → Worker Message → Type 0 = λ n w. gather put_of (own n r.seen) ≡ [] in
        let D : ℕ → Worker Message → Type 0 = Did sender_of pool.shape orders r.seen in
        let both = length-append (senders pool orders inputs sent) (map (taker pool orders) took) in
        let mid = length-map took (taker pool orders) in
        let last = EachFrom_back D 0 (length inputs + length took) (senders pool orders inputs sent ++ map (taker pool orders) took) (Closer used ∷ []) (omega (arith, both, mid, long)) run'.did in
        let back = EachFrom_append G (length inputs) (length inputs + length took) (map (taker pool orders) took) (Closer used ∷ []) (omega (arith, mid)) (silent r.seen (length inputs) took (middle D run'.did)) (last.0.puts, tt) in
        elim (before_or_past s (length inputs + length took + 1)) [
          | inl m ↦ (EachFrom_at G (length inputs) (map (taker pool orders) took ++ Closer used ∷ []) back s l (omega (arith, m, length-append (map (taker pool orders) took) (Closer used ∷ []), mid))).1
          | inr m ↦ ap (gather put_of) (own_past (length inputs + length took + 1) s r.seen (subst (λ n. Every (λ (v : Event Message). pass_of v < n) r.seen) (workers_long pool orders inputs sent took closer used r e) run'.known) m)
        ]

    module _ (lists : List (Vec Taken Global)) (plan : Plan) (out : Relayed)
        (zip : AllZip (λ t l. l ≡ t.list) took lists)
        (same : IsPermutation (flat_map (λ l. l.items) lists) out.delivered.items)
        (sorted : IsNonDecreasingBy (λ t. t.number) out.delivered.items)
        (rest : AllZip (λ s l. l.items ≡ s.list.items) sent out.unsent.items)
        (left : out.left.items ≡ (state pool.shape r.seen).values)
        (take_is : orders.take ≡ plan.take)
        (close_is : orders.close_after ≡ plan.close_after)
        (shut_is : orders.shut_after ≡ plan.shut_after)
        (some : 1 ≤ plan.consumers)
        (consumers : length took ≡ plan.consumers) where
      from_took : IsPermutation (flat_map (λ t. t.list.items) took) out.delivered.items
      from_took = subst (λ l. IsPermutation l out.delivered.items) (lists_items took lists zip) same

      moved_is : moves_of orders.producers out.delivered.items ≡ gather took_of r.seen
      moved_is = delivered_is sender_of pool.shape orders r.seen ws used run' (moves_of orders.producers out.delivered.items)
          (subst (λ l. IsPermutation l (moves_of orders.producers out.delivered.items)) (sym taken_all) (IsPermutation-map (move orders.producers) (flat_map (λ (t : Took P). t.list.items) took) out.delivered.items from_took))
          (moves_sorted orders.producers out.delivered.items sorted)

      values_are : values_of (gather took_of r.seen) ≡ messages_of out.delivered.items
      values_are = sym (ap values_of moved_is) ∙ moves_messages orders.producers out.delivered.items

      nothing_past : (s : ℕ) → length inputs ≤ s → ended_up s out ≡ []
      nothing_past s l =
          let none = nothing_of sender_of pool.shape orders r.seen ws used run' s (puts_nothing s l) in
          let past = list_of_past s out.unsent.items (omega (arith, l, unsent_long 0 inputs sent out.unsent.items e.senders_are rest)) in
          let both : sent_by s (messages_of out.delivered.items) ++ sent_by s out.left.items ≡ [] = rw (sym values_are, left) none in
          rw (both, past) refl

      all_there_is : LosesNothing inputs out
      all_there_is s = elim (before_or_past s (length inputs)) [
        | inl l ↦
            let G = Accounts sender_of (values_of (gather took_of r.seen)) (state pool.shape r.seen).values in
            let at = at_sender G 0 inputs sent out.unsent.items (front G (accounts sender_of pool.shape orders r.seen ws used run')) e.senders_are rest s s l (omega arith) in
            rw (sym values_are, left) at.1
        | inr l ↦ rw (list_of_past s inputs l, nothing_past s l) (IsPermutation-refl [])
      ]

      in_order_is : KeepsOrder pool.shape inputs out
      in_order_is fifo s = elim (before_or_past s (length inputs)) [
        | inl l ↦
            let G = InOrder sender_of (values_of (gather took_of r.seen)) (state pool.shape r.seen).values in
            let at = at_sender G 0 inputs sent out.unsent.items (front G (in_order sender_of pool.shape orders r.seen ws used run' fifo)) e.senders_are rest s s l (omega arith) in
            rw (sym values_are, left) at.1
        | inr l ↦ nothing_past s l ∙ sym (list_of_past s inputs l)
      ]

      ample : IsAmple pool.shape inputs → 2 * length (flat_map items_of ws) < pool.shape.limit
      ample l = omega (arith, l, items)

      all_sent_is : SendsAll pool.shape plan inputs out
      all_sent_is l n = all_empty 0 inputs sent out.unsent.items (front AllSent (all_sent sender_of pool.shape orders r.seen ws used run' (ample l) (close_is ∙ n) (omega (arith, workers_long pool orders inputs sent took closer used r e)))) e.senders_are rest

      first_sent_is : SendsFirst pool.shape plan inputs out
      first_sent_is l m n = elim (before_or_past 0 (length inputs)) [
        | inl k ↦ (at_sender (FirstPut m) 0 inputs sent out.unsent.items (front (FirstPut m) (first_put sender_of pool.shape orders r.seen ws used run' (ample l) m (close_is ∙ n))) e.senders_are rest 0 0 k (omega arith)).1 refl
        | inr k ↦ list_of_past 0 out.unsent.items (omega (arith, k, unsent_long 0 inputs sent out.unsent.items e.senders_are rest)) ∙ sym (drop_none m (list_of 0 inputs) (list_of_past 0 inputs k))
      ]

      none_left_is : LeavesNothing pool.shape plan inputs out
      none_left_is l t n = left ∙ none_left sender_of pool.shape orders r.seen ws used run' (ample l) (take_is ∙ t) (shut_is ∙ n) (has_consumer inputs sent took (Closer used ∷ []) (omega (arith, some, consumers)))

      rising_is : NumbersRise out
      rising_is = rises_from orders.producers out.delivered.items (numbers_rise sender_of pool.shape orders r.seen ws used run' (moves_of orders.producers out.delivered.items) moved_is)

      counting_is : NumbersCount pool.shape out
      counting_is fifo = counts_from orders.producers 0 out.delivered.items (numbers_count sender_of pool.shape orders r.seen ws used run' (moves_of orders.producers out.delivered.items) moved_is fifo)

      consumers_are : NamesConsumers plan out
      consumers_are = Every_permutation (λ (t : Taken). t.consumer < plan.consumers) (flat_map (λ (t : Took P). t.list.items) took) out.delivered.items from_took
          (all_below pool orders 0 plan.consumers took (omega (arith, consumers)) (each_theirs pool orders 0 took e.takers_are))

      -- a consumer's count, of whose list Q holds
      counted : (Q : ℕ → Took P → Type 0) (n : ℕ) → EachFrom Q 0 took → ((taken_by n out.delivered.items ≡ 0) × (length took ≤ n)) ⊎ ((t : Took P) × Q n t × (taken_by n out.delivered.items ≡ length t.list.items))
      counted Q n q =
          let same' : taken_by n out.delivered.items ≡ taken_by n (flat_map (λ t. t.list.items) took) = sum_by-IsPermutation (λ (t : Taken). Rattle.std.proofs.Common.cond (Rattle.std.specs.Prelude.◌==◌ t.consumer n) 1 0) (flat_map (λ (t : Took P). t.list.items) took) out.delivered.items from_took in
          elim (count_at pool orders Q n 0 took (omega arith) (each_theirs pool orders 0 took e.takers_are) q) [
            | inl f ↦ inl (same' ∙ f.0, omega (arith, f.1))
            | inr f ↦ inr (f.0, f.1, same' ∙ f.2)
          ]

      taken_long : (t : Took P) → length (moves_of orders.producers t.list.items) ≡ length t.list.items
      taken_long t = length-map t.list.items (move orders.producers)

      abbrev ofs : (G : ℕ → Worker Message → Type 0) (Q : ℕ → Took P → Type 0) → ((k : ℕ) (t : Took P) → G (orders.producers + k) (taker pool orders t) → Q k t) → EachFrom G 0 ws → EachFrom Q 0 took
      ofs G Q f g = at_takers G Q f (length inputs) 0 took (omega (arith, e.producers)) (middle G g)

      no_more_is : TakesNoMore plan out
      no_more_is k t n = elim (counted (λ j u. length u.list.items ≤ k) n (ofs (AtMost k) (λ j u. length u.list.items ≤ k) (λ j u g. omega (arith, g, taken_long u)) (at_most sender_of pool.shape orders r.seen ws used run' k (take_is ∙ t)))) [
        | inl f ↦ omega (arith, f.0)
        | inr f ↦ omega (arith, f.1, f.2)
      ]

      first_no_more_is : FirstTakesNoMore plan out
      first_no_more_is m n = elim (counted (λ j u. j ≡ 0 → length u.list.items ≤ m) 0 (ofs (AtMostFirst orders m) (λ j u. j ≡ 0 → length u.list.items ≤ m) (λ j u g z. let is : orders.producers + j ≡ orders.producers = omega (arith, z) in omega (arith, g is, taken_long u)) (at_most_first sender_of pool.shape orders r.seen ws used run' m (shut_is ∙ n)))) [
        | inl f ↦ omega (arith, f.0)
        | inr f ↦ omega (arith, f.1 refl, f.2)
      ]

      still : (out.left.items ≡ [] → ⊥) → IsEmpty pool.shape r.seen → ⊥
      still o z = o (left ∙ z)

      shares_are : TakesShares pool.shape plan inputs out
      shares_are l o n k t j m = elim (counted (λ i u. length u.list.items ≡ k) j (ofs (TookK k) (λ i u. length u.list.items ≡ k) (λ i u g. sym (taken_long u) ∙ g) (each_took sender_of pool.shape orders r.seen ws used run' (ample l) (shut_is ∙ n) (still o) k (take_is ∙ t)))) [
        | inl f ↦ absurd (omega (arith, f.1, m, consumers))
        | inr f ↦ f.2 ∙ f.1
      ]

      first_share_is : FirstTakesShare pool.shape plan inputs out
      first_share_is l o m n =
          let Q : ℕ → Took P → Type 0 = λ i u. i ≡ 0 → (length u.list.items ≡ m) ⊎ ((orders.take ≡ Some (length u.list.items)) × (length u.list.items < m)) in
          let change : (i : ℕ) (u : Took P) → FirstTook orders m (orders.producers + i) (taker pool orders u) → Q i u =
          λ i u g z. let is : orders.producers + i ≡ orders.producers = omega (arith, z) in subst (λ n. (n ≡ m) ⊎ ((orders.take ≡ Some n) × (n < m))) (taken_long u) (g is) in
          elim (counted Q 0 (ofs (FirstTook orders m) Q change (first_took sender_of pool.shape orders r.seen ws used run' (ample l) m (shut_is ∙ n) (still o)))) [
            | inl f ↦ absurd (omega (arith, f.1, some, consumers))
            | inr f ↦ subst (λ n. (n ≡ m) ⊎ ((plan.take ≡ Some n) × (n < m))) (sym f.2) (subst (λ k. (length f.0.list.items ≡ m) ⊎ ((k ≡ Some (length f.0.list.items)) × (length f.0.list.items < m))) take_is (f.1 refl))
          ]

      pub relays : Relays pool.shape plan inputs out
      relays = record {
        lists = unsent_long 0 inputs sent out.unsent.items e.senders_are rest;
        all_there = all_there_is;
        in_order = in_order_is;
        all_sent = all_sent_is;
        first_sent = first_sent_is;
        none_left = none_left_is;
        rising = rising_is;
        counting = counting_is;
        consumers = consumers_are;
        no_more = no_more_is;
        first_no_more = first_no_more_is;
        shares = shares_are;
        first_share = first_share_is;
      }
