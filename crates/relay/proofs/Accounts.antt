-- The whole history of a relay whose passes are all joined, and what each worker did in it.
use Rattle.std.proofs.Common.{◌≡◌, ℕ, suc, ◌+◌, ◌<◌, List, [], ◌∷◌, ◌++◌, refl, Bool, sym, ◌∙◌, ap, subst, arith, map, length, length-append, flat_map, All}
use Rattle.std.specs.List.{AllByRecursion as Every}
use Rattle.std.proofs.lemmas.List.{length-map}
use Rattle.std.proofs.lemmas.List.Elements.{recursion_from_All}
use Rattle.std.proofs.lemmas.Grind.{flat_map-append}
use Rattle.bounded_model.specs.declared.history.Event.{Event}
use Rattle.bounded_model.specs.declared.views.PassView.{PassView}
use Rattle.bounded_model.specs.declared.views.RootView.{RootView}
use Rattle.bounded_model.specs.Machine.{Shape}
use Rattle.bounded_model.specs.Histories.{own, pass_of, Later}
use Rattle.bounded_model.specs.Gathers.{EachFrom}
use Rattle.bounded_model.specs.Laws.{IsSound, NoneOut, Joins}
use Rattle.bounded_model.proofs.Histories.{Later-trans}
use Rattle.bounded_model.proofs.Joining.{HasJoined, HasJoined-now, HasJoined-join, own-joined}
use Rattle.relay.specs.declared.workers.ProducerEnd.TheVariants.{SentAll, ClosedIt, MetClosed, MetSpent}
use Rattle.relay.specs.declared.workers.ConsumerEnd.TheVariants.{TookEnough, ShutIt, FoundClosed, FoundShut, FoundSpent, NoRoom}
use Rattle.relay.specs.declared.messages.Message.{Message}
use Rattle.relay.specs.declared.plan.Orders.{Orders}
use Rattle.relay.specs.Promises.{Lists, total}
use Rattle.relay.specs.Passes.{gave, JoinsAll}
use Rattle.relay.specs.Parts.{MayUse}
use Rattle.relay.specs.Workers.{Worker, Producer, Consumer, Closer, DidIn, Did, DidBy, Once, Unused, Ran, items_of, moves_of}
use Rattle.relay.proofs.Lists.{EachFrom_append, Every_front, Every_back}
use Rattle.relay.proofs.Joins.{JoinsAll_append, JoinsAll_more}
use Rattle.relay.specs.Worked.{TookAs, ClosedAs, EachSentFrom}
use Rattle.relay.specs.Jobs.{Sent, Took}
use Rattle.relay.specs.Pools.{PoolView}

abbrev pub sender_of : Message → ℕ
sender_of m = m.sender

-- Joins, one after another

joined_given : (r t : RootView Message) (vs : List (PassView Message)) → JoinsAll r vs t → t.given ≡ r.given
joined_given r t [] e = ap (λ (s : RootView Message). s.given) e
joined_given r t (v ∷ vs) j = joined_given j.0 t vs j.2 ∙ j.1.given

joined_account : (r t : RootView Message) (vs : List (PassView Message)) → JoinsAll r vs t → length t.account ≡ length r.account + length vs
joined_account r t [] e = omega (arith, ap (λ (s : RootView Message). length s.account) e)
joined_account r t (v ∷ vs) j = omega (arith, joined_account j.0 t vs j.2, ap length j.1.account)

still_joined : (r t : RootView Message) (u : PassView Message) (vs : List (PassView Message)) → HasJoined r u → JoinsAll r vs t → HasJoined t u
still_joined r t u [] h e = subst (λ (s : RootView Message). HasJoined s u) (sym e) h
still_joined r t u (v ∷ vs) h j = still_joined j.0 t u vs (HasJoined-join h j.1) j.2

all_joined : (r t : RootView Message) (vs : List (PassView Message)) → JoinsAll r vs t → Every (HasJoined t) vs
all_joined r t [] e = tt
all_joined r t (v ∷ vs) j = (still_joined j.0 t v vs (HasJoined-now j.1) j.2, all_joined j.0 t vs j.2)

-- What was so stays so

later_once : {h k : List (Event Message)} {Q : List (Event Message) → Type 0} → Later h k → Once h Q → Once k Q
later_once l o = record { at = o.at; until = Later-trans o.until l; holds = o.holds }

later_did : (c : Shape) (plan : Orders) (h k : List (Event Message)) (a : ℕ) (es : List (Event Message)) (w : Worker Message) → Later h k → DidIn sender_of c plan h a es w → DidIn sender_of c plan k a es w
later_did c plan h k a es (Producer items unsent SentAll) l d = record { from = d.from; puts = d.puts; takes = d.takes; folds = d.folds; shuts = d.shuts; holds = d.holds; ends = d.ends }
later_did c plan h k a es (Producer items unsent ClosedIt) l d = record { from = d.from; puts = d.puts; takes = d.takes; folds = d.folds; shuts = d.shuts; holds = d.holds; ends = d.ends }
later_did c plan h k a es (Producer items unsent MetClosed) l d = record { from = d.from; puts = d.puts; takes = d.takes; folds = d.folds; shuts = d.shuts; holds = d.holds; ends = (d.ends.0, later_once l d.ends.1) }
later_did c plan h k a es (Producer items unsent MetSpent) l d = record { from = d.from; puts = d.puts; takes = d.takes; folds = d.folds; shuts = d.shuts; holds = d.holds; ends = (d.ends.0, later_once l d.ends.1) }
later_did c plan h k a es (Consumer taken TookEnough) l d = record { takes = d.takes; puts = d.puts; folds = d.folds; closes = d.closes; holds = d.holds; most = d.most; most_first = d.most_first; ends = d.ends }
later_did c plan h k a es (Consumer taken ShutIt) l d = record { takes = d.takes; puts = d.puts; folds = d.folds; closes = d.closes; holds = d.holds; most = d.most; most_first = d.most_first; ends = d.ends }
later_did c plan h k a es (Consumer taken FoundClosed) l d = record { takes = d.takes; puts = d.puts; folds = d.folds; closes = d.closes; holds = d.holds; most = d.most; most_first = d.most_first; ends = (d.ends.0, later_once l d.ends.1) }
later_did c plan h k a es (Consumer taken FoundShut) l d = record { takes = d.takes; puts = d.puts; folds = d.folds; closes = d.closes; holds = d.holds; most = d.most; most_first = d.most_first; ends = (d.ends.0, later_once l d.ends.1) }
later_did c plan h k a es (Consumer taken FoundSpent) l d = record { takes = d.takes; puts = d.puts; folds = d.folds; closes = d.closes; holds = d.holds; most = d.most; most_first = d.most_first; ends = (d.ends.0, later_once l d.ends.1) }
later_did c plan h k a es (Consumer taken NoRoom) l d = record { takes = d.takes; puts = d.puts; folds = d.folds; closes = d.closes; holds = d.holds; most = d.most; most_first = d.most_first; ends = d.ends }
later_did c plan h k a es (Closer used) l d = d

-- in the history of the root
did_at : (c : Shape) (plan : Orders) (r : RootView Message) (a : ℕ) (v : PassView Message) (w : Worker Message) → IsSound c r → v.number ≡ a → HasJoined r v → DidBy sender_of c plan v w → Did sender_of c plan r.seen a w
did_at c plan r a v w sound number joined d =
    let later = later_did c plan v.seen r.seen v.number (own v.number v.seen) w joined.seen d in
    subst (λ n. DidIn sender_of c plan r.seen n (own n r.seen) w) number
    (subst (λ es. DidIn sender_of c plan r.seen v.number es w) (sym (own-joined c sound joined)) later)

module _ {P : Type 0} (pool : PoolView P) (orders : Orders) where
  abbrev pub senders : Lists → List (Sent P) → List (Worker Message)
  senders [] ss = []
  senders (l ∷ ls) [] = []
  senders (l ∷ ls) (s ∷ ss) = Producer l.items s.list.items s.end ∷ senders ls ss

  abbrev pub taker : Took P → Worker Message
  taker t = Consumer (moves_of orders.producers t.list.items) t.end

  abbrev pub workers : Lists → List (Sent P) → List (Took P) → Bool → List (Worker Message)
  workers inputs sent took used = (senders inputs sent ++ map taker took) ++ Closer used ∷ []

  abbrev pub views : List (Sent P) → List (Took P) → P → List (PassView Message)
  views sent took closer = (map (λ s. pool.view s.pass) sent ++ map (λ t. pool.view t.pass) took) ++ pool.view closer ∷ []

  pub senders_long : (a : ℕ) (inputs : Lists) (sent : List (Sent P)) → EachSentFrom pool orders a inputs sent → length (senders inputs sent) ≡ length inputs
  senders_long a [] [] h = refl
  senders_long a [] (s ∷ ss) h = absurd h
  senders_long a (l ∷ ls) [] h = absurd h
  senders_long a (l ∷ ls) (s ∷ ss) h = ap suc (senders_long (suc a) ls ss h.1)

  pub sent_long : (a : ℕ) (inputs : Lists) (sent : List (Sent P)) → EachSentFrom pool orders a inputs sent → length sent ≡ length inputs
  sent_long a [] [] h = refl
  sent_long a [] (s ∷ ss) h = absurd h
  sent_long a (l ∷ ls) [] h = absurd h
  sent_long a (l ∷ ls) (s ∷ ss) h = ap suc (sent_long (suc a) ls ss h.1)

  senders_items : (a : ℕ) (inputs : Lists) (sent : List (Sent P)) → EachSentFrom pool orders a inputs sent → length (flat_map items_of (senders inputs sent)) ≡ total inputs
  senders_items a [] [] h = refl
  senders_items a [] (s ∷ ss) h = absurd h
  senders_items a (l ∷ ls) [] h = absurd h
  senders_items a (l ∷ ls) (s ∷ ss) h = length-append l.items (flat_map items_of (senders ls ss)) ∙ ap (λ n. length l.items + n) (senders_items (suc a) ls ss h.1)

  takers_items : (took : List (Took P)) → flat_map items_of (map taker took) ≡ []
  takers_items [] = refl
  takers_items (t ∷ ts) = takers_items ts

  unused_takers : (a : ℕ) (used : Bool) (took : List (Took P)) → EachFrom (λ n w. Unused used w) a (map taker took)
  unused_takers a used [] = tt
  unused_takers a used (t ∷ ts) = (tt, unused_takers (suc a) used ts)

  unused_senders : (a : ℕ) (used : Bool) (inputs : Lists) (sent : List (Sent P)) → EachSentFrom pool orders a inputs sent → Every (MayUse used) sent → EachFrom (λ n w. Unused used w) a (senders inputs sent)
  unused_senders a used [] [] h m = tt
  unused_senders a used [] (s ∷ ss) h m = absurd h
  unused_senders a used (l ∷ ls) [] h m = absurd h
  unused_senders a used (l ∷ ls) (s ∷ ss) h m = (m.0, unused_senders (suc a) used ls ss h.1 m.1)

  module _ (r : RootView Message) (sound : IsSound pool.shape r) where
    senders_did : (a : ℕ) (inputs : Lists) (sent : List (Sent P)) → EachSentFrom pool orders a inputs sent → Every (HasJoined r) (map (λ s. pool.view s.pass) sent) → EachFrom (Did sender_of pool.shape orders r.seen) a (senders inputs sent)
    senders_did a [] [] h j = tt
    senders_did a [] (s ∷ ss) h j = absurd h
    senders_did a (l ∷ ls) [] h j = absurd h
    senders_did a (l ∷ ls) (s ∷ ss) h j = (did_at pool.shape orders r a (pool.view s.pass) (Producer l.items s.list.items s.end) sound h.0.number j.0 h.0.did, senders_did (suc a) ls ss h.1 j.1)

    takers_did : (a k : ℕ) (took : List (Took P)) → orders.producers + k ≡ a → EachFrom (TookAs pool orders) k took → Every (HasJoined r) (map (λ t. pool.view t.pass) took) → EachFrom (Did sender_of pool.shape orders r.seen) a (map taker took)
    takers_did a k [] e h j = tt
    takers_did a k (t ∷ ts) e h j = (did_at pool.shape orders r a (pool.view t.pass) (taker t) sound (h.0.number ∙ e) j.0 h.0.did, takers_did (suc a) (suc k) ts (omega (arith, e)) h.1 j.1)

  -- a relay whose workers have ended, and whose passes are all joined
  pub record Ends (inputs : Lists) (sent : List (Sent P)) (took : List (Took P)) (closer : P) (used : Bool) (r : RootView Message) : Type 0 where
    pub senders_are : EachSentFrom pool orders 0 inputs sent
    pub takers_are : EachFrom (TookAs pool orders) 0 took
    pub closer_is : ClosedAs pool (length inputs + length took) closer used
    pub may : Every (MayUse used) sent
    pub joined : JoinsAll (gave (length inputs + length took + 1)) (views sent took closer) r
    pub sound : IsSound pool.shape r
    pub producers : orders.producers ≡ length inputs
    pub messages : orders.messages ≡ total inputs

  module _ (inputs : Lists) (sent : List (Sent P)) (took : List (Took P)) (closer : P) (used : Bool) (r : RootView Message) (e : Ends inputs sent took closer used r) where
    both_long : 0 + length (senders inputs sent ++ map taker took) ≡ length inputs + length took
    both_long = omega (arith, length-append (senders inputs sent) (map taker took), senders_long 0 inputs sent e.senders_are, length-map took taker)

    pub workers_long : length (workers inputs sent took used) ≡ length inputs + length took + 1
    workers_long = omega (arith, length-append (senders inputs sent ++ map taker took) (Closer used ∷ []), both_long)

    given : r.given ≡ length inputs + length took + 1
    given = joined_given (gave (length inputs + length took + 1)) r (views sent took closer) e.joined

    -- no pass is out
    pub none_out : NoneOut r
    none_out =
        omega (
          arith,
          given,
          joined_account (gave (length inputs + length took + 1)) r (views sent took closer) e.joined,
          sent_long 0 inputs sent e.senders_are,
          length-append (map (λ (s : Sent P). pool.view s.pass) sent ++ map (λ (t : Took P). pool.view t.pass) took) (pool.view closer ∷ []),
          length-append (map (λ (s : Sent P). pool.view s.pass) sent) (map (λ (t : Took P). pool.view t.pass) took),
          length-map sent (λ (s : Sent P). pool.view s.pass),
          length-map took (λ (t : Took P). pool.view t.pass),
        )

    everyone : Every (HasJoined r) (views sent took closer)
    everyone = all_joined (gave (length inputs + length took + 1)) r (views sent took closer) e.joined

    did_all : EachFrom (Did sender_of pool.shape orders r.seen) 0 (workers inputs sent took used)
    did_all =
        let ss = map (λ (s : Sent P). pool.view s.pass) sent in
        let ts = map (λ (t : Took P). pool.view t.pass) took in
        let both = Every_front (HasJoined r) (ss ++ ts) (pool.view closer ∷ []) everyone in
        let last = Every_back (HasJoined r) (ss ++ ts) (pool.view closer ∷ []) everyone in
        let one = senders_did r e.sound 0 inputs sent e.senders_are (Every_front (HasJoined r) ss ts both) in
        let two = takers_did r e.sound (length inputs) 0 took (omega (arith, e.producers)) e.takers_are (Every_back (HasJoined r) ss ts both) in
        let three = did_at pool.shape orders r (length inputs + length took) (pool.view closer) (Closer used) e.sound e.closer_is.is last.0 e.closer_is.did in
        EachFrom_append (Did sender_of pool.shape orders r.seen) 0 (length inputs + length took) (senders inputs sent ++ map taker took) (Closer used ∷ []) both_long
        (EachFrom_append (Did sender_of pool.shape orders r.seen) 0 (length inputs) (senders inputs sent) (map taker took) (omega (arith, senders_long 0 inputs sent e.senders_are)) one two) (three, tt)

    unused_all : EachFrom (λ n w. Unused used w) 0 (workers inputs sent took used)
    unused_all = EachFrom_append (λ n w. Unused used w) 0 (length inputs + length took) (senders inputs sent ++ map taker took) (Closer used ∷ []) both_long
        (EachFrom_append (λ n w. Unused used w) 0 (length inputs) (senders inputs sent) (map taker took) (omega (arith, senders_long 0 inputs sent e.senders_are)) (unused_senders 0 used inputs sent e.senders_are e.may) (unused_takers (length inputs) used took)) (refl, tt)

    pub all_items : length (flat_map items_of (workers inputs sent took used)) ≡ total inputs
    all_items =
        ap length (flat_map-append items_of (senders inputs sent ++ map taker took) (Closer used ∷ [])) ∙ (length-append (flat_map items_of (senders inputs sent ++ map taker took)) [] ∙ omega (
          arith,
          ap length (flat_map-append items_of (senders inputs sent) (map taker took)),
          length-append (flat_map items_of (senders inputs sent)) (flat_map items_of (map taker took)),
          ap length (takers_items took),
          senders_items 0 inputs sent e.senders_are,
        ))

    -- it was a run as the promises want it
    pub ran : Ran sender_of pool.shape orders r.seen (workers inputs sent took used) used
    ran = record {
      legal = e.sound.legal;
      known = subst (λ n. Every (λ (v : Event Message). pass_of v < n) r.seen) (given ∙ sym workers_long) e.sound.known;
      did = did_all;
      unused = unused_all;
      messages = e.messages ∙ sym all_items;
    }

module _ {P : Type 0} (pool : PoolView P) (orders : Orders) (inputs : Lists) (sent : List (Sent P)) (took : List (Took P)) (closer : P) (used : Bool) where
  -- from what each step of the relay says
  pub ends_from : (p q : ℕ) (r₀ r₁ r₂ r : RootView Message) → length inputs ≡ p → length took ≡ q → EachSentFrom pool orders 0 inputs sent → EachFrom (TookAs pool orders) 0 took
      → ClosedAs pool (p + q) closer used → All (MayUse used) sent → r₀ ≡ gave (p + q + 1) → JoinsAll r₀ (map (λ s. pool.view s.pass) sent) r₁ → JoinsAll r₁ (map (λ t. pool.view t.pass) took) r₂
      → Joins r₂ (pool.view closer) r → IsSound pool.shape r → orders.producers ≡ p → orders.messages ≡ total inputs → Ends pool orders inputs sent took closer used r
  ends_from p q r₀ r₁ r₂ r is_p is_q senders' takers' closer' may given one two three sound producers messages =
      let both : p + q ≡ length inputs + length took = omega (arith, is_p, is_q) in
      let ss = map (λ (s : Sent P). pool.view s.pass) sent in
      let ts = map (λ (t : Took P). pool.view t.pass) took in
      record {
        senders_are = senders';
        takers_are = takers';
        closer_is = subst (λ n. ClosedAs pool n closer used) both closer';
        may = recursion_from_All (MayUse used) sent may;
        joined = subst (λ n. JoinsAll (gave (n + 1)) (views pool orders sent took closer) r) both
            (subst (λ s. JoinsAll s (views pool orders sent took closer) r) given (JoinsAll_more r₀ r₂ r (ss ++ ts) (pool.view closer) (JoinsAll_append r₀ r₁ r₂ ss ts one two) three));
        sound = sound;
        producers = producers ∙ sym is_p;
        messages = messages;
      }
