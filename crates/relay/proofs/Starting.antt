-- From new passes to workers that are ready, and from what they did to what all of them did.
use Rattle.std.proofs.Common.{◌≡◌, ℕ, suc, ◌+◌, ◌<◌, ◌^◌, List, [], ◌∷◌, refl, sym, ◌∙◌, ap, subst, arith, All, Vec, Bool, length}
use Rattle.std.specs.List.{AllZip, AllByRecursion as Every}
use Rattle.std.specs.declared.alloc.Global.{Global}
use Rattle.std.proofs.lemmas.List.Elements.{All-from_recursion, recursion_from_All}
use Rattle.bounded_model.specs.declared.views.PassView.{PassView}
use Rattle.bounded_model.specs.Histories.{own}
use Rattle.bounded_model.specs.Gathers.{EachFrom}
use Rattle.relay.specs.declared.messages.Message.{Message}
use Rattle.relay.specs.declared.outcome.Taken.{Taken}
use Rattle.relay.specs.declared.plan.Orders.{Orders}
use Rattle.relay.specs.Messages.{GoOnFrom, AreInputsFrom}
use Rattle.relay.specs.Rooms.{IsRoomFor, most_taken}
use Rattle.relay.specs.Passes.{new_pass, IsNewJob}
use Rattle.relay.specs.Parts.{IsSender, IsTaker, DidSend, DidTake, DidClose}
use Rattle.relay.specs.Workers.{Producer, DidBy}
use Rattle.relay.specs.Worked.{TookAs, ClosedAs, EachSent, EachSentFrom}
use Rattle.relay.specs.declared.workers.Done.{Done}
use Rattle.relay.specs.Jobs.{Sender, Sent, Taker, Took}
use Rattle.relay.specs.Pools.{PoolView}

from_one : (sender seq : ℕ) (ms : List Message) → GoOnFrom sender seq ms → Every (λ m. m.sender ≡ sender) ms
from_one sender seq [] h = tt
from_one sender seq (m ∷ ms) h = (h.0, from_one sender (seq + 1) ms h.2)

module _ {P : Type 0} (pool : PoolView P) where
  number_of : (p : P) (n : ℕ) → pool.view p ≡ new_pass n → (pool.view p).number ≡ n
  number_of p n e = ap (λ (v : PassView Message). v.number) e

  pub new_of : (p : P) (n : ℕ) → pool.view p ≡ new_pass n → own (pool.view p).number (pool.view p).seen ≡ []
  new_of p n e = rw e refl

  each_sender : (who : ℕ) (inputs : List (Vec Message Global)) (senders : List (Sender P)) → EachFrom (IsNewJob pool.is_pass pool.view 0) who senders
      → AllZip (λ l s. s.list ≡ l) inputs senders → AreInputsFrom who inputs → Every (IsSender pool) senders
  each_sender who [] [] new same from = tt
  each_sender who [] (s ∷ ss) new same from = absurd same
  each_sender who (l ∷ ls) [] new same from = tt
  each_sender who (l ∷ ls) (s ∷ ss) new same from =
      let n = new.0 in
      let own' : Every (λ m. m.sender ≡ who) s.list.items = subst (λ (v : Vec Message Global). Every (λ m. m.sender ≡ who) v.items) (sym same.0) (from_one who 0 l.items from.0) in (
        record {
          of = n.of;
          number = omega (arith, number_of s.pass (0 + who) n.pass, n.number);
          new = new_of s.pass (0 + who) n.pass;
          from = subst (λ k. Every (λ m. m.sender ≡ k) s.list.items) (sym n.number) own';
        },
        each_sender (suc who) ls ss new.1 same.1 (subst (λ k. AreInputsFrom k ls) (omega arith) from.1),
      )

  pub senders_ready : (inputs : List (Vec Message Global)) (senders : List (Sender P)) → EachFrom (IsNewJob pool.is_pass pool.view 0) 0 senders
      → AllZip (λ l s. s.list ≡ l) inputs senders → AreInputsFrom 0 inputs → All (IsSender pool) senders
  senders_ready inputs senders new same from = All-from_recursion (IsSender pool) senders (each_sender 0 inputs senders new same from)

  each_taker : (orders : Orders) (few : orders.producers < 2 ^ 63) (k : ℕ) (rooms : List (Vec Taken Global)) (takers : List (Taker P)) → EachFrom (IsNewJob pool.is_pass pool.view orders.producers) k takers
      → AllZip (λ v t. t.list ≡ v) rooms takers → Every (IsRoomFor (most_taken orders.take orders.messages)) rooms → Every (IsTaker pool orders) takers
  each_taker orders few k [] [] new same room = tt
  each_taker orders few k [] (t ∷ ts) new same room = absurd same
  each_taker orders few k (v ∷ vs) [] new same room = tt
  each_taker orders few k (v ∷ vs) (t ∷ ts) new same room =
      let n = new.0 in
      let has = subst (IsRoomFor (most_taken orders.take orders.messages)) (sym same.0) room.0 in (
        record {
          of = n.of;
          number = number_of t.pass (orders.producers + k) n.pass ∙ ap (λ j. orders.producers + j) (sym n.number);
          new = new_of t.pass (orders.producers + k) n.pass;
          few = few;
          room = has.room;
          empty = has.empty;
        },
        each_taker orders few (suc k) vs ts new.1 same.1 room.1,
      )

  pub takers_ready : (orders : Orders) (few : orders.producers < 2 ^ 63) (rooms : List (Vec Taken Global)) (takers : List (Taker P)) → EachFrom (IsNewJob pool.is_pass pool.view orders.producers) 0 takers
      → AllZip (λ v t. t.list ≡ v) rooms takers → All (IsRoomFor (most_taken orders.take orders.messages)) rooms → All (IsTaker pool orders) takers
  takers_ready orders few rooms takers new same room = All-from_recursion (IsTaker pool orders) takers (each_taker orders few 0 rooms takers new same (recursion_from_All (IsRoomFor (most_taken orders.take orders.messages)) rooms room))

  each_sent : (orders : Orders) (who : ℕ) (inputs : List (Vec Message Global)) (senders : List (Sender P)) (sent : List (Sent P)) → EachFrom (IsNewJob pool.is_pass pool.view 0) who senders
      → AllZip (λ l s. s.list ≡ l) inputs senders → AllZip (λ p q. DidSend pool orders p q) senders sent → EachSentFrom pool orders who inputs sent
  each_sent orders who [] [] [] new same did = tt
  each_sent orders who [] [] (q ∷ qs) new same did = absurd did
  each_sent orders who [] (s ∷ ss) sent new same did = absurd same
  each_sent orders who (l ∷ ls) [] sent new same did = absurd same
  each_sent orders who (l ∷ ls) (s ∷ ss) [] new same did = absurd did
  each_sent orders who (l ∷ ls) (s ∷ ss) (q ∷ qs) new same did = (
    record {
      of = did.0.of;
      number = did.0.number ∙ new.0.number;
      did = subst (λ (v : Vec Message Global). DidBy (λ m. m.sender) pool.shape orders (pool.view q.pass) (Producer v.items q.list.items q.end)) same.0 did.0.did;
    },
    each_sent orders (suc who) ls ss qs new.1 same.1 did.1,
  )

  pub all_sent : (orders : Orders) (inputs : List (Vec Message Global)) (senders : List (Sender P)) (sent : List (Sent P)) → EachFrom (IsNewJob pool.is_pass pool.view 0) 0 senders
      → AllZip (λ l s. s.list ≡ l) inputs senders → AllZip (λ p q. DidSend pool orders p q) senders sent → EachSent pool orders inputs sent
  all_sent orders inputs senders sent new same did = each_sent orders 0 inputs senders sent new same did

  pub each_took : (orders : Orders) (k : ℕ) (takers : List (Taker P)) (took : List (Took P)) → EachFrom (IsNewJob pool.is_pass pool.view orders.producers) k takers
      → AllZip (λ p q. DidTake pool orders p q) takers took → EachFrom (TookAs pool orders) k took
  each_took orders k [] [] new did = tt
  each_took orders k [] (q ∷ qs) new did = absurd did
  each_took orders k (t ∷ ts) [] new did = absurd did
  each_took orders k (t ∷ ts) (q ∷ qs) new did = (
    record {
      of = did.0.of;
      number = did.0.number ∙ ap (λ j. orders.producers + j) new.0.number;
      did = did.0.did;
    },
    each_took orders (suc k) ts qs new.1 did.1,
  )

  pub closed_as : (n : ℕ) (pass done : P) (used : Bool) → pool.view pass ≡ new_pass n → DidClose pool pass done used → ClosedAs pool n done used
  closed_as n pass done used e d = record { of = d.of; is = d.number ∙ number_of pass n e; did = d.did }

pub zip_long : {A B : Type 0} (R : A → B → Type 0) (xs : List A) (ys : List B) → AllZip R xs ys → length xs ≡ length ys
zip_long R [] [] h = refl
zip_long R [] (y ∷ ys) h = absurd h
zip_long R (x ∷ xs) [] h = absurd h
zip_long R (x ∷ xs) (y ∷ ys) h = ap suc (zip_long R xs ys h.1)

-- the same lists hold the same elements
pub zip_items : {P E A : Type 0} (done : List (Done P A E)) (lists : List (Vec A Global)) → AllZip (λ d l. l ≡ d.list) done lists → AllZip (λ d l. l.items ≡ d.list.items) done lists
zip_items {P} {E} {A} [] [] h = tt
zip_items {P} {E} {A} [] (l ∷ ls) h = absurd h
zip_items {P} {E} {A} (d ∷ ds) [] h = absurd h
zip_items {P} {E} {A} (d ∷ ds) (l ∷ ls) h = (ap (λ (v : Vec A Global). v.items) h.0, zip_items ds ls h.1)
