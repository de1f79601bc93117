-- What all workers of a relay did, by the passes that they give back.
use Rattle.std.specs.Prelude.{◌≡◌, ℕ, suc, ◌+◌, Bool, List, [], ◌∷◌, Vec}
use Rattle.std.specs.declared.alloc.Global.{Global}
use Rattle.bounded_model.specs.Histories.{own}
use Rattle.relay.specs.declared.messages.Message.{Message}
use Rattle.relay.specs.declared.plan.Orders.{Orders}
use Rattle.relay.specs.Workers.{Producer, Consumer, ClosesLast, DidBy, moves_of}
use Rattle.relay.specs.Jobs.{Sent, Took}
use Rattle.relay.specs.Pools.{PoolView}

module _ {P : Type 0} (pool : PoolView P) where
  -- producer `who` with these messages
  pub record SentAs (orders : Orders) (who : ℕ) (messages : Vec Message Global) (s : Sent P) : Type 0 where
    pub of : pool.is_pass s.pass
    pub number : (pool.view s.pass).number ≡ who
    pub did : DidBy (λ m. m.sender) pool.shape orders (pool.view s.pass) (Producer messages.items s.list.items s.end)

  -- this consumer
  pub record TookAs (orders : Orders) (consumer : ℕ) (t : Took P) : Type 0 where
    pub of : pool.is_pass t.pass
    pub number : (pool.view t.pass).number ≡ orders.producers + consumer
    pub did : DidBy (λ m. m.sender) pool.shape orders (pool.view t.pass) (Consumer (moves_of orders.producers t.list.items) t.end)

  -- the closing pass, of this number
  pub record ClosedAs (number : ℕ) (pass : P) (used : Bool) : Type 0 where
    pub of : pool.is_pass pass
    pub is : (pool.view pass).number ≡ number
    pub did : ClosesLast (own (pool.view pass).number (pool.view pass).seen) used

  -- each producer, from this number on
  abbrev pub EachSentFrom : Orders → ℕ → List (Vec Message Global) → List (Sent P) → Type 0
  EachSentFrom orders who [] [] = Unit {0}
  EachSentFrom orders who [] (s ∷ ss) = ⊥
  EachSentFrom orders who (l ∷ ls) [] = ⊥
  EachSentFrom orders who (l ∷ ls) (s ∷ ss) = SentAs orders who l s × EachSentFrom orders (suc who) ls ss

  abbrev pub EachSent : Orders → List (Vec Message Global) → List (Sent P) → Type 0
  EachSent orders inputs sent = EachSentFrom orders 0 inputs sent
