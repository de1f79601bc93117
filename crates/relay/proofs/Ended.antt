-- The passes of workers that have ended, and the room for their lists.
use Rattle.std.proofs.Common.{ℕ, suc, ◌≤◌, List, [], ◌∷◌, All, arith, Vec}
use Rattle.std.specs.List.{AllByRecursion as Every}
use Rattle.std.specs.declared.alloc.Global.{Global}
use Rattle.std.proofs.lemmas.List.Elements.{All-from_recursion}
use Rattle.bounded_model.specs.Gathers.{EachFrom}
use Rattle.relay.specs.declared.plan.Orders.{Orders}
use Rattle.relay.specs.Promises.{Lists}
use Rattle.relay.specs.Rooms.{IsRoomFor}
use Rattle.relay.specs.Worked.{EachSentFrom, TookAs}
use Rattle.relay.specs.Jobs.{Sent, Took}
use Rattle.relay.specs.Pools.{PoolView}

module _ {P : Type 0} (pool : PoolView P) (orders : Orders) where
  each_sent_pass : (a : ℕ) (inputs : Lists) (sent : List (Sent P)) → EachSentFrom pool orders a inputs sent → Every (λ s. pool.is_pass s.pass) sent
  each_sent_pass a [] [] h = tt
  each_sent_pass a [] (s ∷ ss) h = absurd h
  each_sent_pass a (l ∷ ls) [] h = tt
  each_sent_pass a (l ∷ ls) (s ∷ ss) h = (h.0.of, each_sent_pass (suc a) ls ss h.1)

  pub sent_passes : (a : ℕ) (inputs : Lists) (sent : List (Sent P)) → EachSentFrom pool orders a inputs sent → All (λ s. pool.is_pass s.pass) sent
  sent_passes a inputs sent h = All-from_recursion (λ (s : Sent P). pool.is_pass s.pass) sent (each_sent_pass a inputs sent h)

  each_took_pass : (k : ℕ) (took : List (Took P)) → EachFrom (TookAs pool orders) k took → Every (λ t. pool.is_pass t.pass) took
  each_took_pass k [] h = tt
  each_took_pass k (t ∷ ts) h = (h.0.of, each_took_pass (suc k) ts h.1)

  pub took_passes : (k : ℕ) (took : List (Took P)) → EachFrom (TookAs pool orders) k took → All (λ t. pool.is_pass t.pass) took
  took_passes k took h = All-from_recursion (λ (t : Took P). pool.is_pass t.pass) took (each_took_pass k took h)

-- room for as many is room for fewer
pub fits_within : {A : Type 0} {n m : ℕ} {v : Vec A Global} → m ≤ n → IsRoomFor n v → IsRoomFor m v
fits_within {A} {n} {m} {v} l h = record { room = omega (arith, l, h.room); empty = h.empty }
