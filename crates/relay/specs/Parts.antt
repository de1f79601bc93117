-- When a worker's part is ready, and when it is done.
use Rattle.std.specs.Prelude.{◌≡◌, ◌+◌, ◌<◌, ◌≤◌, ◌^◌, Bool, All, [], vec_capacity}
use Rattle.std.specs.List.{AllZip, AllByRecursion as Every}
use Rattle.bounded_model.specs.Histories.{own}
use Rattle.relay.specs.declared.plan.Orders.{Orders}
use Rattle.relay.specs.declared.threads.Team.{Team}
use Rattle.relay.specs.declared.threads.Ended.{Ended}
use Rattle.relay.specs.Rooms.{most_taken}
use Rattle.relay.specs.Workers.{Producer, Consumer, ClosesLast, DidBy, NotMet, moves_of}
use Rattle.relay.specs.Jobs.{Sender, Sent, Taker, Took}
use Rattle.relay.specs.Pools.{PoolView}

module _ {P : Type 0} (pool : PoolView P) where
  -- a producer with a new pass of its own number, and with messages of its own
  pub record IsSender (job : Sender P) : Type 0 where
    pub of : pool.is_pass job.pass
    pub number : (pool.view job.pass).number ≡ job.place
    pub new : own (pool.view job.pass).number (pool.view job.pass).seen ≡ []
    pub from : Every (λ m. m.sender ≡ job.place) job.list.items

  -- a consumer with a new pass, whose number follows the producers', and with room for the most that it may take
  pub record IsTaker (orders : Orders) (job : Taker P) : Type 0 where
    pub of : pool.is_pass job.pass
    pub number : (pool.view job.pass).number ≡ orders.producers + job.place
    pub new : own (pool.view job.pass).number (pool.view job.pass).seen ≡ []
    pub few : orders.producers < 2 ^ 63
    pub room : most_taken orders.take orders.messages ≤ vec_capacity job.list
    pub empty : job.list.items ≡ []

  -- what a producer did, by its pass
  abbrev pub HasSent : Orders → Sender P → Sent P → Type 0
  HasSent orders job done = DidBy (λ m. m.sender) pool.shape orders (pool.view done.pass) (Producer job.list.items done.list.items done.end)

  -- what a consumer did, by its pass
  abbrev pub HasTaken : Orders → Took P → Type 0
  HasTaken orders done = DidBy (λ m. m.sender) pool.shape orders (pool.view done.pass) (Consumer (moves_of orders.producers done.list.items) done.end)

  -- the same pass, and what its producer did
  pub record DidSend (orders : Orders) (job : Sender P) (done : Sent P) : Type 0 where
    pub of : pool.is_pass done.pass
    pub number : (pool.view done.pass).number ≡ job.place
    pub did : HasSent orders job done

  -- the same pass, and what its consumer did
  pub record DidTake (orders : Orders) (job : Taker P) (done : Took P) : Type 0 where
    pub of : pool.is_pass done.pass
    pub number : (pool.view done.pass).number ≡ orders.producers + job.place
    pub did : HasTaken orders done

  -- the same pass; the container was closed with it if it was used, and otherwise it did nothing
  pub record DidClose (pass : P) (done : P) (used : Bool) : Type 0 where
    pub of : pool.is_pass done
    pub number : (pool.view done).number ≡ (pool.view pass).number
    pub did : ClosesLast (own (pool.view done).number (pool.view done).seen) used

  -- all of a relay's workers, and the pass that closes
  pub record IsTeam (orders : Orders) (team : Team P) : Type 0 where
    pub senders : All (IsSender) team.senders.items
    pub takers : All (IsTaker orders) team.takers.items
    pub closer : pool.is_pass team.closer
    pub new : own (pool.view team.closer).number (pool.view team.closer).seen ≡ []

  -- what each of a team did
  pub record HaveEnded (orders : Orders) (team : Team P) (ended : Ended P) : Type 0 where
    pub sent : AllZip (DidSend orders) team.senders.items ended.sent.items
    pub took : AllZip (DidTake orders) team.takers.items ended.took.items
    pub closed : DidClose team.closer ended.closer ended.used
    pub used : All (λ s. NotMet ended.used s.end) ended.sent.items

-- the closing pass was not used if this producer met the close
abbrev pub MayUse : {P : Type 0} → Bool → Sent P → Type 0
MayUse used done = NotMet used done.end
