-- What a relay promises of its inputs and its outcome.
use Rattle.std.specs.Prelude.{◌≡◌, ℕ, zero, suc, ◌+◌, ◌*◌, ◌<◌, ◌≤◌, ◌==◌, List, [], ◌∷◌, ◌++◌, length, filter, count_by, map, drop, Vec, Option, None, Some, IsPermutation, ◌⊎◌}
use Rattle.std.specs.List.{AllByRecursion as Every}
use Rattle.std.specs.declared.alloc.Global.{Global}
use Rattle.bounded_model.specs.declared.history.Order.TheVariants.{Fifo}
use Rattle.bounded_model.specs.Machine.{Shape}
use Rattle.bounded_model.specs.Gathers.{Rises, Counts}
use Rattle.relay.specs.declared.messages.Message.{Message}
use Rattle.relay.specs.declared.outcome.Plan.{Plan}
use Rattle.relay.specs.declared.outcome.Taken.{Taken}
use Rattle.relay.specs.declared.outcome.Relayed.{Relayed}

abbrev pub Lists : Type 0
Lists = List (Vec Message Global)

-- how many messages there are together
abbrev pub total : Lists → ℕ
total [] = 0
total (l ∷ ls) = length l.items + total ls

-- the list of one sender; it is empty if there is no such sender
abbrev pub list_of : ℕ → Lists → List Message
list_of s [] = []
list_of zero (l ∷ ls) = l.items
list_of (suc s) (l ∷ ls) = list_of s ls

-- the messages of one sender among these, in the same order
abbrev pub sent_by : ℕ → List Message → List Message
sent_by s ms = filter (λ m. m.sender == s) ms

abbrev pub messages_of : List Taken → List Message
messages_of ts = map (λ t. t.message) ts

-- how many one consumer took
abbrev pub taken_by : ℕ → List Taken → ℕ
taken_by n ts = count_by (λ t. t.consumer == n) ts

-- where one sender's messages are: delivered, left, unsent
abbrev pub ended_up : ℕ → Relayed → List Message
ended_up s r = (sent_by s (messages_of r.delivered.items) ++ sent_by s r.left.items) ++ list_of s r.unsent.items

-- no tag can meet the limit, which is more than two for each message
abbrev pub IsAmple : Shape → Lists → Type 0
IsAmple c inputs = 2 * total inputs < c.limit

-- The promises

-- exactly the messages that each sender gave are there, each once
abbrev pub LosesNothing : Lists → Relayed → Type 0
LosesNothing inputs r = (s : ℕ) → IsPermutation (list_of s inputs) (ended_up s r)

-- over a queue they are in its order too
abbrev pub KeepsOrder : Shape → Lists → Relayed → Type 0
KeepsOrder c inputs r = c.order ≡ Fifo → (s : ℕ) → ended_up s r ≡ list_of s inputs

-- all messages are sent if no close was asked for
abbrev pub SendsAll : Shape → Plan → Lists → Relayed → Type 0
SendsAll c plan inputs r = IsAmple c inputs → plan.close_after ≡ None → Every (λ l. l.items ≡ []) r.unsent.items

-- with a close after m puts, sender 0 sent exactly its first m messages
abbrev pub SendsFirst : Shape → Plan → Lists → Relayed → Type 0
SendsFirst c plan inputs r = IsAmple c inputs → (m : ℕ) → plan.close_after ≡ Some m → list_of 0 r.unsent.items ≡ drop m (list_of 0 inputs)

-- nothing is left if consumers were to take all
abbrev pub LeavesNothing : Shape → Plan → Lists → Relayed → Type 0
LeavesNothing c plan inputs r = IsAmple c inputs → plan.take ≡ None → plan.shut_after ≡ None → r.left.items ≡ []

-- the numbers rise strictly; over a queue they are 0, 1, 2, ..
abbrev pub NumbersRise : Relayed → Type 0
NumbersRise r = Rises (λ t. t.number) r.delivered.items

abbrev pub NumbersCount : Shape → Relayed → Type 0
NumbersCount c r = c.order ≡ Fifo → Counts (λ t. t.number) 0 r.delivered.items

-- only the plan's consumers took anything
abbrev pub NamesConsumers : Plan → Relayed → Type 0
NamesConsumers plan r = Every (λ t. t.consumer < plan.consumers) r.delivered.items

-- no consumer took more than its share, nor consumer 0 more than it was to shut after
abbrev pub TakesNoMore : Plan → Relayed → Type 0
TakesNoMore plan r = (k : ℕ) → plan.take ≡ Some k → (n : ℕ) → taken_by n r.delivered.items ≤ k

abbrev pub FirstTakesNoMore : Plan → Relayed → Type 0
FirstTakesNoMore plan r = (m : ℕ) → plan.shut_after ≡ Some m → taken_by 0 r.delivered.items ≤ m

-- if something is left and no shut was asked for, each consumer took its share
abbrev pub TakesShares : Shape → Plan → Lists → Relayed → Type 0
TakesShares c plan inputs r = IsAmple c inputs → (r.left.items ≡ [] → ⊥) → plan.shut_after ≡ None → (k : ℕ) → plan.take ≡ Some k → (n : ℕ) → n < plan.consumers → taken_by n r.delivered.items ≡ k

-- if something is left and consumer 0 was to shut after m, it took m, or its share if that is less
abbrev pub FirstTakesShare : Shape → Plan → Lists → Relayed → Type 0
FirstTakesShare c plan inputs r =
    IsAmple c inputs → (r.left.items ≡ [] → ⊥) → (m : ℕ) → plan.shut_after ≡ Some m
    → (taken_by 0 r.delivered.items ≡ m) ⊎ ((plan.take ≡ Some (taken_by 0 r.delivered.items)) × (taken_by 0 r.delivered.items < m))

-- all of them at once
pub record Relays (c : Shape) (plan : Plan) (inputs : Lists) (r : Relayed) : Type 0 where
  pub lists : length r.unsent.items ≡ length inputs
  pub all_there : LosesNothing inputs r
  pub in_order : KeepsOrder c inputs r
  pub all_sent : SendsAll c plan inputs r
  pub first_sent : SendsFirst c plan inputs r
  pub none_left : LeavesNothing c plan inputs r
  pub rising : NumbersRise r
  pub counting : NumbersCount c r
  pub consumers : NamesConsumers plan r
  pub no_more : TakesNoMore plan r
  pub first_no_more : FirstTakesNoMore plan r
  pub shares : TakesShares c plan inputs r
  pub first_share : FirstTakesShare c plan inputs r

-- Faults

-- a limit is set, and the takers' messages and a full container are fewer than there are messages
abbrev pub HasNoPlace : Option ℕ → ℕ → ℕ → ℕ → Type 0
HasNoPlace None takers capacity messages = ⊥
HasNoPlace (Some most) takers capacity messages = capacity + takers * most < messages

-- some message could never be put
abbrev pub IsTooSmall : Plan → ℕ → ℕ → Type 0
IsTooSmall plan capacity messages = HasNoPlace plan.take plan.consumers capacity messages ⊎ HasNoPlace plan.shut_after 1 capacity messages
