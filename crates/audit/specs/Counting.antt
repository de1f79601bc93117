-- How many messages of each sender ended up where.
use Rattle.std.specs.Prelude.{◌≡◌, ℕ, ◌+◌, ◌<◌, ◌^◌, ◌==◌, List, [], ◌∷◌, length, count_by, sum_by, cond, slice_index_or, Vec}
use Rattle.std.specs.declared.alloc.Global.{Global}
use Rattle.relay.specs.declared.messages.Message.{Message}
use Rattle.relay.specs.declared.outcome.Relayed.{Relayed}
use Rattle.audit.specs.declared.counts.Counts.{Counts}
use Rattle.audit.specs.declared.tallies.Tallies.{Tallies}
use Rattle.audit.specs.declared.tallies.TheConstants.{SENDERS}

-- the counts of one sender, whose unsent messages these are
abbrev pub counts_of : Relayed → ℕ → Vec Message Global → Counts
counts_of r sender unsent = record {
  delivered = count_by (λ t. t.message.sender == sender) r.delivered.items;
  left = count_by (λ m. m.sender == sender) r.left.items;
  unsent = length unsent.items;
}

-- the counts of each sender from this one on
abbrev pub counts_from : Relayed → ℕ → List (Vec Message Global) → List Counts
counts_from r sender [] = []
counts_from r sender (unsent ∷ more) = counts_of r sender unsent ∷ counts_from r (sender + 1) more

-- their sums
abbrev pub total : List Counts → Counts
total counts = record {
  delivered = sum_by (λ c. c.delivered) counts;
  left = sum_by (λ c. c.left) counts;
  unsent = sum_by (λ c. c.unsent) counts;
}

-- the counts of both
abbrev pub sum_of : Counts → Counts → Counts
sum_of c d = record { delivered = c.delivered + d.delivered; left = c.left + d.left; unsent = c.unsent + d.unsent }

-- each of these counts is how many elements are of the sender of its place, from the first sender on
abbrev pub CountsEach : {X : Type 0} → (X → ℕ) → List X → ℕ → List ℕ → Type 0
CountsEach sender xs first counts = (k : ℕ) → k < SENDERS → slice_index_or counts k 0 ≡ count_by (λ x. sender x == first + k) xs

-- one more message of this sender was counted
abbrev pub Adds : ℕ → ℕ → List ℕ → List ℕ → Type 0
Adds first sender before after = (k : ℕ) → k < SENDERS → slice_index_or after k 0 ≡ slice_index_or before k 0 + cond (sender == first + k) 1 0

-- how many messages of each sender, from the first one on, were delivered and left
pub record IsTallyOf (r : Relayed) (t : Tallies) : Type 0 where
  pub delivered : CountsEach (λ d. d.message.sender) r.delivered.items t.first t.delivered
  pub left : CountsEach (λ m. m.sender) r.left.items t.first t.left

-- the sums over fewer than 2^63 lists
pub record HasRoom (c : Counts) : Type 0 where
  pub delivered : c.delivered < 2 ^ 126
  pub left : c.left < 2 ^ 126
  pub unsent : c.unsent < 2 ^ 126

-- no list has as many messages
pub record IsSmall (c : Counts) : Type 0 where
  pub delivered : c.delivered < 2 ^ 63
  pub left : c.left < 2 ^ 63
  pub unsent : c.unsent < 2 ^ 63
