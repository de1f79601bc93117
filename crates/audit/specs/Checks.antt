-- What a queue allows.
use Rattle.std.specs.Prelude.{ℕ, ◌+◌, ◌<◌, List, [], ◌∷◌, ◌++◌, length, map, All, Vec}
use Rattle.std.specs.declared.alloc.Global.{Global}
use Rattle.relay.specs.declared.messages.Message.{Message}
use Rattle.relay.specs.declared.outcome.Relayed.{Relayed}
use Rattle.relay.specs.Messages.{CountsFrom, IsInput}
use Rattle.audit.specs.Senders.{sent_by, messages_of}

-- for each sender, from this one on, the messages that were put and then the unsent ones are its input
abbrev pub AllSent : List Message → ℕ → List (Vec Message Global) → Type 0
AllSent put sender [] = Unit {0}
AllSent put sender (unsent ∷ more) = IsInput sender (sent_by sender put ++ unsent.items) × AllSent put (sender + 1) more

-- each message that was put has a sender that has a list of unsent messages
pub record HasKnownSenders (r : Relayed) : Type 0 where
  pub delivered : All (λ t. t.message.sender < length r.unsent.items) r.delivered.items
  pub left : All (λ m. m.sender < length r.unsent.items) r.left.items

-- what a queue allows
pub record IsQueueOutcome (r : Relayed) : Type 0 where
  pub numbers : CountsFrom 0 (map (λ t. t.number) r.delivered.items)
  pub senders : HasKnownSenders r
  pub seqs : AllSent (messages_of r.delivered.items ++ r.left.items) 0 r.unsent.items
