-- The messages go on from `first` exactly where the rest go on from `next`, whatever follows.
use Rattle.std.proofs.Common.{◌↔◌, ◌≤◌, ◌^◌, ◌++◌, List, drop}
use Rattle.relay.specs.declared.messages.Message.{Message}
use Rattle.relay.specs.Messages.{GoOnFrom}
use Rattle.audit.specs.Senders.{sent_by}
use Rattle.audit.proofs.checks.seq_after_left.Given as goal

abbrev pub invariant-loop-message : goal.invariant-loop-message
invariant-loop-message l = (l.next ≤ 2 ^ 32)
    × ((more : List Message) → GoOnFrom l.sender l.first (sent_by l.sender l.left ++ more)
    ↔ GoOnFrom l.sender l.next (sent_by l.sender (drop l.message-index l.left) ++ more))
