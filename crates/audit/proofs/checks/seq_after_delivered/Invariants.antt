-- The messages go on from 0 exactly where the rest go on from `next`, whatever follows.
use Rattle.std.proofs.Common.{◌↔◌, ◌≤◌, ◌^◌, ◌++◌, List, drop}
use Rattle.relay.specs.declared.messages.Message.{Message}
use Rattle.relay.specs.Messages.{GoOnFrom}
use Rattle.audit.specs.Senders.{sent_by, messages_of}
use Rattle.audit.proofs.checks.seq_after_delivered.Given as goal

abbrev pub invariant-loop-taken : goal.invariant-loop-taken
invariant-loop-taken l = (l.next ≤ 2 ^ 32)
    × ((more : List Message) → GoOnFrom l.sender 0 (sent_by l.sender (messages_of l.delivered) ++ more)
    ↔ GoOnFrom l.sender l.next (sent_by l.sender (messages_of (drop l.taken-index l.delivered)) ++ more))
