-- All senders' messages are there exactly where those of the rest are.
use Rattle.std.proofs.Common.{◌↔◌, ◌++◌, drop}
use Rattle.audit.specs.Senders.{messages_of}
use Rattle.audit.specs.Checks.{AllSent}
use Rattle.audit.proofs.checks.has_all_seqs.Given as goal

abbrev pub invariant-loop-sender : goal.invariant-loop-sender
invariant-loop-sender l =
    let put = messages_of l.relayed.delivered.items ++ l.relayed.left.items in
    AllSent put 0 l.relayed.unsent.items ↔ AllSent put l.sender (drop l.sender l.relayed.unsent.items)
