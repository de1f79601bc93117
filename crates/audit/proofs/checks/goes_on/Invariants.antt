-- The messages go on from `first` exactly where the rest goes on from `next`.
use Rattle.std.proofs.Common.{◌↔◌, ◌≤◌, ◌^◌, drop}
use Rattle.relay.specs.Messages.{GoOnFrom}
use Rattle.audit.proofs.checks.goes_on.Given as goal

abbrev pub invariant-loop-message : goal.invariant-loop-message
invariant-loop-message l = (l.next ≤ 2 ^ 32) × (GoOnFrom l.sender l.first l.messages ↔ GoOnFrom l.sender l.next (drop l.message-index l.messages))
