-- All lists are inputs exactly where the rest are, from this sender on.
use Rattle.std.proofs.Common.{◌↔◌, drop}
use Rattle.relay.specs.Messages.{AreInputsFrom}
use Rattle.relay.proofs.messages.numbered.Given as goal

abbrev pub invariant-loop-sender : goal.invariant-loop-sender
invariant-loop-sender l = AreInputsFrom 0 l.inputs ↔ AreInputsFrom l.sender (drop l.sender l.inputs)
