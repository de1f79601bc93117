-- The whole is the sender's input exactly where the rest goes on from here.
use Rattle.std.proofs.Common.{◌↔◌, drop}
use Rattle.relay.specs.Messages.{IsInput, GoOnFrom}
use Rattle.relay.proofs.messages.is_input.Given as goal

abbrev pub invariant-loop-seq : goal.invariant-loop-seq
invariant-loop-seq l = IsInput l.sender l.messages ↔ GoOnFrom l.sender l.seq (drop l.seq l.messages)
