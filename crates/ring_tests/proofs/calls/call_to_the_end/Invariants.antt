use Rattle.std.specs.Prelude.{ℕ}
use Rattle.bounded_model.specs.declared.commands.Command.{Command}
use Rattle.ring_queue.specs.Calls.{IsMakingCall}
use Rattle.ring_tests.proofs.calls.call_to_the_end.Given as goal

abbrev pub invariant-loop : goal.invariant-loop
invariant-loop g l = (call : Command ℕ) × IsMakingCall l.fn.ring call l.op
