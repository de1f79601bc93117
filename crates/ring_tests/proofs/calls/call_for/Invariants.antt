use Rattle.bounded_model.specs.declared.commands.Command.{Command}
use Rattle.ring_queue.specs.Calls.{IsMakingCall}
use Rattle.ring_tests.proofs.calls.call_for.Given as goal

abbrev pub invariant-loop : goal.invariant-loop
invariant-loop g l = (call : Command g.row.T.Denot) × IsMakingCall l.fn.ring call l.op
