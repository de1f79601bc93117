use Rattle.ring_queue.specs.Calls.{IsPassOf}
use Rattle.ring_tests.proofs.leaving.left_in_order.Given as goal

abbrev pub invariant-loop-value : goal.invariant-loop-value
invariant-loop-value g l = IsPassOf l.ring l.pass
