use Rattle.ring_queue.specs.Calls.{IsRootOf}
use Rattle.ring_tests.proofs.making.dropped_passes.Given as goal

abbrev pub invariant-loop : goal.invariant-loop
invariant-loop g l = IsRootOf l.fn.ring l.root
