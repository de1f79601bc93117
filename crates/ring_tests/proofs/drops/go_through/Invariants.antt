use Rattle.ring_queue.specs.Calls.{IsPassOf}
use Rattle.ring_tests.proofs.drops.go_through.Given as goal

abbrev pub invariant-loop : goal.invariant-loop
invariant-loop g l = IsPassOf l.fn.ring l.pass
