use Rattle.ms_queue.specs.Calls.{IsPassOf}
use Rattle.queue_tests.proofs.counts.take_many.Given as goal

abbrev pub invariant-loop : goal.invariant-loop
invariant-loop g l = IsPassOf l.fn.queue l.pass
