use Rattle.ms_queue.specs.Calls.{IsPassOf}
use Rattle.queue_tests.proofs.counts.put_one.Given as goal

abbrev pub invariant-loop : goal.invariant-loop
invariant-loop g l = IsPassOf l.fn.queue l.pass
