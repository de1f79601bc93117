use Rattle.ms_queue.specs.Calls.{IsPassOf}
use Rattle.queue_tests.proofs.counts.put_many.Given as goal

abbrev pub invariant-loop-value : goal.invariant-loop-value
invariant-loop-value g l = IsPassOf l.fn.queue l.pass
