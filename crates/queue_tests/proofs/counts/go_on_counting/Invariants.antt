use Rattle.ms_queue.specs.Calls.{IsCounting}
use Rattle.queue_tests.proofs.counts.go_on_counting.Given as goal

abbrev pub invariant-loop : goal.invariant-loop
invariant-loop g l = IsCounting l.fn.queue l.op
