use Rattle.ms_queue.specs.Calls.{IsTaking}
use Rattle.queue_tests.proofs.counts.go_on_taking.Given as goal

abbrev pub invariant-loop : goal.invariant-loop
invariant-loop g l = IsTaking l.fn.queue l.op
