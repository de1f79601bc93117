use Rattle.ms_queue.specs.Calls.{IsGauging}
use Rattle.queue_tests.proofs.gauging.go_on.Given as goal

abbrev pub invariant-loop : goal.invariant-loop
invariant-loop g l = IsGauging l.fn.queue l.op
