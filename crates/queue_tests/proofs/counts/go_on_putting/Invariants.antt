use Rattle.std.specs.Prelude.{ℕ}
use Rattle.ms_queue.specs.Calls.{IsPutting}
use Rattle.queue_tests.proofs.counts.go_on_putting.Given as goal

abbrev pub invariant-loop : goal.invariant-loop
invariant-loop g l = (x : ℕ) × IsPutting l.fn.queue x l.op
