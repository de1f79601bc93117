use Rattle.ring_queue.specs.Calls.{IsPassOf}
use Rattle.ring_tests.proofs.rows.answered.Given as goal

abbrev pub invariant-loop-asked : goal.invariant-loop-asked
invariant-loop-asked g l = IsPassOf l.ring l.pass
