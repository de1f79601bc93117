use Rattle.ring_queue.specs.Calls.{IsPassOf}
use Rattle.ring_tests.proofs.rounds.take_all.Given as goal

abbrev pub invariant-loop-value : goal.invariant-loop-value
invariant-loop-value g l = IsPassOf l.fn.ring l.pass
