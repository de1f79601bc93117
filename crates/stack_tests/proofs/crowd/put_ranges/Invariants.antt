use Rattle.treiber_stack.specs.Calls.{IsPassOf}
use Rattle.stack_tests.proofs.crowd.put_ranges.Given as goal

abbrev pub invariant-loop-k : goal.invariant-loop-k
invariant-loop-k g l = IsPassOf l.fn.stack l.pass
