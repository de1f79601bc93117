use Rattle.treiber_stack.specs.Calls.{IsPassOf}
use Rattle.stack_tests.proofs.crowd.put_three.Given as goal

abbrev pub invariant-loop-place : goal.invariant-loop-place
invariant-loop-place g l = IsPassOf l.fn.stack l.pass
