use Rattle.treiber_stack.specs.Calls.{IsPassOf}
use Rattle.stack_tests.proofs.crowd.take_each.Given as goal

abbrev pub invariant-loop : goal.invariant-loop
invariant-loop g l = IsPassOf l.fn.stack l.pass
