use Rattle.treiber_stack.specs.Calls.{IsRootOf}
use Rattle.stack_tests.proofs.making.no_pass_is_given_beyond_65535.Given as goal

abbrev pub invariant-loop : goal.invariant-loop
invariant-loop g l = IsRootOf l.stack l.root
