use Rattle.ring_tests.specs.Doing.{IsDoing}
use Rattle.ring_tests.proofs.ways.by_single_steps.Given as goal

abbrev pub invariant-loop : goal.invariant-loop
invariant-loop g l = IsDoing l.fn.ring l.doing
