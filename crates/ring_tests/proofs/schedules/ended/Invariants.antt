use Rattle.ring_tests.specs.Doing.{IsDoing}
use Rattle.ring_tests.proofs.schedules.ended.Given as goal

abbrev pub invariant-loop : goal.invariant-loop
invariant-loop g l = IsDoing l.fn.ring l.doing
