use Rattle.ring_tests.specs.Doing.{IsDoing}
use Rattle.ring_tests.proofs.schedules.played.Given as goal

abbrev pub invariant-loop-turn : goal.invariant-loop-turn
invariant-loop-turn g l = IsDoing l.ring l.first × IsDoing l.ring l.second × IsDoing l.ring l.third × IsDoing l.ring l.fourth
