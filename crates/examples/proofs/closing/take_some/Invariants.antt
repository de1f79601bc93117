use Rattle.std.proofs.Common.{◌-◌}
use Rattle.examples.proofs.closing.take_some.Given as goal

abbrev pub invariant-loop-count : goal.invariant-loop-count
invariant-loop-count g l = g.C.Container.is_pass l.fn.container l.pass

abbrev pub decreases-loop-count : goal.decreases-loop-count
decreases-loop-count g l = l.fn.wanted - l.count
