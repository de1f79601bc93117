use Rattle.std.proofs.Common.{◌∙◌}
use Rattle.queue_tests.proofs.counts.go_on_taking.Goals as goal

pub loop-preserved : goal.loop-preserved
loop-preserved g c = record { call = c.in-Again.ensures.2 ∙ c.loop.invariant.call; under_way = c.in-Again.ensures.0 }
