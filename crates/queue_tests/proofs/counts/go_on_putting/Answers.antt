use Rattle.std.proofs.Common.{◌∙◌}
use Rattle.queue_tests.proofs.counts.go_on_putting.Goals as goal

pub loop-preserved : goal.loop-preserved
loop-preserved g c = let put = c.loop.invariant in (put.0, record { call = c.in-Again.ensures.2 ∙ put.1.call; under_way = c.in-Again.ensures.0 })
