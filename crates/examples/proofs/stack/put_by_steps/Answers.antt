use Rattle.std.proofs.Common.{◌∙◌}
use Rattle.examples.proofs.stack.put_by_steps.Goals as goal

pub loop-count-preserved : goal.loop-count-preserved
loop-count-preserved c = record { call = c.in-Again.ensures.2 ∙ c.loop-count.invariant.call; under_way = c.in-Again.ensures.0 }
