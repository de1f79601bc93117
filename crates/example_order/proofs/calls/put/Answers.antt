use Rattle.example_order.proofs.Concluding.{full_says}
use Rattle.ring_queue.specs.Calls.{pass_in}
use Rattle.example_order.proofs.calls.put.Goals as goal

pub returns-clause-full : goal.returns-clause-full
returns-clause-full g c = full_says c.args.ring.now c.args.value (pass_in c.args.by) c.put.result.0 c.put.result.1 c.ring_full_put.ensures c.put.ensures.ran
