use Rattle.step_core.proofs.queue.Ends.{queue_ends, queue_lock_free, queue_costs, queue_overtaken, queue_unhindered}
use Rattle.step_core.proofs.queue_laws.queue_lock_free.Goals as goal

pub returns : goal.returns
returns g c = record {
  wherever_the_rule_holds = queue_ends;
  in_every_schedule = queue_lock_free;
  all_costs = λ n limit passes others. queue_costs n limit others passes;
  overtaken = queue_overtaken;
  unhindered = queue_unhindered;
}
