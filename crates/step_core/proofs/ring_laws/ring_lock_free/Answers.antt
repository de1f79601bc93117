use Rattle.step_core.proofs.ring.Ends.{ring_ends, ring_lock_free, ring_costs, ring_overtaken, ring_unhindered}
use Rattle.step_core.proofs.ring_laws.ring_lock_free.Goals as goal

pub returns : goal.returns
returns g c = record {
  wherever_the_rule_holds = ring_ends;
  in_every_schedule = ring_lock_free;
  all_costs = λ n laps passes others. ring_costs n laps others passes;
  overtaken = ring_overtaken;
  unhindered = ring_unhindered;
}
