use Rattle.step_core.proofs.stack.Ends.{stack_ends, stack_lock_free, stack_costs, stack_overtaken, singles_end, singles_lock_free, single_overtaken, single_unhindered}
use Rattle.step_core.proofs.stack_laws.stack_lock_free.Goals as goal

pub returns : goal.returns
returns g c = record {
  wherever_the_rule_holds = λ n limit others s schedule pos. stack_ends n limit pos others s schedule;
  calls_of_one_value = λ n limit others s schedule pos. singles_end n limit pos others s schedule;
  in_every_schedule = λ n limit others pos. stack_lock_free n limit pos others;
  in_every_schedule_of_one_value = λ n limit others pos. singles_lock_free n limit pos others;
  all_costs = λ n limit passes others schedule pos. stack_costs n limit pos others passes schedule;
  overtaken = λ n limit p s schedule pos. stack_overtaken n limit pos p s schedule;
  overtaken_with_one_value = λ n limit p s schedule pos. single_overtaken n limit pos p s schedule;
  unhindered = λ n limit p s stretch pos. single_unhindered n limit pos p s stretch;
}
