use Rattle.std.proofs.Common.{inr}
use Rattle.runs.proofs.stack.Stacks.{bounded, bounded_run}
use Rattle.runs.proofs.stack_laws.bounds.stack_steps_are_bounded.Goals as goal

pub returns : goal.returns
returns g c = record {
  under_way = λ n limit x before now first l some_node small k busy. bounded n limit some_node small x before now first l k busy;
  ended = λ n limit x before now first l some_node small k proper. bounded_run n limit some_node small x before now first l k (inr proper);
}
