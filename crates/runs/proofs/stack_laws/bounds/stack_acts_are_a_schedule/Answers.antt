use Rattle.stack_machine.specs.Machine.{stack as machine}
use Rattle.stack_machine.specs.Answers.{shape}
use Rattle.stack_table.specs.Core.{stack}
use Rattle.runs.proofs.Link.{shows_all}
use Rattle.runs.specs.stack.Bounded.{call_at}
use Rattle.runs.proofs.stack.Stacks.{running, meets}
use Rattle.runs.proofs.stack_laws.bounds.stack_acts_are_a_schedule.Goals as goal

pub returns : goal.returns
returns g c = record {
  shows = λ n limit passes acts low allowed. shows_all (stack _ n limit) (machine (shape n limit)) call_at (running n limit) passes acts low allowed;
  meets = λ n limit passes acts some_node small. meets n limit some_node small passes acts;
}
