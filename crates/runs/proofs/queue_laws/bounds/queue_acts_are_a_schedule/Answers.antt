use Rattle.queue_machine.specs.Machine.{queue as machine}
use Rattle.queue_machine.specs.Answers.{shape}
use Rattle.queue_table.specs.Core.{queue}
use Rattle.runs.specs.queue.Bounded.{call_at}
use Rattle.runs.proofs.Link.{shows_all}
use Rattle.runs.proofs.queue.Queues.{running, meets}
use Rattle.runs.proofs.queue_laws.bounds.queue_acts_are_a_schedule.Goals as goal

pub returns : goal.returns
returns g c = record {
  shows = λ n limit passes acts low allowed. shows_all (queue _ n limit) (machine (shape n limit)) call_at (running n limit) passes acts low allowed;
  meets = λ n limit passes acts some_cell small some_tag. meets n limit some_cell small some_tag passes acts;
}
