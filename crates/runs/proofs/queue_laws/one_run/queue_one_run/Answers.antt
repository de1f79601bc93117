use Rattle.queue_table.specs.Core.{queue}
use Rattle.step_core.specs.queue.Object.{object, answer}
use Rattle.runs.specs.queue.Bounded.{call_at}
use Rattle.runs.proofs.queue.Queues.{linearizable}
use Rattle.runs.proofs.OneRun.{one_run}
use Rattle.runs.proofs.queue_laws.one_run.queue_one_run.Goals as goal

pub returns : goal.returns
returns g c n limit some_cell small some_tag kept r left all = one_run (queue _ n limit) call_at answer (object n limit) kept r left all (linearizable n limit some_cell small some_tag all.run.acts all.run.allowed)
