use Rattle.stack_table.specs.Core.{stack}
use Rattle.step_core.specs.stack.Object.{object, answer}
use Rattle.runs.specs.stack.Bounded.{call_at}
use Rattle.runs.proofs.stack.Stacks.{linearizable}
use Rattle.runs.proofs.OneRun.{one_run}
use Rattle.runs.proofs.stack_laws.one_run.stack_one_run.Goals as goal

pub returns : goal.returns
returns g c n limit some_node small kept r left all = one_run (stack _ n limit) call_at answer (object n limit) kept r left all (linearizable n limit some_node small all.run.acts all.run.allowed)
