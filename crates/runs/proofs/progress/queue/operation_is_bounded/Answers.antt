use Rattle.runs.proofs.queue.Progress.{steps_so}
use Rattle.runs.proofs.progress.queue.operation_is_bounded.Goals as goal

pub returns : goal.returns
returns g c = steps_so c.args.queue.now c.args.op.now.operation c.args.op.now.pass c.requires.2
