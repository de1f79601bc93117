use Rattle.runs.proofs.stack.Progress.{steps_so}
use Rattle.runs.proofs.progress.stack.operation_is_bounded.Goals as goal

pub returns : goal.returns
returns g c = steps_so c.args.stack.now c.args.op.now.operation c.args.op.now.pass c.requires.2
