use Rattle.runs.proofs.ring.Progress.{steps_so}
use Rattle.runs.proofs.progress.ring.operation_is_bounded.Goals as goal

pub returns : goal.returns
returns g c = steps_so c.args.ring.now c.args.op.now.operation c.args.op.now.pass c.requires.2
