use Rattle.ring_queue.specs.Calls.{machine_of}
use Rattle.runs.proofs.ring.Progress.{overtaken_seen}
use Rattle.runs.proofs.Made.{going}
use Rattle.runs.proofs.progress.ring.call_is_overtaken.Goals as goal

pub returns : goal.returns
returns g c = overtaken_seen c.args.ring.now c.args.op.now.operation c.args.op.now.pass (going (machine_of c.args.ring.now) _ _ c.args.op.now c.requires.1.under_way)
