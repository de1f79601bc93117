use Rattle.std.proofs.Common.{ap}
use Rattle.queue_table.specs.Lines.{call_of}
use Rattle.ms_queue.specs.code.Machine.{put_of}
use Rattle.ms_queue.proofs.calls.putting.put_operation.Goals as goal

pub returns : goal.returns
returns g c = let e = ap put_of c.of.ensures in (e, ap call_of e)
