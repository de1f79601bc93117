use Rattle.std.proofs.Common.{ap}
use Rattle.ring_table.specs.Lines.{call_of}
use Rattle.ring_queue.specs.code.Machine.{put_of}
use Rattle.ring_queue.proofs.calls.putting.put_operation.Goals as goal

pub returns : goal.returns
returns g c = let e = ap put_of c.of.ensures in (e, ap call_of e)
