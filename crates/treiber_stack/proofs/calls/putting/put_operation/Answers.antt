use Rattle.std.proofs.Common.{ap}
use Rattle.treiber_stack.specs.code.Machine.{put_of}
use Rattle.treiber_stack.proofs.calls.putting.put_operation.Goals as goal

pub returns : goal.returns
returns g c = ap put_of c.of.ensures
