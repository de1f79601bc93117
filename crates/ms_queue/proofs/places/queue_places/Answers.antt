use Rattle.queue_machine.proofs.Places.{nothing_twice}
use Rattle.ms_queue.proofs.places.queue_places.Goals as goal

pub returns : goal.returns
returns g c n limit s rule = nothing_twice rule.good.good
