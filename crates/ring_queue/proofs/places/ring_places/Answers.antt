use Rattle.ring_machine.proofs.Places.{nothing_twice}
use Rattle.ring_queue.proofs.places.ring_places.Goals as goal

pub returns : goal.returns
returns g c n laps passes s rule = nothing_twice rule.good
