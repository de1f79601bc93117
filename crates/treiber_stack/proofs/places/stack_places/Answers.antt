use Rattle.stack_machine.proofs.Places.{no_node_twice}
use Rattle.treiber_stack.proofs.places.stack_places.Goals as goal

pub returns : goal.returns
returns g c n limit s rule = no_node_twice rule.good.good
