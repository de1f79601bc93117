use denote.Param.Send.{sendable}
use Rattle.treiber_stack.proofs.Crossing.{rest_send}
use Rattle.examples.proofs.stack.show.Goals as goal

pub consume_one-second-requires-send-C-Rest : goal.consume_one-second-requires-send-C-Rest
consume_one-second-requires-send-C-Rest g c κs within = search (sendable, rest_send) depth 30
