use denote.Param.Send.{sendable}
use Rattle.treiber_stack.proofs.Crossing.{rest_send}
use Rattle.examples.proofs.closing.fn.two_ends.scope.Goals as goal

pub take_and_close-taken-requires-send-C-Rest : goal.take_and_close-taken-requires-send-C-Rest
take_and_close-taken-requires-send-C-Rest g c κs within = search (sendable, rest_send) depth 30
