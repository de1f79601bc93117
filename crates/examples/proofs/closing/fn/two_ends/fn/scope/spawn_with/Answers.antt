use denote.Param.Send.{sendable}
use Rattle.treiber_stack.proofs.Crossing.{rest_send}
use Rattle.examples.proofs.closing.fn.two_ends.fn.scope.spawn_with.Goals as goal

pub put_until_closed-requires-send-C-Rest : goal.put_until_closed-requires-send-C-Rest
put_until_closed-requires-send-C-Rest g c κs within = search (sendable, rest_send) depth 30
