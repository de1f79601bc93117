use denote.Param.Send.{sendable}
use Rattle.treiber_stack.proofs.Crossing.{rest_send}
use Rattle.examples.proofs.Crossing.{buffer_send}
use Rattle.examples.proofs.buffers.fn.use_at_once.fn.scope.spawn.Goals as goal

pub use_pool-requires-send-C-Rest : goal.use_pool-requires-send-C-Rest
use_pool-requires-send-C-Rest g c κs within = search (sendable, rest_send, buffer_send) depth 30
