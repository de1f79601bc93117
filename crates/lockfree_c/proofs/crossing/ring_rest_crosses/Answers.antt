use denote.Param.Send.{sendable, param_send}
use Rattle.ring_queue.proofs.Crossing.{rest_send}
use Rattle.lockfree_c.proofs.crossing.ring_rest_crosses.Goals as goal
use Rattle.lockfree_c.proofs.crossing.ring_rest_crosses.Lts.{arg-0-0}

pub crosses-requires-send-T : goal.crosses-requires-send-T
crosses-requires-send-T c κs = param_send _ (arg-0-0 κs) (search (sendable, rest_send) depth 30)
