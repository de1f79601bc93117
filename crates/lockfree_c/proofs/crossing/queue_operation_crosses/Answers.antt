use denote.Param.Send.{sendable, param_send}
use Rattle.ms_queue.proofs.Crossing.{op_send}
use Rattle.lockfree_c.proofs.crossing.queue_operation_crosses.Goals as goal
use Rattle.lockfree_c.proofs.crossing.queue_operation_crosses.Lts.{arg-0-0}

pub crosses-requires-send-T : goal.crosses-requires-send-T
crosses-requires-send-T c κs = param_send _ (arg-0-0 κs) (search (sendable, op_send) depth 30)
