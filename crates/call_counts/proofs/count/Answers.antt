use denote.Param.Send.{sendable}
use Rattle.treiber_stack.proofs.Crossing as stack
use Rattle.ms_queue.proofs.Crossing as queue
use Rattle.ring_queue.proofs.Crossing as ring
use Rattle.call_counts.proofs.count.Goals as goal

pub repeat-requires-send-C-Rest : goal.repeat-requires-send-C-Rest
repeat-requires-send-C-Rest g c κs within = search (sendable, stack.rest_send) depth 30

pub repeat-requires-in-Queue-send-C-Op : goal.repeat-requires-in-Queue-send-C-Op
repeat-requires-in-Queue-send-C-Op g c κs within = search (sendable, queue.op_send) depth 30

pub repeat-requires-in-Queue-send-C-Rest : goal.repeat-requires-in-Queue-send-C-Rest
repeat-requires-in-Queue-send-C-Rest g c κs within = search (sendable, queue.rest_send) depth 30

pub repeat-requires-in-Ring-send-C-Rest : goal.repeat-requires-in-Ring-send-C-Rest
repeat-requires-in-Ring-send-C-Rest g c κs within = search (sendable, ring.rest_send) depth 30
