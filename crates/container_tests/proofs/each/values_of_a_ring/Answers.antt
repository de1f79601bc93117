use denote.Param.Send.{sendable}
use Rattle.std.proofs.Crossing.{Arc-send}
use Rattle.ring_queue.proofs.Crossing.{rest_send, op_send}
use Rattle.container_tests.proofs.each.values_of_a_ring.Goals as goal

pub test_values-requires-send-C-Op : goal.test_values-requires-send-C-Op
test_values-requires-send-C-Op g c κs = search (sendable, op_send, Arc-send) depth 30

pub test_values-requires-send-C-Rest : goal.test_values-requires-send-C-Rest
test_values-requires-send-C-Rest g c κs = search (sendable, rest_send, Arc-send) depth 30
