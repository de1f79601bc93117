use denote.Param.Send.{sendable}
use Rattle.ring_queue.proofs.Crossing.{rest_send, op_send}
use Rattle.container_tests.proofs.each.numbers_of_a_ring.Goals as goal

pub test_numbers-requires-send-C-Op : goal.test_numbers-requires-send-C-Op
test_numbers-requires-send-C-Op g c κs = search (sendable, op_send) depth 30

pub test_numbers-requires-send-C-Rest : goal.test_numbers-requires-send-C-Rest
test_numbers-requires-send-C-Rest g c κs = search (sendable, rest_send) depth 30
