use denote.Param.Send.{sendable}
use Rattle.treiber_stack.proofs.Crossing.{rest_send, op_send}
use Rattle.container_tests.proofs.each.numbers_of_a_stack.Goals as goal

pub test_bulk_numbers-requires-send-C-Op : goal.test_bulk_numbers-requires-send-C-Op
test_bulk_numbers-requires-send-C-Op g c κs = search (sendable, op_send) depth 30

pub test_bulk_numbers-requires-send-C-Rest : goal.test_bulk_numbers-requires-send-C-Rest
test_bulk_numbers-requires-send-C-Rest g c κs = search (sendable, rest_send) depth 30
