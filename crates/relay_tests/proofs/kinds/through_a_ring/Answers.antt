-- What is left may go to another thread.
use denote.Param.Send.{IsSend, sendable}
use Rattle.std.proofs.Crossing.{Vec-send}
use Rattle.relay.specs.contracts.messages.Message as message
use Rattle.ring_queue.proofs.Crossing.{rest_send}
use Rattle.relay_tests.proofs.kinds.through_a_ring.Goals as goal

message_send : IsSend message.the_row
message_send = search (sendable, Vec-send) depth 20

pub run-requires-send-C-Rest : goal.run-requires-send-C-Rest
run-requires-send-C-Rest g c κs within = search (sendable, rest_send, message_send) depth 30
