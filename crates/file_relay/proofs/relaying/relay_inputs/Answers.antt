use denote.Param.Send.{IsSend, sendable}
use Rattle.relay.specs.contracts.messages.Message as message
use Rattle.std.proofs.Crossing.{Vec-send}
use Rattle.ms_queue.proofs.Crossing.{rest_send as queue_rest}
use Rattle.treiber_stack.proofs.Crossing.{rest_send}
use Rattle.ring_queue.proofs.Crossing.{rest_send as ring_rest}
use Rattle.file_relay.proofs.relaying.relay_inputs.Goals as goal

message_send : IsSend message.the_row
message_send = search (sendable, Vec-send) depth 20

pub relay_through-requires-send-C-Rest : goal.relay_through-requires-send-C-Rest
relay_through-requires-send-C-Rest g c κs within = search (sendable, queue_rest, message_send) depth 30

pub relay_through-requires-in-Stack-send-C-Rest : goal.relay_through-requires-in-Stack-send-C-Rest
relay_through-requires-in-Stack-send-C-Rest g c κs within = search (sendable, rest_send, message_send) depth 30

pub relay_through-requires-in-Ring-send-C-Rest : goal.relay_through-requires-in-Ring-send-C-Rest
relay_through-requires-in-Ring-send-C-Rest g c κs within = search (sendable, ring_rest, message_send) depth 30
