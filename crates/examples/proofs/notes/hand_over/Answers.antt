use denote.Param.Send.{sendable}
use Rattle.ms_queue.proofs.Crossing.{rest_send}
use Rattle.examples.proofs.notes.hand_over.Goals as goal

pub take_as_told-taken-requires-send-C-Rest : goal.take_as_told-taken-requires-send-C-Rest
take_as_told-taken-requires-send-C-Rest g c κs within = search (sendable, rest_send) depth 30
