use denote.Param.Send.{sendable}
use Rattle.ms_queue.proofs.Crossing.{rest_send}
use Rattle.examples.proofs.notes.fn.told_by_thread.fn.scope.spawn_with.Goals as goal

pub put_and_tell-requires-send-C-Rest : goal.put_and_tell-requires-send-C-Rest
put_and_tell-requires-send-C-Rest g c κs within = search (sendable, rest_send) depth 30
