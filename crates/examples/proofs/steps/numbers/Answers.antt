use denote.Param.Send.{sendable}
use Rattle.ms_queue.proofs.Crossing.{rest_send, op_send}
use Rattle.examples.proofs.steps.numbers.Goals as goal

pub call_by_steps-requires-send-C-Rest : goal.call_by_steps-requires-send-C-Rest
call_by_steps-requires-send-C-Rest g c κs = search (sendable, rest_send) depth 30

pub call_by_steps-requires-send-C-Op : goal.call_by_steps-requires-send-C-Op
call_by_steps-requires-send-C-Op g c κs = search (sendable, op_send) depth 30

pub call_by_steps-requires-2-send-C-Rest : goal.call_by_steps-requires-2-send-C-Rest
call_by_steps-requires-2-send-C-Rest g c κs = search (sendable, rest_send) depth 30

pub call_by_steps-requires-2-send-C-Op : goal.call_by_steps-requires-2-send-C-Op
call_by_steps-requires-2-send-C-Op g c κs = search (sendable, op_send) depth 30
