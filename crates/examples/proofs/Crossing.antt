-- A buffer may cross threads.
use denote.Param.Send.{IsSend, sendable}
use Rattle.std.proofs.Crossing.{Vec-send}
use Rattle.examples.specs.contracts.buffers.Buffer as buffer

pub buffer_send : IsSend buffer.the_row
buffer_send = search (sendable, Vec-send) depth 30
