-- What is left may cross threads, where the values may, and so may a call that is under way.
use denote.RattleType.{RattleType}
use denote.Param.Send.{IsSend, sendable}
use denote.Param.SendFields.{as_row_send, declared_send, variants_send}
use denote.Struct.Field.{row_field}
use Rattle.std.proofs.Crossing.{send as heap_send}
use Rattle.atomic_table.proofs.shared.Seat.TheSendSync.{the_send as seat_send}
use Rattle.running.proofs.Crossing.{row_send, lease_send}
use Rattle.running.specs.contracts.op.Op as op
use Rattle.queue_machine.specs.contracts.lines.Line as line
use Rattle.queue_table.specs.contracts.operation.Operation as operation
use Rattle.ms_queue.specs.contracts.code.every.QueueAt as every
use Rattle.ms_queue.specs.contracts.code.putting.PutAt as put_at
use Rattle.ms_queue.specs.contracts.life.rest.Rest as rest
use Rattle.ms_queue.specs.contracts.code.taking.TakeAt as take_at

pub rest_send : (T : RattleType) → IsSend T → IsSend (rest.the_row T)
rest_send T s = search (sendable, row_send, lease_send, heap_send) depth 20

-- field by field, since a put and a take have too many states for one search
pub put_at_send : (T : RattleType) → IsSend T → IsSend (put_at.the_row T)
put_at_send T s = variants_send (put_at.enum T) (search sendable depth 30, (search sendable depth 30, (search sendable depth 30, (search sendable depth 30, (search sendable depth 30, (search sendable depth 30, (search sendable depth 30, (search sendable depth 30, (search sendable depth 30, (search sendable depth 30, (search sendable depth 30, (search sendable depth 30, (search sendable depth 30, (search sendable depth 30, tt))))))))))))))

pub take_at_send : (T : RattleType) → IsSend T → IsSend (take_at.the_row T)
take_at_send T s = variants_send (take_at.enum T) (search sendable depth 30, (search sendable depth 30, (search sendable depth 30, (search sendable depth 30, (search sendable depth 30, (search sendable depth 30, (search sendable depth 30, (search sendable depth 30, tt))))))))

-- an operation with these states
abbrev op_in : RattleType → RattleType → RattleType
op_in T A = op.the_row T (line.the_row T) (operation.the_row T) A

in_send : (T A : RattleType) → IsSend T → IsSend A → IsSend (op_in T A)
in_send T A s a = declared_send (op.the_type T (line.the_row T) (operation.the_row T) A) (search (sendable, seat_send) depth 30, (search sendable depth 20, (as_row_send (row_field A) a, tt)))

every_send : (T : RattleType) → IsSend T → IsSend (every.the_row T)
every_send T s = variants_send (every.enum T) (
  (put_at_send T s, tt),
  (
    (take_at_send T s, tt),
    (search sendable depth 30, (search sendable depth 30, (search sendable depth 30, tt))),
  ),
)

-- an operation, whichever call it makes
pub op_send : (T : RattleType) → IsSend T → IsSend (op_in T (every.the_row T))
op_send T s = in_send T (every.the_row T) s (every_send T s)
