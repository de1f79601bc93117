-- What is left, and a call that is under way, may cross threads, if the values may.
use denote.RattleType.{RattleType}
use denote.Param.Send.{IsSend, sendable}
use denote.Param.SendFields.{as_row_send, declared_send, variants_send}
use denote.Struct.Field.{row_field}
use Rattle.std.proofs.Crossing.{send as heap_send}
use Rattle.atomic_table.proofs.shared.Seat.TheSendSync.{the_send as seat_send}
use Rattle.running.proofs.Crossing.{row_send, lease_send}
use Rattle.running.specs.contracts.op.Op as op
use Rattle.ring_table.specs.contracts.line.SeatLine as line
use Rattle.ring_table.specs.contracts.operation.Operation as operation
use Rattle.ring_queue.specs.contracts.code.walk.Walk as walk
use Rattle.ring_queue.specs.contracts.code.walking.Found as found
use Rattle.ring_queue.specs.contracts.code.every.RingAt as every
use Rattle.ring_queue.specs.contracts.code.closing.MarkAt as mark
use Rattle.ring_queue.specs.contracts.code.looking.LookAt as look
use Rattle.ring_queue.specs.contracts.code.putting.PutAt as put
use Rattle.ring_queue.specs.contracts.life.rest.Rest as rest
use Rattle.ring_queue.specs.contracts.code.taking.TakeAt as take

pub rest_send : (T : RattleType) → IsSend T → IsSend (rest.the_row T)
rest_send T s = search (sendable, row_send, lease_send, heap_send) depth 20

walk_send : IsSend walk.the_row
walk_send = search sendable depth 40

found_send : IsSend found.the_row
found_send = declared_send found.the_type (as_row_send (row_field walk.the_row) walk_send, (search sendable depth 20, tt))

-- state by state, since they are too many for one search
put_at_send : (T : RattleType) → IsSend T → IsSend (put.the_row T)
put_at_send T s = variants_send (put.enum T) (search sendable depth 30, (search sendable depth 30, ((search sendable depth 30, (as_row_send (row_field found.the_row) found_send, tt)), (search sendable depth 30, (search sendable depth 30, tt)))))

take_at_send : (T : RattleType) → IsSend T → IsSend (take.the_row T)
take_at_send T s = variants_send (take.enum T) (search sendable depth 30, ((as_row_send (row_field found.the_row) found_send, tt), (search sendable depth 30, (search sendable depth 30, tt))))

mark_at_send : IsSend mark.the_row
mark_at_send = search sendable depth 30

look_at_send : IsSend look.the_row
look_at_send = search sendable depth 30

-- an operation may cross, if its values and its state may
at_send : (T S : RattleType) → IsSend T → IsSend S → IsSend (op.the_row T (line.the_row T) (operation.the_row T) S)
at_send T S s at = declared_send (op.the_type T (line.the_row T) (operation.the_row T) S) (search (sendable, seat_send) depth 30, (search sendable depth 20, (as_row_send (row_field S) at, tt)))

abbrev of : RattleType → RattleType → RattleType
of T S = op.the_row T (line.the_row T) (operation.the_row T) S

every_send : (T : RattleType) → IsSend T → IsSend (every.the_row T)
every_send T s = variants_send (every.enum T) ((put_at_send T s, tt), ((take_at_send T s, tt), ((as_row_send (row_field mark.the_row) mark_at_send, tt), ((as_row_send (row_field look.the_row) look_at_send, tt), tt))))

-- an operation, whichever call it makes
pub op_send : (T : RattleType) → IsSend T → IsSend (of T (every.the_row T))
op_send T s = at_send T (every.the_row T) s (every_send T s)
