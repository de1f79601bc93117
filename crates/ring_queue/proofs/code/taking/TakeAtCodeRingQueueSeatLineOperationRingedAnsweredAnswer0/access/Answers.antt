use Rattle.std.proofs.Common.{[], refl, sym, subst}
use Rattle.ring_machine.specs.declared.lines.Front.TheVariants.{ToTake}
use Rattle.running.specs.Code.{IsAccess}
use Rattle.ring_table.specs.Lists.{lists}
use Rattle.ring_table.specs.declared.line.SeatLine.TheVariants.{At}
use Rattle.ring_queue.specs.declared.code.taking.TakeAt.{TakeAt}
use Rattle.ring_queue.specs.Calls.{room_of, machine_of}
use Rattle.ring_queue.specs.code.Taking.{take_line, take_slots}
use Rattle.ring_queue.specs.code.Walking.{to_front}
use Rattle.ring_queue.proofs.code.taking.TakeAtCodeRingQueueSeatLineOperationRingedAnsweredAnswer0.access.Goals as goal

pub returns-in-Walking : goal.returns-in-Walking
returns-in-Walking g c =
    let q = c.args.on.now in
    subst (λ (s : TakeAt g.row.T.Denot). IsAccess (machine_of q).core lists 0 q.table.shared.table_id.words (At (take_line (room_of q) s)) (take_slots s) c.walk_access.result) (sym c.in-Walking.is) (c.walk_access.ensures (to_front ToTake) [] refl)
