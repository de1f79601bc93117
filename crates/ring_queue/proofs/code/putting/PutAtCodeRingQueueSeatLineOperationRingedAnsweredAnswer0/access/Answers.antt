use Rattle.std.proofs.Common.{refl, sym, subst}
use Rattle.ring_machine.specs.declared.lines.Back.TheVariants.{ToPut}
use Rattle.running.specs.Code.{IsAccess}
use Rattle.ring_table.specs.Lists.{lists}
use Rattle.ring_table.specs.declared.line.SeatLine.TheVariants.{At}
use Rattle.ring_queue.specs.declared.code.putting.PutAt.{PutAt}
use Rattle.ring_queue.specs.declared.code.putting.PutAt.TheVariants.{Walking}
use Rattle.ring_queue.specs.code.Putting.{put_line, put_slots}
use Rattle.ring_queue.specs.Calls.{machine_of}
use Rattle.ring_queue.specs.code.Walking.{to_back}
use Rattle.ring_queue.proofs.code.putting.PutAtCodeRingQueueSeatLineOperationRingedAnsweredAnswer0.access.Goals as goal

pub returns-in-Walking : goal.returns-in-Walking
returns-in-Walking g c =
    let q = c.args.on.now in
    let shown = c.in-Walking.field-0 in
    subst (λ (s : PutAt g.row.T.Denot). IsAccess (machine_of q).core lists 0 q.table.shared.table_id.words (At (put_line s)) (put_slots s) c.walk_access.result) (sym c.in-Walking.is) (c.walk_access.ensures (to_back (ToPut shown.value)) (put_slots (Walking shown c.in-Walking.at)) refl)
