use Rattle.std.proofs.Common.{[], refl, sym, subst}
use Rattle.tagged_index.specs.Fields.{fields_of}
use Rattle.ring_machine.specs.declared.lines.Back.TheVariants.{ToCount}
use Rattle.ring_machine.specs.declared.lines.Front.TheVariants.{ToCount as ToCountFrom}
use Rattle.running.specs.Code.{IsAccess}
use Rattle.ring_table.specs.Lists.{lists}
use Rattle.ring_table.specs.declared.line.SeatLine.TheVariants.{At}
use Rattle.ring_queue.specs.declared.code.counting.LenAt.{LenAt}
use Rattle.ring_queue.specs.code.Counting.{len_line}
use Rattle.ring_queue.specs.Calls.{machine_of}
use Rattle.ring_queue.specs.code.Walking.{to_back, to_front}
use Rattle.ring_queue.proofs.code.counting.LenAtCodeRingQueueSeatLineOperationRingedAnsweredU640.access.Goals as goal

pub returns-in-ToFront : goal.returns-in-ToFront
returns-in-ToFront g c =
    let q = c.args.on.now in
    subst (λ (s : LenAt). IsAccess (machine_of q).core lists 0 q.table.shared.table_id.words (At (len_line s)) [] c.walk_access.result) (sym c.in-ToFront.is) (c.walk_access.ensures (to_front ToCountFrom) [] refl)

pub returns-in-ToBack : goal.returns-in-ToBack
returns-in-ToBack g c =
    let q = c.args.on.now in
    subst (λ (s : LenAt). IsAccess (machine_of q).core lists 0 q.table.shared.table_id.words (At (len_line s)) [] c.walk_access-in-ToBack.result) (sym c.in-ToBack.is) (c.walk_access-in-ToBack.ensures (to_back (ToCount (fields_of c.in-ToBack.field-0))) [] refl)
