use Rattle.std.proofs.Common.{[], sym, subst}
use Rattle.running.specs.Code.{IsAccess}
use Rattle.ring_table.specs.Lists.{lists}
use Rattle.ring_table.specs.declared.line.SeatLine.TheVariants.{At}
use Rattle.ring_queue.specs.declared.code.closing.MarkAt.{MarkAt}
use Rattle.ring_queue.specs.code.Closing.{aim_of, mark_line}
use Rattle.ring_queue.specs.Calls.{machine_of}
use Rattle.ring_queue.proofs.code.closing.MarkAtCodeRingQueueSeatLineOperationRingedAnsweredBool0.access.Goals as goal

pub returns-in-Walking : goal.returns-in-Walking
returns-in-Walking g c =
    let q = c.args.on.now in
    subst (λ (s : MarkAt). IsAccess (machine_of q).core lists 0 q.table.shared.table_id.words (At (mark_line s)) [] c.walk_access.result) (sym c.in-Walking.is) (c.walk_access.ensures (aim_of c.in-Walking.mark) [] c.hint.ensures)
