use Rattle.std.proofs.Common.{sym, subst}
use Rattle.running.specs.Code.{IsAccess}
use Rattle.stack_table.specs.Lists.{lists}
use Rattle.treiber_stack.specs.Calls.{room_of, limit_of, machine_of}
use Rattle.treiber_stack.specs.code.Putting.{refusing, put_line, put_slots, HasReadToPut}
use Rattle.treiber_stack.specs.declared.code.putting.PutAt.{PutAt}
use Rattle.treiber_stack.proofs.Gives.{one_node}
use Rattle.treiber_stack.proofs.code.putting.PutAtCodeStackLineOperationStackedAnsweredAnswer2.access.Goals as goal

pub returns-in-GiveBack : goal.returns-in-GiveBack
returns-in-GiveBack g c =
    let stack = c.args.on.now in
    let a = c.in-GiveBack in
    let low = subst (HasReadToPut (room_of stack) (limit_of stack)) a.is c.requires in
    subst (λ (s : PutAt g.row.T.Denot). IsAccess (machine_of stack).core lists 2 stack.table.shared.table_id.words (put_line s) (put_slots s) c.give_access.result) (sym a.is)
    (c.give_access.ensures (refusing a.field-0 a.index) (one_node (room_of stack) a.index c.of.result c.of.ensures low))
