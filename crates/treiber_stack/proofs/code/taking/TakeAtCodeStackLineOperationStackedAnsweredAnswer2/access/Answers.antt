use Rattle.std.proofs.Common.{sym, subst}
use Rattle.running.specs.Code.{IsAccess}
use Rattle.stack_table.specs.Lists.{lists}
use Rattle.treiber_stack.specs.Calls.{room_of, limit_of, machine_of}
use Rattle.treiber_stack.specs.code.Taking.{giving, take_line, take_slots, HasReadToTake}
use Rattle.treiber_stack.specs.declared.code.taking.TakeAt.{TakeAt}
use Rattle.treiber_stack.proofs.Gives.{one_node}
use Rattle.treiber_stack.proofs.code.taking.TakeAtCodeStackLineOperationStackedAnsweredAnswer2.access.Goals as goal

pub returns-in-GiveBack : goal.returns-in-GiveBack
returns-in-GiveBack g c =
    let stack = c.args.on.now in
    let t = c.in-GiveBack.taken in
    let low = subst (HasReadToTake (room_of stack) (limit_of stack)) c.in-GiveBack.is c.requires in
    subst (λ (s : TakeAt g.row.T.Denot). IsAccess (machine_of stack).core lists 2 stack.table.shared.table_id.words (take_line s) (take_slots s) c.give_access.result) (sym c.in-GiveBack.is)
    (c.give_access.ensures (giving t) (one_node (room_of stack) t.index c.of.result c.of.ensures low))
