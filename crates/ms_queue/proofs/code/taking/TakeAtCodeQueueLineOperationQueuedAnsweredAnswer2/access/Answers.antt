use Rattle.std.proofs.Common.{sym, subst}
use Rattle.queue_table.specs.Lists.{lists}
use Rattle.running.specs.Code.{IsAccess}
use Rattle.ms_queue.specs.Calls.{machine_of}
use Rattle.ms_queue.specs.code.Taking.{took, take_line, take_slots}
use Rattle.ms_queue.specs.declared.code.taking.TakeAt.{TakeAt}
use Rattle.ms_queue.proofs.code.taking.TakeAtCodeQueueLineOperationQueuedAnsweredAnswer2.access.Goals as goal

pub returns-in-GiveBack : goal.returns-in-GiveBack
returns-in-GiveBack g c =
    let q = c.args.on.now in
    subst (λ (s : TakeAt g.row.T.Denot). IsAccess (machine_of q).core lists 2 q.table.shared.table_id.words (take_line s) (take_slots s) c.give_access.result) (sym c.in-GiveBack.is)
    (c.give_access.ensures (took c.in-GiveBack.taken))
