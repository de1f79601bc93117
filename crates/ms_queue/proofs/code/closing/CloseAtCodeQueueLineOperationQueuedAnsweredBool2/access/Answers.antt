use Rattle.std.proofs.Common.{[], sym, subst}
use Rattle.queue_machine.specs.declared.lines.Seeking.TheVariants.{ToClose}
use Rattle.queue_table.specs.Lists.{lists}
use Rattle.running.specs.Code.{IsAccess}
use Rattle.ms_queue.specs.code.Closing.{close_line}
use Rattle.ms_queue.specs.Calls.{machine_of}
use Rattle.ms_queue.specs.declared.code.closing.CloseAt.{CloseAt}
use Rattle.ms_queue.proofs.code.closing.CloseAtCodeQueueLineOperationQueuedAnsweredBool2.access.Goals as goal

pub returns-in-Seeking : goal.returns-in-Seeking
returns-in-Seeking g c =
    let q = c.args.on.now in
    subst (λ (s : CloseAt). IsAccess (machine_of q).core lists 2 q.table.shared.table_id.words (close_line s) [] c.seek_access.result) (sym c.in-Seeking.is)
    (c.seek_access.ensures ToClose [])
