use Rattle.std.proofs.Common.{[], sym, subst}
use Rattle.queue_machine.specs.declared.lines.Seeking.TheVariants.{ToGauge}
use Rattle.queue_table.specs.Lists.{lists}
use Rattle.running.specs.Code.{IsAccess}
use Rattle.ms_queue.specs.code.Gauging.{gauge_line}
use Rattle.ms_queue.specs.Calls.{machine_of}
use Rattle.ms_queue.specs.declared.code.gauging.GaugeAt.{GaugeAt}
use Rattle.ms_queue.proofs.code.gauging.GaugeAtCodeQueueLineOperationQueuedAnsweredGauge2.access.Goals as goal

pub returns-in-Seeking : goal.returns-in-Seeking
returns-in-Seeking g c =
    let q = c.args.on.now in
    subst (λ (s : GaugeAt). IsAccess (machine_of q).core lists 2 q.table.shared.table_id.words (gauge_line s) [] c.seek_access.result) (sym c.in-Seeking.is)
    (c.seek_access.ensures ToGauge [])
