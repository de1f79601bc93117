use Rattle.std.proofs.Common.{◌+◌, ap}
use Rattle.ms_queue.specs.code.Putting.{put_account}
use Rattle.ms_queue.specs.Calls.{machine_of}
use Rattle.ms_queue.specs.code.KeepsAnswers.{put_promises}
use Rattle.runs.proofs.Made.{going, some_made}
use Rattle.runs.proofs.queue.ProgressCalls.{ends_or_overtaken, put_tried}
use Rattle.runs.proofs.progress.queue.put_or_overtaken.Goals as goal

pub returns-clause-tried : goal.returns-clause-tried
returns-clause-tried g c =
    let q = c.args.queue.now in
    let begun = c.begin_put.ensures in
    let op = c.begin_put.result in
    let some = some_made (machine_of q) (going (machine_of q) (put_account q.table.shared.key) q.table.shared.table_id op begun.makes.under_way) in
    put_tried q c.args.value _ (some.0 + 21) op begun.makes (ap (λ u. u.begun) begun.begun) c.step_for.result (c.step_for.ensures some.0 (record { under_way = begun.makes.under_way; made = some.1 }))

pub returns-clause-overtaken : goal.returns-clause-overtaken
returns-clause-overtaken g c =
    let q = c.args.queue.now in
    let begun = c.begin_put.ensures in
    let op = c.begin_put.result in
    let some = some_made (machine_of q) (going (machine_of q) (put_account q.table.shared.key) q.table.shared.table_id op begun.makes.under_way) in
    ends_or_overtaken q (put_account q.table.shared.key) (put_promises q.table.shared.key) some.0 op c.step_for.result (c.step_for.ensures some.0 (record { under_way = begun.makes.under_way; made = some.1 }))
