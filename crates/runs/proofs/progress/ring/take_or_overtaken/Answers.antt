use Rattle.std.proofs.Common.{◌+◌, ap}
use Rattle.ring_queue.specs.code.Taking.{take_account}
use Rattle.ring_queue.specs.code.KeepsAnswers.{take_promises}
use Rattle.ring_queue.specs.Calls.{machine_of}
use Rattle.runs.proofs.Made.{going, some_made}
use Rattle.runs.proofs.ring.ProgressCalls.{ends_or_overtaken, take_tried}
use Rattle.runs.proofs.progress.ring.take_or_overtaken.Goals as goal

pub returns-clause-tried : goal.returns-clause-tried
returns-clause-tried g c =
    let ring = c.args.ring.now in
    let begun = c.begin_take.ensures in
    let op = c.begin_take.result in
    let some = some_made (machine_of ring) (going (machine_of ring) (take_account ring.table.shared.key) ring.table.shared.table_id op begun.makes.under_way) in
    take_tried ring _ (some.0 + 32) op begun.makes (ap (λ u. u.begun) begun.begun) c.step_for.result (c.step_for.ensures some.0 (record { under_way = begun.makes.under_way; made = some.1 }))

pub returns-clause-overtaken : goal.returns-clause-overtaken
returns-clause-overtaken g c =
    let ring = c.args.ring.now in
    let begun = c.begin_take.ensures in
    let op = c.begin_take.result in
    let some = some_made (machine_of ring) (going (machine_of ring) (take_account ring.table.shared.key) ring.table.shared.table_id op begun.makes.under_way) in
    ends_or_overtaken ring (take_account ring.table.shared.key) (take_promises ring.table.shared.key) some.0 op c.step_for.result (c.step_for.ensures some.0 (record { under_way = begun.makes.under_way; made = some.1 }))
