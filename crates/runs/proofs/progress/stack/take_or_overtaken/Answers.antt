use Rattle.std.proofs.Common.{◌+◌, ap, sym, subst}
use Rattle.stack_table.specs.declared.operation.Operation.{Operation}
use Rattle.stack_table.specs.Lines.{first_line}
use Rattle.step_core.specs.stack.Bound.{IsSingle}
use Rattle.treiber_stack.specs.code.Taking.{take_account}
use Rattle.treiber_stack.specs.Calls.{machine_of}
use Rattle.treiber_stack.specs.code.KeepsAnswers.{take_promises}
use Rattle.runs.proofs.Made.{going, some_made}
use Rattle.runs.proofs.stack.ProgressCalls.{ends_or_overtaken, take_tried}
use Rattle.runs.proofs.progress.stack.take_or_overtaken.Goals as goal

pub returns-clause-tried : goal.returns-clause-tried
returns-clause-tried g c =
    let q = c.args.stack.now in
    let begun = c.begin_take.ensures in
    let op = c.begin_take.result in
    let some = some_made (machine_of q) (going (machine_of q) (take_account q.table.shared.key) q.table.shared.table_id op begun.makes.under_way) in
    take_tried q _ (some.0 + 10) op begun.makes (ap (λ u. u.begun) begun.begun) c.step_for.result (c.step_for.ensures some.0 (record { under_way = begun.makes.under_way; made = some.1 }))

pub returns-clause-overtaken : goal.returns-clause-overtaken
returns-clause-overtaken g c =
    let q = c.args.stack.now in
    let begun = c.begin_take.ensures in
    let op = c.begin_take.result in
    let some = some_made (machine_of q) (going (machine_of q) (take_account q.table.shared.key) q.table.shared.table_id op begun.makes.under_way) in
    ends_or_overtaken q (take_account q.table.shared.key) (take_promises q.table.shared.key) some.0 op (subst (λ (o : Operation _). IsSingle (first_line o)) (sym begun.makes.call) tt) c.step_for.result (c.step_for.ensures some.0 (record { under_way = begun.makes.under_way; made = some.1 }))
