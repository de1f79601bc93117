use Rattle.std.proofs.Common.{[], sym, subst, rules}
use Rattle.queue_machine.specs.declared.lines.Seeking.TheVariants.{ToLink, ToRefuse}
use Rattle.queue_table.specs.Lists.{lists}
use Rattle.running.specs.Code.{IsAccess}
use Rattle.running.specs.declared.access.Access.TheVariants.{Store}
use Rattle.ms_queue.specs.code.Putting.{linking, refused, full_slot, put_line, put_slots}
use Rattle.ms_queue.specs.Calls.{machine_of}
use Rattle.ms_queue.specs.declared.code.putting.PutAt.{PutAt}
use Rattle.ms_queue.proofs.code.putting.PutAtCodeQueueLineOperationQueuedAnsweredAnswer2.access.Goals as goal

pub returns-in-Refusing : goal.returns-in-Refusing
returns-in-Refusing g c =
    let q = c.args.on.now in
    subst (λ (s : PutAt g.row.T.Denot). IsAccess (machine_of q).core lists 2 q.table.shared.table_id.words (put_line s) (put_slots s) c.seek_access.result) (sym c.in-Refusing.is)
    (c.seek_access.ensures (ToRefuse c.in-Refusing.field-0) [])

pub returns-in-Seeking : goal.returns-in-Seeking
returns-in-Seeking g c =
    let q = c.args.on.now in
    let a = c.in-Seeking in
    subst (λ (s : PutAt g.row.T.Denot). IsAccess (machine_of q).core lists 2 q.table.shared.table_id.words (put_line s) (put_slots s) c.seek_access-in-Seeking.result) (sym a.is)
    (c.seek_access-in-Seeking.ensures (ToLink (linking a.field-0.value a.field-1)) (full_slot a.field-0.value a.field-1.cell))

pub returns-in-GiveBack : goal.returns-in-GiveBack
returns-in-GiveBack g c =
    let q = c.args.on.now in
    subst (λ (s : PutAt g.row.T.Denot). IsAccess (machine_of q).core lists 2 q.table.shared.table_id.words (put_line s) (put_slots s) c.give_access.result) (sym c.in-GiveBack.is)
    (c.give_access.ensures (refused c.in-GiveBack.field-0))

pub returns-in-PrepareNext : goal.returns-in-PrepareNext
returns-in-PrepareNext g c =
    let q = c.args.on.now in
    let a = c.in-PrepareNext in
    subst (λ (s : PutAt g.row.T.Denot). IsAccess (machine_of q).core lists 2 q.table.shared.table_id.words (put_line s) (put_slots s) (Store c.next-in-PrepareNext.result c.null_word.result)) (sym a.is)
    (search rules, search rules, λ other. absurd (other a.held.node c.next-in-PrepareNext.ensures))
