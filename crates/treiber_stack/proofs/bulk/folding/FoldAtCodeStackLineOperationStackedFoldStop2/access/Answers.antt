use Rattle.std.proofs.Common.{refl, sym, subst, arith}
use mathlib.Core.Option.{some}
use Rattle.tagged_index.specs.Fields.{fields_of}
use Rattle.index_list.specs.Kinds.{exchange}
use Rattle.index_list.specs.declared.change.Change.TheVariants.{TakeAll}
use Rattle.running.specs.Code.{IsAccess}
use Rattle.running.specs.declared.access.Access.TheVariants.{TakeAll as AccessTakeAll}
use Rattle.stack_table.specs.Lists.{lists}
use Rattle.stack_table.proofs.Hosts.{front_is}
use Rattle.treiber_stack.specs.code.Folding.{nodes_of, folding, fold_line, fold_slots, HasReadToFold}
use Rattle.treiber_stack.specs.Calls.{room_of, limit_of, machine_of}
use Rattle.treiber_stack.specs.declared.bulk.folding.FoldAt.{FoldAt}
use Rattle.treiber_stack.proofs.bulk.folding.FoldAtCodeStackLineOperationStackedFoldStop2.access.Goals as goal

pub returns-in-TakeAll : goal.returns-in-TakeAll
returns-in-TakeAll g c =
    let stack = c.args.on.now in
    let a = c.in-TakeAll in
    let low = (subst (HasReadToFold (room_of stack) (limit_of stack)) a.is c.requires).1 in
    let highest = stack.table.shared.key.tag_limit_in_range in
    let words = stack.words in
    subst (λ (s : FoldAt g.row.T.Denot). IsAccess (machine_of stack).core lists 2 stack.table.shared.table_id.words (fold_line s) (fold_slots s) (AccessTakeAll 1 a.top a.front)) (sym a.is)
    ((omega arith, (λ y. some (1, exchange (fields_of a.top) (TakeAll (front_is a.front y)))), refl), omega arith, refl, omega arith)

pub returns-in-GiveBack : goal.returns-in-GiveBack
returns-in-GiveBack g c =
    let stack = c.args.on.now in
    let a = c.in-GiveBack in
    let knows = subst (HasReadToFold (room_of stack) (limit_of stack)) a.is c.requires in
    subst (λ (s : FoldAt g.row.T.Denot). IsAccess (machine_of stack).core lists 2 stack.table.shared.table_id.words (fold_line s) (fold_slots s) c.give_access.result) (sym a.is)
    (c.give_access.ensures (folding a.field-0 (nodes_of a.field-0)) knows.1)
