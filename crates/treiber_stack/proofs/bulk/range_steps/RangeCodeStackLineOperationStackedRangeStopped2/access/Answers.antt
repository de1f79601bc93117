use Rattle.std.proofs.Common.{sym, subst}
use Rattle.running.specs.Code.{IsAccess}
use Rattle.stack_table.specs.Lists.{lists}
use Rattle.treiber_stack.specs.code.Begun.{put_begun}
use Rattle.treiber_stack.specs.code.Ranging.{HasRead, range_line, range_slots, refused}
use Rattle.treiber_stack.specs.Calls.{machine_of}
use Rattle.treiber_stack.specs.declared.bulk.range_steps.RangeAt.{RangeAt}
use Rattle.treiber_stack.proofs.bulk.range_steps.RangeCodeStackLineOperationStackedRangeStopped2.access.Goals as goal

pub returns-in-GiveBack : goal.returns-in-GiveBack
returns-in-GiveBack g c =
    let stack = c.args.on.now in
    let s = c.args.self.now in
    let put = put_begun s.begun in
    subst (λ (at : RangeAt). IsAccess (machine_of stack).core lists 2 stack.table.shared.table_id.words (range_line put at) (range_slots put at) c.give_access.result) (sym c.in-GiveBack.is)
    (c.give_access.ensures (refused put c.in-GiveBack.field-0) (subst (HasRead stack put s.held) c.in-GiveBack.is c.requires))
