use Rattle.std.proofs.Common.{◌≡◌, [], refl, subst}
use Rattle.std.specs.Prelude.{Option as Slot, IfSome, MatchOption}
use Rattle.running.specs.Going.{Owes}
use Rattle.running.proofs.Ways.{begun_is}
use Rattle.stack_table.specs.declared.operation.Operation.{Operation}
use Rattle.treiber_stack.specs.declared.bulk.range_steps.RangeAt.TheVariants.{LoadFree}
use Rattle.treiber_stack.specs.Calls.{IsRange, machine_with, pass_in}
use Rattle.treiber_stack.specs.code.RangeTrying.{IsRangeOf}
use Rattle.treiber_stack.proofs.Filling.{fill_start, some_in, wants_node}
use Rattle.treiber_stack.proofs.bulk.range_trying.begin.Goals as goal

pub returns : goal.returns
returns g c vs named =
    let a = c.args in
    let o = c.in-Some.operation in
    let is = subst (λ (p : Slot (Operation _)). MatchOption p (vs ≡ []) (λ o'. IsRange o' vs)) c.in-Some.is named in
    let owes = subst (λ (p : Slot (Operation _)). IfSome p (λ o'. Owes (machine_with g.D.Tie.rule a.on.now) o' (pass_in a.by))) c.in-Some.is c.requires.owes in
    let f = fill_start g.D.Tie.rule g.D.Tie.is_tie a.on.now o vs a.by.pass c.of.result c.of.ensures is c.requires.pass.on owes in
    let some_value = some_in o vs is in
    let at : IsRangeOf g.D.Tie.rule a.on.now o a.by.pass vs _ LoadFree = record { chain = f.chain; has = f.has; is = wants_node g.D.Tie.rule a.on.now o vs a.by.pass (record { chain = c.of.result; count = 0 }) f some_value; wants = λ e. some_value } in
    ((record { of = is; at = at }, begun_is (machine_with g.D.Tie.rule a.on.now) a.on.now.table.shared.table_id a.by.pass c.requires.pass.on), refl, refl)
