use Rattle.std.proofs.Common.{◌≡◌, List, ◌∷◌, ap, ◌∙◌, subst}
use Rattle.std.specs.Prelude.{Option as Slot, Some, IsSome}
use Rattle.std.specs.List.{AllByRecursion as Every}
use Rattle.bounded_model.specs.Bulk.{somes}
use Rattle.stack_machine.specs.declared.lines.Call.TheVariants.{Put as CallPut}
use Rattle.treiber_stack.proofs.Loading.{all_values, somes_all}
use Rattle.treiber_stack.proofs.bulk.source.put_of_places.Goals as goal

pub returns : goal.returns
returns g c =
    let others = c.in_ok-first.others.now in
    let whole : c.args.values.now ≡ Some c.in-Some.value ∷ others = c.in_ok-first.ensures.cases.0 ∙ ap (λ (place : Slot _). place ∷ others) c.in-Some.is in
    let every = subst (λ (places : List (Slot _)). Every (λ place. IsSome place) places) whole c.requires in
    let all = all_values others every.1 in
    let listing = c.of-in-Some.ensures ∙ ap (λ (places : List (Slot _)). somes places) all.1 ∙ somes_all all.0 in
    (c.in-Some.value ∷ all.0, whole ∙ ap (λ (places : List (Slot _)). Some c.in-Some.value ∷ places) all.1, λ t. CallPut (c.of.ensures t) (listing t))
