use Rattle.std.proofs.Common.{ℕ, List, Option, subst, sym, ◌∙◌}
use Rattle.std.specs.Prelude.{IsSome}
use Rattle.std.specs.List.{AllByRecursion}
use Rattle.player.proofs.Folding.{all_some}
use Rattle.player.proofs.bulk_ranges.BulkRangesRanges.range.Goals as goal

pub put_range-pass-requires-clause-values : goal.put_range-pass-requires-clause-values
put_range-pass-requires-clause-values g c =
    subst (λ (places : List (Option (List ℕ))). AllByRecursion (λ place. IsSome place) places) (sym (c.deref_mut.ensures.value ∙ c.in_ok-places.ensures)) (all_some c.args.values)
