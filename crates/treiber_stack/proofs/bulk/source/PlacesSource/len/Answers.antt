use Rattle.std.proofs.Common.{List, length, ap, ◌∙◌}
use Rattle.std.specs.Prelude.{Option as Slot}
use Rattle.treiber_stack.proofs.Loading.{length_places}
use Rattle.treiber_stack.proofs.bulk.source.PlacesSource.len.Goals as goal

pub returns : goal.returns
returns g c vs k are few = ap (λ (ps : List (Slot _)). length ps) are ∙ length_places k vs few
