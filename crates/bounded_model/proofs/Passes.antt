-- How many passes may be out of a container.
use Rattle.std.proofs.Common.{◌≡◌, arith}
use Rattle.bounded_model.specs.declared.container.TheConstants.{MAX_PASSES}
use Rattle.bounded_model.specs.Machine.{Shape}
use Rattle.bounded_model.specs.Laws.{PassesInRange}

-- of a container of which as many may be out as of any
pub most_passes : (c : Shape) → c.passes ≡ MAX_PASSES → PassesInRange c
most_passes c most = record { some = omega (arith, most); few = omega (arith, most) }
