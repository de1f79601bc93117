-- What a put does that waits while the container is full.
use Rattle.std.specs.Prelude.{◌≡◌, Bool, true, false, [], ◌∷◌, ◌++◌}
use Rattle.bounded_model.specs.declared.views.PassView.{PassView}
use Rattle.bounded_model.specs.Gathers.{did, put_of}
use Rattle.bounded_model.specs.Machine.{Shape}
use Rattle.examples.specs.Over.{IsOver}

-- the pass has put this value, or the container took no more
abbrev pub PutsOne : {T : Type 0} → Shape → PassView T → T → PassView T → Bool → Type 0
PutsOne c v x w true = did put_of w ≡ did put_of v ++ x ∷ []
PutsOne c v x w false = (did put_of w ≡ did put_of v) × IsOver c w
