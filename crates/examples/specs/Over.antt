-- When a container takes no more values.
use Rattle.std.specs.Prelude.{◌⊎◌, List}
use Rattle.bounded_model.specs.declared.history.Event.{Event}
use Rattle.bounded_model.specs.declared.views.PassView.{PassView}
use Rattle.bounded_model.specs.Histories.{Later}
use Rattle.bounded_model.specs.Justified.{IsClosed, IsWorn}
use Rattle.bounded_model.specs.Machine.{Shape}

-- the pass has seen a time at which the container took no more: it was closed, or worn
pub record IsOver {T : Type 0} (c : Shape) (w : PassView T) : Type 0 where
  pub at : List (Event T)
  pub until : Later at w.seen
  pub holds : IsClosed c at ⊎ IsWorn c at
