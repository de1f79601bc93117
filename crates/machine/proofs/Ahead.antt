-- What has happened since a pass last looked.
use Rattle.std.proofs.Common.{◌≡◌, ℕ, List, [], ◌++◌}
use Rattle.bounded_model.specs.declared.history.Event.{Event}
use Rattle.bounded_model.specs.Histories.{own}

-- the history by now is what pass p has seen with events of others on top
pub record Ahead {T : Type 0} (p : ℕ) (seen h : List (Event T)) : Type 0 where
  pub rest : List (Event T)
  pub is : h ≡ rest ++ seen
  pub none_own : own p rest ≡ []
