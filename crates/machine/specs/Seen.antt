-- What a pass of a machine with a container's events has seen.
use Rattle.std.specs.Prelude.{◌≡◌, ℕ, List}
use Rattle.bounded_model.specs.declared.history.Event.{Event}
use Rattle.bounded_model.specs.Histories.{Later, own}
use Rattle.machine.specs.Schedule.{Pass}

-- what pass p has seen is an earlier part of the history that has all events of its own
pub record Knows {T L C : Type 0} (p : ℕ) (v : Pass L C (Event T)) (history : List (Event T)) : Type 0 where
  pub before : Later v.begun v.seen
  pub now : Later v.seen history
  pub own_events : own p history ≡ own p v.seen
