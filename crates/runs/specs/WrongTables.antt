-- Seats that are nearly those of a table: without what the rule says of all seats together, they might be so.
use Rattle.std.specs.Prelude.{ℕ, List, [], ◌∷◌}
use Rattle.bounded_model.specs.declared.history.Event.{Event}
use Rattle.bounded_model.specs.declared.history.Event.TheVariants.{Hold}
use Rattle.machine.specs.declared.seats.View.{View}
use Rattle.machine.specs.Seats.{at_rest}

-- a pass that has seen this history; all lines are alike here
abbrev pub having_seen : ℕ → List (Event ℕ) → View ℕ ℕ
having_seen p h = at_rest 0 (record { number = p; seen = h; steps = 0; answers = [] }) []

-- two passes that have seen different histories
abbrev pub two_histories : List (View ℕ ℕ)
two_histories = having_seen 0 (Hold 0 ∷ []) ∷ having_seen 1 (Hold 1 ∷ []) ∷ []

-- two seats of one pass
abbrev pub one_pass_twice : List (View ℕ ℕ)
one_pass_twice = having_seen 0 [] ∷ having_seen 0 [] ∷ []

-- a pass that has not seen its own event
abbrev pub own_unseen : List (View ℕ ℕ)
own_unseen = having_seen 0 [] ∷ []
