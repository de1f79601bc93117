-- The calls of a history without the moves of hands: a sequential list.
use Rattle.std.specs.Prelude.{◌≡◌, Bool, true, false, List, [], ◌∷◌, filter}
use Rattle.bounded_model.specs.declared.history.Event.{Event}
use Rattle.bounded_model.specs.declared.history.Event.TheVariants.{Hold, Put, Free}
use Rattle.bounded_model.specs.Machine.{Shape, State, state, MayPut, next_put, Needs}

-- a move of hands changes nothing but which cells are in which hand
abbrev pub changes : {T : Type 0} → Event T → Bool
changes (Hold p) = false
changes (Free p k) = false
changes e = true

abbrev pub without_hands : {T : Type 0} → List (Event T) → List (Event T)
without_hands h = filter changes h

-- what an event needs of the list alone: a put needs no cell in hand, and no hand moves
abbrev pub ListNeeds : {T : Type 0} → Shape → State T → Event T → Type 0
ListNeeds c s (Hold p) = ⊥
ListNeeds c s (Free p k) = ⊥
ListNeeds c s (Put p vs n) = (s.closed ≡ false) × MayPut c.order vs × (n ≡ next_put c.order s)
ListNeeds c s e = Needs c s e

-- these events are a run of one sequential list
abbrev pub IsListRun : {T : Type 0} → Shape → List (Event T) → Type 0
IsListRun c [] = Unit {0}
IsListRun c (e ∷ h) = ListNeeds c (state c h) e × IsListRun c h

-- two states hold one list
pub record SameList {T : Type 0} (s t : State T) : Type 0 where
  pub values : s.values ≡ t.values
  pub closed : s.closed ≡ t.closed
  pub shut : s.shut ≡ t.shut
  pub puts : s.puts ≡ t.puts
  pub takes : s.takes ≡ t.takes
