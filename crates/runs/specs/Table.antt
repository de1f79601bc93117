-- What any table of a container says as a whole: its history is one legal history, and all its seats have seen parts of it.
use Rattle.std.specs.Prelude.{◌≡◌, ◌≢◌, ℕ, ◌+◌, ◌≤◌, ◌⊎◌, List, [], ◌∷◌, ◌++◌, length, IsPermutation}
use mathlib.Core.Option.{some}
use lib.ListN.{get_elem?}
use Rattle.bounded_model.specs.declared.history.Event.{Event}
use Rattle.bounded_model.specs.declared.views.PassView.{PassView}
use Rattle.bounded_model.specs.Machine.{Shape, state, Legal}
use Rattle.bounded_model.specs.Histories.{Later}
use Rattle.bounded_model.specs.Justified.{IsClosed, IsShut}
use Rattle.bounded_model.specs.Gathers.{gather, put_of, sent_of, took_of, number_of, values_of, Counts}
use Rattle.bounded_model.specs.Latest.{IsLatest}
use Rattle.machine.specs.declared.seats.Begun.{Begun}
use Rattle.machine.specs.declared.seats.View.{View}
use Rattle.machine.specs.declared.seats.View.TheVariants.{AtPass}
use Rattle.machine.specs.Seats.{Acts, Saw, Knows}
use Rattle.running.specs.Machine.{Names, Core}
use Rattle.running.specs.Acts.{AllProper, HasDone, played}

-- at no time of a history has a pass more than this number of cells in hand
abbrev pub HoldAtMost : {T : Type 0} → Shape → ℕ → List (Event T) → Type 0
HoldAtMost {T} c few h = (more older : List (Event T)) → h ≡ more ++ older → (p : ℕ) → (state c older).hand p ≤ few

module _ {T : Type 0} (c : Shape) (h : List (Event T)) where
  -- What holds of a legal history of either order. Up to the order, the values that were put are those taken and those that the container
  -- holds. No put follows the close, and no take or fold the shut. The values and the cells in hand are no more than the capacity
  pub record IsHistory : Type 0 where
    pub legal : Legal c h
    pub none_lost : IsPermutation (gather put_of h) (values_of (gather took_of h) ++ (state c h).values)
    pub closed : (more older : List (Event T)) → h ≡ more ++ older → IsClosed c older → gather put_of more ≡ []
    pub shut : (more older : List (Event T)) → h ≡ more ++ older → IsShut c older → gather took_of more ≡ []
    pub room : length (state c h).values + (state c h).held ≤ c.capacity

  -- First in, first out. The values that were put are, in order, those that were taken and then those that the queue holds. Puts are numbered
  -- 0, 1, 2, .., and so are takes: each value is taken once, by the take that has the number of its put
  pub record IsQueueHistory : Type 0 where
    pub is : IsHistory
    pub values : values_of (gather sent_of h) ≡ values_of (gather took_of h) ++ (state c h).values
    pub puts : Counts (λ m. m.number) 0 (gather sent_of h)
    pub takes : Counts (λ m. m.number) 0 (gather took_of h)

  -- Last in, first out. What a take gave was the value of the latest put that had not been taken. Puts, takes and folds are numbered 0, 1, 2, ..
  -- together
  pub record IsStackHistory : Type 0 where
    pub is : IsHistory
    pub values : (newer : List (Event T)) (e : Event T) (older : List (Event T)) → h ≡ newer ++ e ∷ older → (first : List T) (v : T) (last : List T) → values_of (took_of e) ≡ first ++ v ∷ last → IsLatest v (length first) older
    pub numbers : Counts (λ k. k) 0 (gather number_of h)

-- What the passes of a table have seen are parts of one history. Each pass has seen its own events in it (`Saw`), no two seats are of one pass,
-- and of two passes one has seen all that the other has, in the same order. What else a seat is, it too knows a part of that history
-- (`Knows`): the root, two passes that meet, and a note
pub record OneHistory {T L : Type 0} (h : List (Event T)) (views : List (View T L)) : Type 0 where
  pub passes : (j : ℕ) (p : PassView T) (b : Begun T L) (l : L) → get_elem? views j ≡ some (AtPass p b l) → Saw h p
  pub apart : (j k : ℕ) (p q : PassView T) (b c : Begun T L) (l m : L) → j ≢ k → get_elem? views j ≡ some (AtPass p b l) → get_elem? views k ≡ some (AtPass q c m) → p.number ≢ q.number
  pub in_one_order : (j k : ℕ) (p q : PassView T) (b c : Begun T L) (l m : L) → get_elem? views j ≡ some (AtPass p b l) → get_elem? views k ≡ some (AtPass q c m) → Later p.seen q.seen ⊎ Later q.seen p.seen
  pub seats : (j : ℕ) (v : View T L) → get_elem? views j ≡ some v → Knows h v

-- These acts led to the table: each of them does something, they have made its memory and its history, and each of its passes has made the steps
-- and got the answers in them that its view has
pub record LedTo {T L O : Type 0} (names : Names L O) (c : Core T L O) (acts : Acts L) (memory : c.Memory) (h : List (Event T)) (views : List (View T L)) : Type 0 where
  pub proper : AllProper names c acts
  pub memory_is : (played names c acts).memory ≡ memory
  pub history_is : (played names c acts).history ≡ h
  pub passes : (j : ℕ) (p : PassView T) (b : Begun T L) (l : L) → get_elem? views j ≡ some (AtPass p b l) → HasDone names c acts p.number p.steps p.answers
