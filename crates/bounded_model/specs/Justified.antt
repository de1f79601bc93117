-- When an answer that changes nothing is justified: the container was as the answer says at some
-- time since the pass's last step before the call.
use Rattle.std.specs.Prelude.{◌≡◌, ℕ, ◌+◌, ◌*◌, ◌<◌, ◌≤◌, Bool, true, false, List, [], length}
use Rattle.bounded_model.specs.declared.history.Order.{Order}
use Rattle.bounded_model.specs.declared.history.Order.TheVariants.{Fifo, Lifo}
use Rattle.bounded_model.specs.declared.history.Event.{Event}
use Rattle.bounded_model.specs.declared.answers.Word.{Word}
use Rattle.bounded_model.specs.declared.answers.Word.TheVariants.{Cells, Nodes, Next, Free, Top, Count}
use Rattle.bounded_model.specs.declared.answers.TakeRefused.{TakeRefused}
use Rattle.bounded_model.specs.declared.answers.TakeRefused.TheVariants.{Empty, Closed, Spent, Shut}
use Rattle.bounded_model.specs.declared.views.PassView.{PassView}
use Rattle.bounded_model.specs.Machine.{Shape, state}
use Rattle.bounded_model.specs.Histories.{Later}

-- what a history says of its container
abbrev pub IsEmpty : {T : Type 0} → Shape → List (Event T) → Type 0
IsEmpty c h = (state c h).values ≡ []

abbrev pub IsOpen : {T : Type 0} → Shape → List (Event T) → Type 0
IsOpen c h = (state c h).closed ≡ false

abbrev pub IsClosed : {T : Type 0} → Shape → List (Event T) → Type 0
IsClosed c h = (state c h).closed ≡ true

abbrev pub IsUnshut : {T : Type 0} → Shape → List (Event T) → Type 0
IsUnshut c h = (state c h).shut ≡ false

abbrev pub IsShut : {T : Type 0} → Shape → List (Event T) → Type 0
IsShut c h = (state c h).shut ≡ true

-- every cell holds a value or is in some pass's hand
abbrev pub IsFull : {T : Type 0} → Shape → List (Event T) → Type 0
IsFull c h = length (state c h).values + (state c h).held ≡ c.capacity

-- the tag t of this word allows no further rise; no other word ever does so
abbrev pub IsAtLimit : {T : Type 0} → Shape → List (Event T) → Word → ℕ → Type 0
IsAtLimit c h Cells t = (t ≡ c.limit) × ((state c h).holds ≡ t)
IsAtLimit c h Free t = (t ≡ c.limit) × ((state c h).holds ≡ t)
IsAtLimit c h Top t = (t ≡ c.limit) × ((state c h).puts + (state c h).takes ≡ t)
IsAtLimit c h (Next j) t = c.limit < t + 2
IsAtLimit c h Nodes t = ⊥
IsAtLimit c h Count t = ⊥

-- the words whose tag may stop a put, by the container's order
abbrev pub StopsPut : Order → Word → Type 0
StopsPut Fifo Cells = Unit {0}
StopsPut Fifo (Next j) = Unit {0}
StopsPut Lifo Free = Unit {0}
StopsPut Lifo Top = Unit {0}
StopsPut order word = ⊥

-- and a take or a fold: no tag stops a queue's
abbrev pub StopsTake : Order → Word → Type 0
StopsTake Lifo Top = Unit {0}
StopsTake order word = ⊥

-- some tag may have met the limit: the number of cells taken so far is at least half of it
abbrev pub IsWorn : {T : Type 0} → Shape → List (Event T) → Type 0
IsWorn c h = c.limit ≤ 2 * (state c h).holds

-- the answers that leave the container as it is
pub data Answer : Type 0 where
  PutFull : Answer
  PutClosed : Answer
  PutSpent : Word → ℕ → Answer
  TakeEmpty : Answer
  TakeClosed : Answer
  TakeShut : Answer
  TakeSpent : Word → ℕ → Answer
  NotClosed : Answer
  NotShut : Answer
  Looked : Bool → Answer
  Counted : ℕ → Answer

-- the table: what makes each of them right
abbrev pub Justifies : {T : Type 0} → Shape → List (Event T) → Answer → Type 0
Justifies c h PutFull = IsFull c h × IsOpen c h
Justifies c h PutClosed = IsClosed c h
Justifies c h (PutSpent word t) = (StopsPut c.order word × IsAtLimit c h word t) × IsWorn c h
Justifies c h TakeEmpty = IsEmpty c h × IsOpen c h × IsUnshut c h
Justifies c h TakeClosed = IsEmpty c h × IsClosed c h × IsUnshut c h
Justifies c h TakeShut = IsShut c h
Justifies c h (TakeSpent word t) = (StopsTake c.order word × IsAtLimit c h word t) × IsWorn c h × IsUnshut c h
Justifies c h NotClosed = IsClosed c h
Justifies c h NotShut = IsShut c h
Justifies c h (Looked true) = IsEmpty c h
Justifies c h (Looked false) = IsEmpty c h → ⊥
Justifies c h (Counted k) = length (state c h).values ≡ k

-- P holds of some history that is not earlier than the old one, and not later than the new
pub record Sometime {T : Type 0} (old new : List (Event T)) (P : List (Event T) → Type 0) : Type 0 where
  pub at : List (Event T)
  pub since : Later old at
  pub until : Later at new
  pub holds : P at

-- the answer was right at some time between what its pass had seen as the call began, v, and as it ended, w
abbrev pub Justified : {T : Type 0} → Shape → PassView T → PassView T → Answer → Type 0
Justified c v w answer = Sometime v.seen w.seen (λ h. Justifies c h answer)

-- a refused take, or a refused fold, as a line of the table
abbrev pub take_answer : TakeRefused → Answer
take_answer Empty = TakeEmpty
take_answer Closed = TakeClosed
take_answer Shut = TakeShut
take_answer (Spent word t) = TakeSpent word t
