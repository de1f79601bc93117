-- What each worker of a relay did, by its own events, and what follows of its messages.
use Rattle.std.specs.Prelude.{◌≡◌, ℕ, ◌+◌, ◌<◌, ◌≤◌, ◌==◌, Bool, false, List, [], ◌∷◌, ◌++◌, length, filter, drop, map, flat_map, IsPermutation, ◌⊎◌, Some}
use Rattle.std.specs.List.{AllByRecursion as Every}
use Rattle.bounded_model.specs.declared.history.Event.{Event}
use Rattle.bounded_model.specs.declared.views.PassView.{PassView}
use Rattle.bounded_model.specs.Machine.{Shape, Legal}
use Rattle.bounded_model.specs.Histories.{own, pass_of, Later}
use Rattle.bounded_model.specs.Justified.{IsEmpty, IsClosed, IsShut, IsWorn}
use Rattle.bounded_model.specs.Gathers.{gather, Moved, put_of, took_of, hold_of, fold_of, close_of, shut_of, EachFrom}
use Rattle.relay.specs.declared.workers.ProducerEnd.{ProducerEnd}
use Rattle.relay.specs.declared.workers.ProducerEnd.TheVariants.{SentAll, ClosedIt, MetClosed, MetSpent}
use Rattle.relay.specs.declared.workers.ConsumerEnd.{ConsumerEnd}
use Rattle.relay.specs.declared.workers.ConsumerEnd.TheVariants.{TookEnough, ShutIt, FoundClosed, FoundShut, FoundSpent, NoRoom}
use Rattle.relay.specs.declared.plan.Orders.{Orders}
use Rattle.relay.specs.declared.messages.Message.{Message}
use Rattle.relay.specs.declared.outcome.Taken.{Taken}

-- P holds of the history at some time up to this one
pub record Once {T : Type 0} (h : List (Event T)) (P : List (Event T) → Type 0) : Type 0 where
  pub at : List (Event T)
  pub until : Later at h
  pub holds : P at

pub data Worker (T : Type 0) : Type 0 where
  Producer : List T → List T → ProducerEnd → Worker T
  Consumer : List (Moved T) → ConsumerEnd → Worker T
  Closer : Bool → Worker T

-- a producer, h the whole history and es its own events
abbrev pub SendEnds : {T : Type 0} → Shape → Orders → List (Event T) → ℕ → List (Event T) → List T → List T → ProducerEnd → Type 0
SendEnds c plan h a es items unsent SentAll = (unsent ≡ []) × (gather close_of es ≡ []) × ((m : ℕ) → a ≡ 0 → plan.close_after ≡ Some m → length items ≤ m)
SendEnds c plan h a es items unsent ClosedIt = (a ≡ 0) × (plan.close_after ≡ Some (length (gather put_of es)))
SendEnds c plan h a es items unsent MetClosed = (gather close_of es ≡ []) × Once h (IsClosed c)
SendEnds c plan h a es items unsent MetSpent = (gather close_of es ≡ []) × Once h (IsWorn c)

pub record Produces {T : Type 0} (sender : T → ℕ) (c : Shape) (plan : Orders) (h : List (Event T)) (a : ℕ) (es : List (Event T)) (items unsent : List T) (end : ProducerEnd) : Type 0 where
  pub from : Every (λ x. sender x ≡ a) items
  pub puts : gather put_of es ++ unsent ≡ items
  pub takes : gather took_of es ≡ []
  pub folds : gather fold_of es ≡ []
  pub shuts : gather shut_of es ≡ []
  pub holds : length (gather hold_of es) ≤ length items
  pub ends : SendEnds c plan h a es items unsent end

-- a consumer; the first is the one whose number is the count of producers
abbrev pub TakeEnds : {T : Type 0} → Shape → Orders → List (Event T) → ℕ → List (Event T) → List (Moved T) → ConsumerEnd → Type 0
TakeEnds c plan h a es taken TookEnough = (gather shut_of es ≡ []) × (plan.take ≡ Some (length taken)) × ((m : ℕ) → a ≡ plan.producers → plan.shut_after ≡ Some m → length taken < m)
TakeEnds c plan h a es taken ShutIt = (a ≡ plan.producers) × (plan.shut_after ≡ Some (length taken))
TakeEnds c plan h a es taken FoundClosed = (gather shut_of es ≡ []) × Once h (λ q. IsEmpty c q × IsClosed c q)
TakeEnds c plan h a es taken FoundShut = (gather shut_of es ≡ []) × Once h (IsShut c)
TakeEnds c plan h a es taken FoundSpent = (gather shut_of es ≡ []) × Once h (IsWorn c)
TakeEnds c plan h a es taken NoRoom = (gather shut_of es ≡ []) × (plan.messages < length taken)

pub record Consumes {T : Type 0} (c : Shape) (plan : Orders) (h : List (Event T)) (a : ℕ) (es : List (Event T)) (taken : List (Moved T)) (end : ConsumerEnd) : Type 0 where
  pub takes : gather took_of es ≡ taken
  pub puts : gather put_of es ≡ []
  pub folds : gather fold_of es ≡ []
  pub closes : gather close_of es ≡ []
  pub holds : gather hold_of es ≡ []
  pub most : (k : ℕ) → plan.take ≡ Some k → length taken ≤ k
  pub most_first : (m : ℕ) → a ≡ plan.producers → plan.shut_after ≡ Some m → length taken ≤ m
  pub ends : TakeEnds c plan h a es taken end

pub record ClosesLast {T : Type 0} (es : List (Event T)) (used : Bool) : Type 0 where
  pub takes : gather took_of es ≡ []
  pub puts : gather put_of es ≡ []
  pub folds : gather fold_of es ≡ []
  pub holds : gather hold_of es ≡ []
  pub shuts : gather shut_of es ≡ []
  pub closes : used ≡ false → gather close_of es ≡ []

-- what a worker did: h is a history that its pass has seen (or a later one), a its number, es its own events
abbrev pub DidIn : {T : Type 0} → (T → ℕ) → Shape → Orders → List (Event T) → ℕ → List (Event T) → Worker T → Type 0
DidIn sender c plan h a es (Producer items unsent end) = Produces sender c plan h a es items unsent end
DidIn sender c plan h a es (Consumer taken end) = Consumes c plan h a es taken end
DidIn sender c plan h a es (Closer used) = ClosesLast es used

abbrev pub Did : {T : Type 0} → (T → ℕ) → Shape → Orders → List (Event T) → ℕ → Worker T → Type 0
Did sender c plan h a w = DidIn sender c plan h a (own a h) w

-- what the pass of a worker says of it
abbrev pub DidBy : {T : Type 0} → (T → ℕ) → Shape → Orders → PassView T → Worker T → Type 0
DidBy sender c plan v w = DidIn sender c plan v.seen v.number (own v.number v.seen) w

-- what consumers' lists say; the consumers' passes follow the producers'
abbrev pub moves_of : ℕ → List Taken → List (Moved Message)
moves_of producers taken = map (λ t. record { value = t.message; number = t.number; by = producers + t.consumer }) taken

abbrev pub items_of : {T : Type 0} → Worker T → List T
items_of (Producer items unsent end) = items
items_of (Consumer taken end) = []
items_of (Closer used) = []

abbrev pub taken_of : {T : Type 0} → Worker T → List (Moved T)
taken_of (Producer items unsent end) = []
taken_of (Consumer taken end) = taken
taken_of (Closer used) = []

-- the closer wasn't used if a producer met the close
abbrev pub NotMet : Bool → ProducerEnd → Type 0
NotMet used MetClosed = used ≡ false
NotMet used SentAll = Unit {0}
NotMet used ClosedIt = Unit {0}
NotMet used MetSpent = Unit {0}

abbrev pub Unused : {T : Type 0} → Bool → Worker T → Type 0
Unused used (Producer items unsent end) = NotMet used end
Unused used (Consumer taken end) = Unit {0}
Unused used (Closer u) = u ≡ used

-- a run of the relay: its whole history h, and what each worker did
pub record Ran {T : Type 0} (sender : T → ℕ) (c : Shape) (plan : Orders) (h : List (Event T)) (ws : List (Worker T)) (used : Bool) : Type 0 where
  pub legal : Legal c h
  pub known : Every (λ e. pass_of e < length ws) h
  pub did : EachFrom (Did sender c plan h) 0 ws
  pub unused : EachFrom (λ a w. Unused used w) 0 ws
  pub messages : plan.messages ≡ length (flat_map items_of ws)

abbrev pub from : {T : Type 0} → (T → ℕ) → ℕ → List T → List T
from sender s xs = filter (λ x. sender x == s) xs

-- what the relay promises of each worker's items, whatever the order of the container
abbrev pub Accounts : {T : Type 0} → (T → ℕ) → List T → List T → ℕ → Worker T → Type 0
Accounts sender delivered left s (Producer items unsent end) = IsPermutation items ((from sender s delivered ++ from sender s left) ++ unsent)
Accounts sender delivered left s (Consumer taken end) = Unit {0}
Accounts sender delivered left s (Closer used) = Unit {0}

-- and in the order of a queue
abbrev pub InOrder : {T : Type 0} → (T → ℕ) → List T → List T → ℕ → Worker T → Type 0
InOrder sender delivered left s (Producer items unsent end) = (from sender s delivered ++ from sender s left) ++ unsent ≡ items
InOrder sender delivered left s (Consumer taken end) = Unit {0}
InOrder sender delivered left s (Closer used) = Unit {0}

abbrev pub AllSent : {T : Type 0} → ℕ → Worker T → Type 0
AllSent s (Producer items unsent end) = unsent ≡ []
AllSent s (Consumer taken end) = Unit {0}
AllSent s (Closer used) = Unit {0}

-- each took k
abbrev pub TookK : {T : Type 0} → ℕ → ℕ → Worker T → Type 0
TookK k s (Producer items unsent end) = Unit {0}
TookK k s (Consumer taken end) = length taken ≡ k
TookK k s (Closer used) = Unit {0}

abbrev pub AtMost : {T : Type 0} → ℕ → ℕ → Worker T → Type 0
AtMost k s (Producer items unsent end) = Unit {0}
AtMost k s (Consumer taken end) = length taken ≤ k
AtMost k s (Closer used) = Unit {0}

-- consumer 0 took at most m
abbrev pub AtMostFirst : {T : Type 0} → Orders → ℕ → ℕ → Worker T → Type 0
AtMostFirst plan m s (Producer items unsent end) = Unit {0}
AtMostFirst plan m s (Consumer taken end) = s ≡ plan.producers → length taken ≤ m
AtMostFirst plan m s (Closer used) = Unit {0}

-- consumer 0 took m, or fewer if that was enough
abbrev pub FirstTook : {T : Type 0} → Orders → ℕ → ℕ → Worker T → Type 0
FirstTook plan m s (Producer items unsent end) = Unit {0}
FirstTook plan m s (Consumer taken end) = s ≡ plan.producers → (length taken ≡ m) ⊎ ((plan.take ≡ Some (length taken)) × (length taken < m))
FirstTook plan m s (Closer used) = Unit {0}

-- producer 0 put the first m
abbrev pub FirstPut : {T : Type 0} → ℕ → ℕ → Worker T → Type 0
FirstPut m s (Producer items unsent end) = s ≡ 0 → unsent ≡ drop m items
FirstPut m s (Consumer taken end) = Unit {0}
FirstPut m s (Closer used) = Unit {0}

abbrev pub HasConsumer : {T : Type 0} → List (Worker T) → Type 0
HasConsumer [] = ⊥
HasConsumer (Producer items unsent end ∷ ws) = HasConsumer ws
HasConsumer (Consumer taken end ∷ ws) = Unit {0}
HasConsumer (Closer used ∷ ws) = HasConsumer ws
