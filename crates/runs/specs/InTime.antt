-- Calls of any passes, as their callers know them, in one order: that of the history, which keeps what their callers had heard.
use Rattle.std.specs.Prelude.{◌≡◌, ◌≢◌, ◌⊎◌, ℕ, ◌+◌, ◌<◌, Bool, true, false, List, [], ◌∷◌, length, Result, Ok, Err}
use mathlib.Core.Option.{some}
use lib.ListN.{get_elem?}
use Rattle.bounded_model.specs.declared.answers.PutRefused.{PutRefused}
use Rattle.bounded_model.specs.declared.answers.PutRefused.TheVariants.{Full, Closed, Spent}
use Rattle.bounded_model.specs.declared.answers.TakeRefused.{TakeRefused}
use Rattle.bounded_model.specs.declared.history.Event.{Event}
use Rattle.bounded_model.specs.declared.history.Event.TheVariants.{Put, Take, Close, Shut}
use Rattle.bounded_model.specs.declared.views.PassView.{PassView}
use Rattle.bounded_model.specs.Machine.{Shape}
use Rattle.bounded_model.specs.Histories.{pass_of, Later}
use Rattle.bounded_model.specs.Justified.{Answer, PutFull, PutClosed, PutSpent, NotClosed, NotShut, Justifies, Sometime, take_answer}

-- a call changed the container by an event, or left it as it was and answered what it found
pub data Effect (T : Type 0) : Type 0 where
  Changes : (event : Event T) → Effect T
  Finds : (answer : Answer) → Effect T

-- what a call of pass p did, by its answer
module _ {T : Type 0} (p : ℕ) where
  abbrev pub put_effect : T → Result ℕ (PutRefused T) → Effect T
  put_effect x (Ok n) = Changes (Put p (x ∷ []) n)
  put_effect x (Err (Full y)) = Finds PutFull
  put_effect x (Err (Closed y)) = Finds PutClosed
  put_effect x (Err (Spent y word t)) = Finds (PutSpent word t)

  abbrev pub take_effect : Result (T × ℕ) TakeRefused → Effect T
  take_effect (Ok r) = Changes (Take p r.0 r.1)
  take_effect (Err why) = Finds (take_answer why)

  abbrev pub close_effect : Bool → Effect T
  close_effect true = Changes (Close p)
  close_effect false = Finds NotClosed

  abbrev pub shut_effect : Bool → Effect T
  shut_effect true = Changes (Shut p)
  shut_effect false = Finds NotShut

-- a call as its caller knows it: its pass as the call began and as it ended, and what the call did
pub record KnownCall (T : Type 0) : Type 0 where
  pub before : PassView T
  pub after : PassView T
  pub effect : Effect T

module _ {T : Type 0} where
  -- after this history the event of a call of this pass has just happened, and the call began before it; or what the call found is so
  abbrev pub IsRight : Shape → PassView T → Effect T → List (Event T) → Type 0
  IsRight c v (Changes e) h = (older : List (Event T)) × (h ≡ e ∷ older) × Later v.seen older × (pass_of e ≡ v.number)
  IsRight c v (Finds answer) h = Justifies c h answer

  -- the call of a pass, which was v and is w, did this at one moment between
  abbrev pub DidOnce : Shape → PassView T → PassView T → Effect T → Type 0
  DidOnce c v w effect = Sometime v.seen w.seen (IsRight c v effect)

  -- the second call was begun by a pass that had seen all that the pass of the first had as that ended: by the same pass later, or by one that
  -- has heard of it
  abbrev pub HeardOf : KnownCall T → KnownCall T → Type 0
  HeardOf a b = Later a.after.seen b.before.seen

  -- a call that did what it says within this history
  pub record IsCallOf (c : Shape) (h : List (Event T)) (k : KnownCall T) : Type 0 where
    pub did : DidOnce c k.before k.after k.effect
    pub seen : Later k.after.seen h

  -- the calls of one pass are listed as the pass made them
  abbrev pub InTurn : List (KnownCall T) → Type 0
  InTurn calls = (i j : ℕ) (a b : KnownCall T) → get_elem? calls i ≡ some a → get_elem? calls j ≡ some b → i < j → a.before.number ≡ b.before.number → HeardOf a b

-- where a call stands in a history: at the moment after this part of it, and of the calls at that moment in this turn
pub record Place (T : Type 0) : Type 0 where
  pub at : List (Event T)
  pub turn : ℕ

module _ {T : Type 0} where
  -- at one moment the call that changed the container stands first, and then those that found it so, as they are listed
  abbrev pub turn_of : ℕ → Effect T → ℕ
  turn_of i (Changes e) = 0
  turn_of i (Finds answer) = i + 1

  abbrev pub IsBefore : Place T → Place T → Type 0
  IsBefore p q = (length p.at < length q.at) ⊎ ((p.at ≡ q.at) × (p.turn < q.turn))

  -- a call stands at a moment of the history, after it began and before it ended, and what it did is right there
  pub record Stands (c : Shape) (h : List (Event T)) (k : KnownCall T) (at : List (Event T)) : Type 0 where
    pub since : Later k.before.seen at
    pub until : Later at k.after.seen
    pub of : Later at h
    pub right : IsRight c k.before k.effect at

  -- The listed calls are in one order. Each stands at a moment of the history, no two at one place, and one that is listed after another of
  -- which its caller had heard stands after it
  pub record InOneOrder (c : Shape) (h : List (Event T)) (calls : List (KnownCall T)) : Type 0 where
    pub place : (i : ℕ) (a : KnownCall T) → get_elem? calls i ≡ some a → Place T
    pub turn : (i : ℕ) (a : KnownCall T) (x : get_elem? calls i ≡ some a) → (place i a x).turn ≡ turn_of i a.effect
    pub stands : (i : ℕ) (a : KnownCall T) (x : get_elem? calls i ≡ some a) → Stands c h a (place i a x).at
    pub one_by_one : (i j : ℕ) (a b : KnownCall T) (x : get_elem? calls i ≡ some a) (y : get_elem? calls j ≡ some b) → i ≢ j → IsBefore (place i a x) (place j b y) ⊎ IsBefore (place j b y) (place i a x)
    pub in_time : (i j : ℕ) (a b : KnownCall T) (x : get_elem? calls i ≡ some a) (y : get_elem? calls j ≡ some b) → i < j → HeardOf a b → IsBefore (place i a x) (place j b y)
