-- What each call of a container promises, by what its pass or root has seen before and afterwards.
-- "Has seen" is a history; a later one is the same with more on top.
use Rattle.std.specs.Prelude.{◌≡◌, ◌≢◌, ℕ, suc, zero, ◌+◌, ◌<◌, ◌≤◌, Bool, true, false, List, [], ◌∷◌, ◌++◌, length, map, Result, Ok, Err}
use Rattle.std.specs.List.{AllByRecursion as Every}
use Rattle.bounded_model.specs.declared.container.TheConstants.{MIN_PASSES, MAX_PASSES}
use Rattle.bounded_model.specs.declared.history.Event.{Event}
use Rattle.bounded_model.specs.declared.history.Event.TheVariants.{Hold, Put, Take, TakeAll, Free, Close, Shut}
use Rattle.bounded_model.specs.declared.answers.PutRefused.{PutRefused}
use Rattle.bounded_model.specs.declared.answers.PutRefused.TheVariants.{Full, Closed, Spent}
use Rattle.bounded_model.specs.declared.answers.TakeRefused.{TakeRefused}
use Rattle.bounded_model.specs.declared.views.Answered.{Answered}
use Rattle.bounded_model.specs.declared.views.Answered.TheVariants.{Put as PutAnswered, Heard}
use Rattle.bounded_model.specs.declared.views.PassView.{PassView}
use Rattle.bounded_model.specs.declared.views.RootView.{RootView}
use Rattle.bounded_model.specs.Machine.{Shape, state, Legal}
use Rattle.bounded_model.specs.Histories.{own, pass_of, Later}
use Rattle.bounded_model.specs.Justified.{Justified, take_answer, PutFull, PutClosed, PutSpent, NotClosed, NotShut, Looked, Counted}

-- How many passes may be out

-- of no container fewer or more than these
pub record PassesInRange (c : Shape) : Type 0 where
  pub some : MIN_PASSES ≤ c.passes
  pub few : c.passes ≤ MAX_PASSES

-- Passes and roots at rest

-- a root that has given no pass yet
abbrev pub fresh : {T : Type 0} → RootView T
fresh = record { seen = []; given = 0; account = []; works = [] }

-- every pass that was given has been joined
abbrev pub NoneOut : {T : Type 0} → RootView T → Type 0
NoneOut r = length r.account ≡ r.given

-- as many passes are out as there may be, or fewer are
abbrev pub IsFullOfPasses : {T : Type 0} → Shape → RootView T → Type 0
IsFullOfPasses c r = c.passes + length r.account ≤ r.given

abbrev pub HasRoomForPass : {T : Type 0} → Shape → RootView T → Type 0
HasRoomForPass c r = r.given < c.passes + length r.account

-- a pass between its calls: what it has seen is legal, and its hand is empty
pub record IsAtRest {T : Type 0} (c : Shape) (v : PassView T) : Type 0 where
  pub legal : Legal c v.seen
  pub hand : (state c v.seen).hand v.number ≡ 0

-- no number stands twice
abbrev pub Apart : {A : Type 0} → List (ℕ × A) → Type 0
Apart [] = Unit {0}
Apart (a ∷ rest) = Every (λ b. b.0 ≢ a.0) rest × Apart rest

-- a root: of each joined pass it has seen exactly the events of the account, and none of a pass
-- that it has not given; and it keeps what each joined pass has done
pub record IsSound {T : Type 0} (c : Shape) (r : RootView T) : Type 0 where
  pub legal : Legal c r.seen
  pub joined : Every (λ a. own a.0 r.seen ≡ a.1) r.account
  pub apart : Apart r.account
  pub given : Every (λ a. a.0 < r.given) r.account
  pub known : Every (λ e. pass_of e < r.given) r.seen
  pub works : map (λ w. w.number) r.works ≡ map (λ a. a.0) r.account

-- What a call of a pass adds

-- one call more has answered, with this
abbrev pub Answers : {T : Type 0} → PassView T → PassView T → Answered T → Type 0
Answers v w a = w.answers ≡ a ∷ v.answers

-- a refused value, as those of a put of several are told
abbrev pub in_list : {T : Type 0} → PutRefused T → PutRefused (List T)
in_list (Full v) = Full (v ∷ [])
in_list (Closed v) = Closed (v ∷ [])
in_list (Spent v word t) = Spent (v ∷ []) word t

abbrev pub put_answered : {T : Type 0} → Result ℕ (PutRefused T) → Answered T
put_answered (Ok n) = PutAnswered (Ok n)
put_answered (Err why) = PutAnswered (Err (in_list why))

-- it has made steps and seen more, and in the new part its own events are exactly these, the
-- newest first
pub record Adds {T : Type 0} (v w : PassView T) (events : List (Event T)) : Type 0 where
  pub number : w.number ≡ v.number
  pub steps : v.steps < w.steps
  pub between : List (Event T)
  pub seen : w.seen ≡ between ++ v.seen
  pub own_events : own v.number between ≡ events

-- pass p took k cells one after another
abbrev pub holds_of : {T : Type 0} → ℕ → ℕ → List (Event T)
holds_of p zero = []
holds_of p (suc k) = Hold p ∷ holds_of p k

-- it took k cells, and gave them back in one act
abbrev pub gave_back : {T : Type 0} → ℕ → ℕ → List (Event T)
gave_back p zero = []
gave_back p (suc k) = Free p (suc k) ∷ holds_of p (suc k)

-- a put of up to `most` values that was given up
pub record BacksOut {T : Type 0} (v w : PassView T) (most : ℕ) : Type 0 where
  pub held : ℕ
  pub at_most : held ≤ most
  pub adds : Adds v w (gave_back v.number held)

-- The calls of a pass, by their answers

-- a call of a pass: what it had seen as the call began, and as it ended
pub record Call (T : Type 0) : Type 0 where
  pub shape : Shape
  pub from : PassView T
  pub to : PassView T

-- put: a refusal hands the value back
abbrev pub PutGives : {T : Type 0} → Shape → PassView T → T → PassView T → Result ℕ (PutRefused T) → Type 0
PutGives c v x w (Ok n) = Adds v w (Put v.number (x ∷ []) n ∷ Hold v.number ∷ [])
PutGives c v x w (Err (Full y)) = (y ≡ x) × Adds v w [] × Justified c v w PutFull
PutGives c v x w (Err (Closed y)) = (y ≡ x) × BacksOut v w 1 × Justified c v w PutClosed
PutGives c v x w (Err (Spent y word t)) = (y ≡ x) × BacksOut v w 1 × Justified c v w (PutSpent word t)

-- a take or a fold that takes nothing
abbrev pub TakesNothing : {T : Type 0} → Shape → PassView T → PassView T → TakeRefused → Type 0
TakesNothing c v w why = Adds v w [] × Justified c v w (take_answer why)

-- take: the value and the take's number
abbrev pub TakeGives : {T : Type 0} → Shape → PassView T → PassView T → Result (T × ℕ) TakeRefused → Type 0
TakeGives c v w (Ok r) = Adds v w (Free v.number 1 ∷ Take v.number r.0 r.1 ∷ [])
TakeGives c v w (Err why) = TakesNothing c v w why

-- close: whether this call closed it
abbrev pub CloseGives : {T : Type 0} → Shape → PassView T → PassView T → Bool → Type 0
CloseGives c v w true = Adds v w (Close v.number ∷ [])
CloseGives c v w false = Adds v w [] × Justified c v w NotClosed

-- shut: whether this call shut it
abbrev pub ShutGives : {T : Type 0} → Shape → PassView T → PassView T → Bool → Type 0
ShutGives c v w true = Adds v w (Shut v.number ∷ [])
ShutGives c v w false = Adds v w [] × Justified c v w NotShut

-- look: whether it was empty
abbrev pub LookGives : {T : Type 0} → Shape → PassView T → PassView T → Bool → Type 0
LookGives c v w b = Adds v w [] × Justified c v w (Looked b)

-- len: how many values it held
abbrev pub LenGives : {T : Type 0} → Shape → PassView T → PassView T → ℕ → Type 0
LenGives c v w k = Adds v w [] × Justified c v w (Counted k)

-- a stack's put of several values by one exchange, and its take of all values by one exchange
abbrev pub RangeGives : {T : Type 0} → PassView T → List T → PassView T → ℕ → Type 0
RangeGives v xs w n = Adds v w (Put v.number xs n ∷ holds_of v.number (length xs))

abbrev pub FoldGives : {T : Type 0} → PassView T → PassView T → List T → ℕ → Type 0
FoldGives v w xs n = Adds v w (Free v.number (length xs) ∷ TakeAll v.number xs n ∷ [])

-- The calls of a root

-- split: the next number goes to a new pass, which has seen what the root has and done nothing
pub record Splits {T : Type 0} (c : Shape) (r s : RootView T) (v : PassView T) : Type 0 where
  pub room : HasRoomForPass c r
  pub root : s ≡ record r { given = r.given + 1 }
  pub pass : v ≡ record { number = r.given; seen = r.seen; steps = 0; answers = [] }

-- join: the pass's own events go into the account, with the steps that it has made and what its calls have answered
pub record Joins {T : Type 0} (r : RootView T) (v : PassView T) (s : RootView T) : Type 0 where
  pub given : s.given ≡ r.given
  pub account : s.account ≡ (v.number, own v.number v.seen) ∷ r.account
  pub works : s.works ≡ record { number = v.number; steps = v.steps; answers = v.answers } ∷ r.works
  pub root_seen : Later r.seen s.seen
  pub seen : Later v.seen s.seen

-- meet: the first pass, v and then w, has seen what either had, and of each exactly its own
-- events; u is the second. It counts one step, the load by which it sees
pub record Meets {T : Type 0} (v u w : PassView T) : Type 0 where
  pub number : w.number ≡ v.number
  pub steps : v.steps < w.steps
  pub one : w.steps ≡ v.steps + 1
  pub first : Later v.seen w.seen
  pub second : Later u.seen w.seen
  pub own_events : own v.number w.seen ≡ own v.number v.seen
  pub others : own u.number w.seen ≡ own u.number u.seen
  pub answers : Answers v w Heard

-- if there is no seat for it, nothing has changed
abbrev pub MeetGives : {T : Type 0} → PassView T → PassView T → PassView T → Bool → Type 0
MeetGives v u w true = Meets v u w
MeetGives v u w false = w ≡ v

-- heed: the pass has made one step, with no event of its own, and has now seen all that a note tells
pub record Heeds {T : Type 0} (v : PassView T) (told : List (Event T)) (w : PassView T) : Type 0 where
  pub adds : Adds v w []
  pub one : w.steps ≡ v.steps + 1
  pub heard : Later told w.seen
  pub answers : Answers v w Heard

-- finish: the list of a legal history that begins with what the root has seen. It adds no event of
-- a joined pass and none of a pass that was not given. So it adds none at all if no pass is out
pub record Leaves {T : Type 0} (c : Shape) (r : RootView T) (left : List T) : Type 0 where
  pub history : List (Event T)
  pub legal : Legal c history
  pub begins : Later r.seen history
  pub joined : Every (λ a. own a.0 history ≡ a.1) r.account
  pub given : Every (λ e. pass_of e < r.given) history
  pub whole : NoneOut r → history ≡ r.seen
  pub values : left ≡ (state c history).values
