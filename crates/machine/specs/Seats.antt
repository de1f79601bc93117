-- What the seats of a container know together. One seat knows the events of each pass, and no two
-- seats know those of the same pass.
use Rattle.std.specs.Prelude.{◌≡◌, ◌≢◌, ℕ, ◌+◌, ◌<◌, ◌≤◌, ◌⊎◌, List, [], ◌∷◌, map, ◌++◌}
use Rattle.std.specs.List.{AllByRecursion as Every}
use mathlib.Core.Option.{some}
use lib.ListN.{get_elem?}
use Rattle.bounded_model.specs.declared.history.Event.{Event}
use Rattle.bounded_model.specs.declared.views.Answered.{Answered}
use Rattle.bounded_model.specs.declared.views.Answered.TheVariants.{Heard}
use Rattle.bounded_model.specs.declared.views.PassView.{PassView}
use Rattle.bounded_model.specs.declared.views.RootView.{RootView}
use Rattle.bounded_model.specs.Machine.{Shape, state, Legal}
use Rattle.bounded_model.specs.Histories.{Among, own, Later}
use Rattle.bounded_model.specs.Laws.{Apart, IsSound, Adds, Meets, Heeds, fresh}
use Rattle.machine.specs.declared.seats.Begun.{Begun}
use Rattle.machine.specs.declared.seats.Doing.{Doing}
use Rattle.machine.specs.declared.seats.Handed.{Handed}
use Rattle.machine.specs.declared.seats.View.{View}
use Rattle.machine.specs.declared.seats.View.TheVariants.{AtRoot, AtPass, AtMeeting, AtNote, AtHearing, Left}

-- number x stands in an account
abbrev pub IsJoined : {A : Type 0} → ℕ → List (ℕ × A) → Type 0
IsJoined x account = Among x (map (λ a. a.0) account)

-- the numbers that a seat answers for: the root for those of joined passes and those not given yet, a
-- pass for its own, two that meet for both; a note for none
abbrev pub Owns : {T L : Type 0} → View T L → ℕ → Type 0
Owns (AtRoot r ks heard l) x = (r.given ≤ x) ⊎ IsJoined x r.account
Owns (AtPass p begun l) x = x ≡ p.number
Owns (AtMeeting p xs k q ys l) x = (x ≡ p.number) ⊎ (x ≡ q.number)
Owns (AtNote told) x = ⊥
Owns (AtHearing p xs l told) x = x ≡ p.number
Owns Left x = ⊥

-- the pass has seen a part of this history, and all its own events in it
pub record Saw {T : Type 0} (h : List (Event T)) (p : PassView T) : Type 0 where
  pub seen : Later p.seen h
  pub own_events : own p.number h ≡ own p.number p.seen

-- the root has seen a part of it, its account is right, and no pass that it has not given did anything
pub record Rooted {T : Type 0} (h : List (Event T)) (r : RootView T) (heard : List (Event T)) : Type 0 where
  pub seen : Later r.seen h
  pub heard_seen : Later heard h
  pub joined : Every (λ a. own a.0 h ≡ a.1) r.account
  pub apart : Apart r.account
  pub given : Every (λ a. a.0 < r.given) r.account
  pub unknown : (x : ℕ) → r.given ≤ x → own x h ≡ []
  pub works : map (λ w. w.number) r.works ≡ map (λ a. a.0) r.account

abbrev pub Knows : {T L : Type 0} → List (Event T) → View T L → Type 0
Knows h (AtRoot r ks heard l) = Rooted h r heard.seen
Knows h (AtPass p begun l) = Saw h p
Knows h (AtMeeting p xs k q ys l) = Saw h p × Saw h q × (p.number ≢ q.number)
Knows h (AtNote told) = Later told.seen h
Knows h (AtHearing p xs l told) = Saw h p × Later told.seen h
Knows h Left = Unit {0}

-- how many cells the pass of a seat has in hand; `held` says it of a line
abbrev pub held_at : {T L : Type 0} → (L → ℕ) → View T L → ℕ
held_at held (AtRoot r ks heard l) = 0
held_at held (AtPass p begun l) = held l
held_at held (AtMeeting p xs k q ys l) = 0
held_at held (AtNote told) = 0
held_at held (AtHearing p xs l told) = 0
held_at held Left = 0

-- of each number that a seat answers for, the hand in the history is what the seat has in hand
pub record Fine {T L : Type 0} (c : Shape) (held : L → ℕ) (h : List (Event T)) (v : View T L) : Type 0 where
  pub knows : Knows h v
  pub hands : (x : ℕ) → Owns v x → (state c h).hand x ≡ held_at held v

pub record Seated {T L : Type 0} (c : Shape) (held : L → ℕ) (h : List (Event T)) (views : List (View T L)) : Type 0 where
  pub each : (j : ℕ) (v : View T L) → get_elem? views j ≡ some v → Fine c held h v
  pub apart : (j k : ℕ) (v w : View T L) → j ≢ k → get_elem? views j ≡ some v → get_elem? views k ≡ some w → (x : ℕ) → Owns v x → Owns w x → ⊥

-- nothing is handed on
abbrev pub nothing : {T L : Type 0} → Handed T L
nothing = record { seen = []; acts = [] }

-- the only seat of a new container, whose root is at this line
abbrev pub first_view : {T L : Type 0} → L → View T L
first_view l = AtRoot fresh [] nothing l

abbrev pub new_pass : {T : Type 0} → RootView T → PassView T
new_pass r = record { number = r.given; seen = r.seen; steps = 0; answers = [] }

abbrev pub gives_one : {T : Type 0} → RootView T → RootView T
gives_one r = record r { given = r.given + 1 }

abbrev pub takes_back : {T : Type 0} → RootView T → PassView T → RootView T
takes_back r p = record r { account = (p.number, own p.number p.seen) ∷ r.account; works = record { number = p.number; steps = p.steps; answers = p.answers } ∷ r.works }

-- which pass did what, the newest first
abbrev pub Acts : Type 0 → Type 0
Acts L = List (ℕ × Doing L)

-- the newer acts are the older ones with more on top
pub record Extends {L : Type 0} (older newer : Acts L) : Type 0 where
  pub more : Acts L
  pub is : newer ≡ more ++ older

-- a pass between its operations, at this line. It keeps the acts that it knew at its last step
abbrev pub rested : {T L : Type 0} → PassView T → Acts L → Begun T L
rested p acts = record { view = p; before = []; now = acts }

abbrev pub at_rest : {T L : Type 0} → L → PassView T → Acts L → View T L
at_rest l p acts = AtPass p (rested p acts) l

-- How the lines of a container are shared out among its seats. A line may tell what a pass has between its
-- operations; then the root's line tells what it has for new passes
pub record Shares (L : Type 0) : Type 0 where
  -- the line of a seat that is none of a pass and not the root's
  pub none : L
  -- the root's line and that of a new pass, once the root has given it; and the root's, once it has taken a pass back
  pub gives : L → L × L
  pub takes : L → L → L
  -- the line of a seat in which two passes meet
  pub both : L → L → L

-- if all passes are alike between their operations
abbrev pub all_alike : {L : Type 0} → L → Shares L
all_alike idle = record { none = idle; gives = λ l. (l, idle); takes = λ l k. l; both = λ k l. idle }

-- how a view is cut in two: the root gives a pass, a pass gives a note, and two that have met part
abbrev pub left_of : {T L : Type 0} → Shares L → View T L → View T L
left_of x (AtRoot r ks heard l) = AtRoot (gives_one r) ks heard (x.gives l).0
left_of x (AtPass p begun l) = AtPass p begun l
left_of x (AtMeeting p xs k q ys l) = at_rest k p xs
left_of x (AtNote told) = AtNote told
left_of x (AtHearing p xs l told) = at_rest l p xs
left_of x Left = Left

abbrev pub right_of : {T L : Type 0} → Shares L → View T L → View T L
right_of x (AtRoot r ks heard l) = at_rest (x.gives l).1 (new_pass r) ks
right_of x (AtPass p begun l) = AtNote (record { seen = p.seen; acts = begun.now })
right_of x (AtMeeting p xs k q ys l) = at_rest l q ys
right_of x (AtNote told) = AtNote told
right_of x (AtHearing p xs l told) = AtNote told
right_of x Left = Left

-- how two views are made one: the root takes a pass back, two passes meet, and a pass hears a note
abbrev pub both_of : {T L : Type 0} → Shares L → View T L → View T L → View T L
both_of x (AtRoot r ks heard l) (AtPass p begun k) = AtRoot (takes_back r p) ks (record { seen = p.seen; acts = begun.now }) (x.takes l k)
both_of x (AtPass p begun k) (AtPass q begun' l) = AtMeeting p begun.now k q begun'.now l
both_of x (AtPass p begun l) (AtNote told) = AtHearing p begun.now l told
both_of x v w = v

-- a pass that has made a step, has now seen all of this history, and whose calls have answered so
abbrev pub stepped : {T : Type 0} → List (Event T) → List (Answered T) → PassView T → PassView T
stepped h answers p = record { number = p.number; seen = h; steps = p.steps + 1; answers = answers }

-- one that has heard what others did
abbrev pub hearing : {T : Type 0} → List (Event T) → PassView T → PassView T
hearing h p = stepped h (Heard ∷ p.answers) p

-- a seat that has made a load which belongs to no line, after these acts with that load. In an operation its pass keeps those of its last step
abbrev pub looked : {T L : Type 0} → List (Event T) → Acts L → View T L → View T L
looked h acts (AtRoot r ks heard l) = AtRoot (record r { seen = h }) acts nothing l
looked h acts (AtPass p begun l) = AtPass (stepped h p.answers p) begun l
looked h acts (AtMeeting p xs k q ys l) = AtMeeting (hearing h p) acts k q ys l
looked h acts (AtNote told) = AtNote told
looked h acts (AtHearing p xs l told) = AtHearing (hearing h p) acts l told
looked h acts Left = Left

-- the acts that a seat keeps; of two passes that meet, the first one's
abbrev pub acts_now : {T L : Type 0} → View T L → Acts L
acts_now (AtRoot r ks heard l) = ks
acts_now (AtPass p begun l) = begun.now
acts_now (AtMeeting p xs k q ys l) = xs
acts_now (AtNote told) = told.acts
acts_now (AtHearing p xs l told) = xs
acts_now Left = []

-- what such a load tells
abbrev pub Looks : {T L : Type 0} → Shape → View T L → View T L → Type 0
Looks {T} c (AtRoot r ks heard l) w = (s : RootView T) × (w ≡ AtRoot s (acts_now w) nothing l) × (s.given ≡ r.given) × (s.account ≡ r.account) × (s.works ≡ r.works) × Later r.seen s.seen × Later heard.seen s.seen × IsSound c s × Extends ks (acts_now w) × Extends heard.acts (acts_now w)
Looks {T} c (AtPass p begun l) w = (q : PassView T) × (w ≡ AtPass q begun l) × (q.answers ≡ p.answers) × Adds p q [] × Legal c q.seen
Looks {T} c (AtMeeting p xs k q ys l) w = (p' : PassView T) × (w ≡ AtMeeting p' (acts_now w) k q ys l) × Meets p q p' × Legal c p'.seen × Extends xs (acts_now w) × Extends ys (acts_now w)
Looks c (AtNote told) w = Unit {0}
Looks {T} c (AtHearing p xs l told) w = (q : PassView T) × (w ≡ AtHearing q (acts_now w) l told) × Heeds p told.seen q × Legal c q.seen × Extends xs (acts_now w) × Extends told.acts (acts_now w)
Looks c Left w = Unit {0}

-- reading a view
abbrev pub acts_before : {T L : Type 0} → View T L → Acts L
acts_before (AtPass p begun l) = begun.before
acts_before v = []

abbrev pub pass_of : {T L : Type 0} → View T L → PassView T
pass_of (AtPass p begun l) = p
pass_of v = record { number = 0; seen = []; steps = 0; answers = [] }

abbrev pub begun_of : {T L : Type 0} → View T L → PassView T
begun_of (AtPass p begun l) = begun.view
begun_of v = record { number = 0; seen = []; steps = 0; answers = [] }

abbrev pub line_of : {T L : Type 0} → Shares L → View T L → L
line_of x (AtRoot r ks heard l) = l
line_of x (AtPass p begun l) = l
line_of x (AtMeeting p xs k q ys l) = x.both k l
line_of x (AtNote told) = x.none
line_of x (AtHearing p xs l told) = l
line_of x Left = x.none

abbrev pub handed_of : {T L : Type 0} → View T L → Handed T L
handed_of (AtNote told) = told
handed_of v = nothing

abbrev pub told_of : {T L : Type 0} → View T L → List (Event T)
told_of v = (handed_of v).seen

abbrev pub root_of : {T L : Type 0} → View T L → RootView T
root_of (AtRoot r ks heard l) = r
root_of v = fresh
