-- One list of n indexes with a tagged top: any number of passes take from it and give to it, a step at a time (Treiber 1986, with tags
-- that show whether a top has changed and come back).
use Rattle.std.specs.Prelude.{ℕ, ◌==◌, leb, ◌||◌, if◌then◌else◌, Bool, true, false, List, [], ◌∷◌, remove}
use mathlib.Core.Option.{Option, none, some}
use lib.ListN.{get_elem?}
use Rattle.tagged_index.specs.declared.word.TheConstants.{NULL}
use Rattle.bounded_model.specs.declared.history.Event.{Event}
use Rattle.machine.specs.Words.{Tagged, raised, kept, same, store, start_word, start_link}
use Rattle.machine.specs.Schedule as schedule

pub record Memory : Type 0 where
  pub top : Tagged
  pub link : ℕ → ℕ

-- the line of a pass, with what it has read: the top w, the link k of its index. A give has index i
pub data Line : Type 0 where
  Idle : Line
  LoadTopToTake : Line
  LoadTopLink : (w : Tagged) → Line
  TakeTop : (w : Tagged) (k : ℕ) → Line
  LoadTopToGive : (i : ℕ) → Line
  LinkToTop : (i : ℕ) (w : Tagged) → Line
  GiveBack : (i : ℕ) (w : Tagged) → Line

-- and the indexes that it has taken
pub record At : Type 0 where
  pub line : Line
  pub hand : List ℕ

-- what a pass may begin: to take, or to give the index at a place of its hand
pub data Call : Type 0 where
  Take : Call
  Give : (place : ℕ) → Call

-- a list has no events
abbrev pub Events : Type 0
Events = Event ⊥

abbrev pub Outcome : Type 0
Outcome = schedule.Outcome Memory At Events

abbrev pub goes_on : Memory → Line → List ℕ → Outcome
goes_on m line hand = record { memory = m; line = record { line = line; hand = hand }; events = [] }

-- one step of a pass
abbrev pub step : ℕ → Memory → Line → List ℕ → Outcome
step limit m Idle hand = goes_on m Idle hand
step limit m LoadTopToTake hand = goes_on m (if m.top.index == NULL || leb limit m.top.tag then Idle else LoadTopLink m.top) hand
step limit m (LoadTopLink w) hand = goes_on m (TakeTop w (m.link w.index)) hand
step limit m (TakeTop w k) hand =
    if same m.top w then goes_on (record m { top = raised w k }) Idle (w.index ∷ hand) else goes_on m LoadTopToTake hand
step limit m (LoadTopToGive i) hand = goes_on m (LinkToTop i m.top) hand
step limit m (LinkToTop i w) hand = goes_on (record m { link = store m.link i w.index }) (GiveBack i w) hand
step limit m (GiveBack i w) hand = if same m.top w then goes_on (record m { top = kept w i }) Idle hand else goes_on m (LoadTopToGive i) hand

abbrev pub is_idle : Line → Bool
is_idle Idle = true
is_idle l = false

-- a place beyond the hand has no index to give
abbrev pub gives : ℕ → Option ℕ → List ℕ → At
gives place none hand = record { line = Idle; hand = hand }
gives place (some i) hand = record { line = LoadTopToGive i; hand = remove hand place }

abbrev pub starts : Call → List ℕ → At
starts Take hand = record { line = LoadTopToTake; hand = hand }
starts (Give place) hand = gives place (get_elem? hand place) hand

-- is the next step of a line an exchange that wins
abbrev pub wins_exchange : Memory → Line → Bool
wins_exchange m (TakeTop w k) = same m.top w
wins_exchange m (GiveBack i w) = same m.top w
wins_exchange m l = false

-- the whole machine, for schedules; at the start all n indexes are in the list
abbrev pub list : ℕ → ℕ → schedule.Machine Memory At Call Events
list n limit = record {
  first = record { top = start_word 0; link = start_link n };
  rest = λ p. record { line = Idle; hand = [] };
  is_idle = λ at. is_idle at.line;
  starts = λ call at. starts call at.hand;
  step = λ m p at. step limit m at.line at.hand;
  wins = λ m at. wins_exchange m at.line;
}

abbrev pub State : Type 0
State = schedule.State Memory At Call Events
