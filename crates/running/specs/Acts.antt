-- A pure machine that any number of passes run, each with its own line. A state comes with the acts that led to it, the newest first. A
-- container's table stands for such a state (`Led`).
use Rattle.std.specs.Prelude.{◌≡◌, ℕ, ◌+◌, ◌≤◌, ◌==◌, if◌then◌else◌, true, false, List, [], ◌∷◌, ◌++◌}
use Rattle.std.specs.List.{AllByRecursion as Every}
use mathlib.Core.Option.{some}
use lib.ListN.{get_elem?}
use Rattle.bounded_model.specs.declared.history.Event.{Event}
use Rattle.bounded_model.specs.declared.views.Answered.{Answered}
use Rattle.bounded_model.specs.declared.views.Answered.TheVariants.{Heard}
use Rattle.bounded_model.specs.declared.views.Work.{Work}
pub use Rattle.machine.specs.declared.seats.Doing.{Doing}
pub use Rattle.machine.specs.declared.seats.Doing.TheVariants.{Begins, Steps, Looks, Hears}
use Rattle.machine.specs.declared.seats.View.{View}
use Rattle.machine.specs.declared.seats.View.TheVariants.{AtRoot, AtPass, AtMeeting, AtNote, AtHearing, Left}
use Rattle.machine.specs.Seats.{Acts, Extends, Owns, IsJoined}
use Rattle.running.specs.Machine.{Names, Core, IsQuiet}

-- the memory, the line of each pass, and the history
pub record Config (M L E : Type 0) : Type 0 where
  pub memory : M
  pub line : ℕ → L
  pub history : List E

abbrev pub placed : {L : Type 0} → (ℕ → L) → ℕ → L → ℕ → L
placed line p l q = if q == p then l else line q

-- how many loads, stores and exchanges a pass has made, and how many of them are steps of the machine
abbrev pub counted : {L : Type 0} → Doing L → ℕ
counted (Begins l) = 0
counted Steps = 1
counted Looks = 1
counted Hears = 1

abbrev pub is_step : {L : Type 0} → Doing L → ℕ
is_step (Begins l) = 0
is_step Steps = 1
is_step Looks = 0
is_step Hears = 0

abbrev pub is_begin : {L : Type 0} → Doing L → ℕ
is_begin (Begins l) = 1
is_begin Steps = 0
is_begin Looks = 0
is_begin Hears = 0

abbrev pub sum_of : {L : Type 0} → (Doing L → ℕ) → ℕ → Acts L → ℕ
sum_of f x [] = 0
sum_of f x (a ∷ older) = (if x == a.0 then f a.1 else 0) + sum_of f x older

abbrev pub made : {L : Type 0} → ℕ → Acts L → ℕ
made x acts = sum_of counted x acts

abbrev pub steps_in : {L : Type 0} → ℕ → Acts L → ℕ
steps_in x acts = sum_of is_step x acts

abbrev pub begins_in : {L : Type 0} → ℕ → Acts L → ℕ
begins_in x acts = sum_of is_begin x acts

module _ {T L O : Type 0} (names : Names L O) (c : Core T L O) where
  abbrev pub Now : Type 0
  Now = Config c.Memory L (Event T)

  abbrev pub having_stepped : Now → ℕ → L → Now
  having_stepped s p l = record { memory = c.after s.memory p l; line = placed s.line p (c.lands s.memory p l); history = c.adds s.memory p l ++ s.history }

  -- a begin of a pass in an operation does nothing, nor does a step of one that is in none
  abbrev pub after_act : Now → ℕ → Doing L → Now
  after_act s p (Begins first) = if names.is_idle (s.line p) then record { memory = s.memory; line = placed s.line p first; history = s.history } else s
  after_act s p Steps = if names.is_idle (s.line p) then s else having_stepped s p (s.line p)
  after_act s p Looks = s
  after_act s p Hears = s

  -- before the first act
  abbrev pub at_first : Now
  at_first = record { memory = c.first; line = c.rest; history = [] }

  abbrev pub played : Acts L → Now
  played [] = at_first
  played (a ∷ older) = after_act (played older) a.0 a.1

  abbrev pub IsFirst : L → Type 0
  IsFirst l = (o : O) × (rest : L) × (l ≡ names.first o rest)

  -- An act that does something: a pass between its operations begins one, or hears what others have done; one in an operation makes its step. A pass
  -- makes loads that belong to no line only if the machine has such loads
  abbrev pub IsProper : Now → ℕ → Doing L → Type 0
  IsProper s p (Begins first) = names.is_idle (s.line p) ≡ true
  IsProper s p Steps = names.is_idle (s.line p) ≡ false
  IsProper s p Looks = c.Reads
  IsProper s p Hears = names.is_idle (s.line p) ≡ true

  abbrev pub AllProper : Acts L → Type 0
  AllProper [] = Unit {0}
  AllProper (a ∷ older) = IsProper (played older) a.0 a.1 × AllProper older

  -- an operation begins with what is free then
  abbrev pub IsFresh : Now → Doing L → Type 0
  IsFresh s (Begins first) = c.Free s.memory s.line first
  IsFresh s Steps = Unit {0}
  IsFresh s Looks = Unit {0}
  IsFresh s Hears = Unit {0}

  abbrev pub AllFresh : Acts L → Type 0
  AllFresh [] = Unit {0}
  AllFresh (a ∷ older) = IsFresh (played older) a.1 × AllFresh older

  -- only operations of the container are begun
  abbrev pub IsAllowed : Doing L → Type 0
  IsAllowed (Begins first) = IsFirst first
  IsAllowed Steps = Unit {0}
  IsAllowed Looks = Unit {0}
  IsAllowed Hears = Unit {0}

  -- the answers of a pass, the newest first, once its step has led to this line
  abbrev pub answers_at : List (Answered T) → L → List (Answered T)
  answers_at answers l = if names.is_idle l then c.reply l ∷ answers else answers

  abbrev pub answers_after : Now → ℕ → Doing L → List (Answered T) → List (Answered T)
  answers_after s p (Begins first) answers = answers
  answers_after s p Steps answers = if names.is_idle (s.line p) then answers else answers_at answers (c.lands s.memory p (s.line p))
  answers_after s p Looks answers = answers
  answers_after s p Hears answers = Heard ∷ answers

  -- what the calls of pass x have answered in these acts
  abbrev pub answers_in : ℕ → Acts L → List (Answered T)
  answers_in x [] = []
  answers_in x (a ∷ older) = if x == a.0 then answers_after (played older) a.0 a.1 (answers_in x older) else answers_in x older

  -- pass x has made this number of steps in these acts, and its calls have answered this
  pub record HasDone (acts : Acts L) (x steps : ℕ) (answers : List (Answered T)) : Type 0 where
    pub steps_are : steps ≡ made x acts
    pub answers_are : answers ≡ answers_in x acts

  -- a pass that was joined had done by then what the root keeps of it
  abbrev pub Worked : Acts L → List (ℕ × List (Event T)) → Work T → Type 0
  Worked acts account w = IsJoined w.number account × HasDone acts w.number w.steps w.answers

  -- a seat's pass has done what its view says, a pass that is not given yet nothing, and a joined one what the root keeps of it
  abbrev pub Counts : Acts L → View T L → Type 0
  Counts acts (AtRoot r ks heard l) = ((x : ℕ) → r.given ≤ x → HasDone acts x 0 []) × Every (Worked acts r.account) r.works
  Counts acts (AtPass p begun l) = HasDone acts p.number p.steps p.answers
  Counts acts (AtMeeting p xs k q ys l) = HasDone acts p.number p.steps p.answers × HasDone acts q.number q.steps q.answers
  Counts acts (AtNote told) = Unit {0}
  Counts acts (AtHearing p xs l told) = HasDone acts p.number p.steps p.answers
  Counts acts Left = Unit {0}

  -- what a pass in an operation knows of the acts: those that it has seen, and since then it has done nothing but look
  pub record Seen (acts now : Acts L) (x : ℕ) : Type 0 where
    pub others : Acts L
    pub is : acts ≡ others ++ now
    pub same : (f : Doing L → ℕ) → f Looks ≡ 0 → sum_of f x acts ≡ sum_of f x now

  -- what any pass knows of them: the acts at its last step, and since then it has done nothing but look and hear
  pub record Knew (acts now : Acts L) (x : ℕ) : Type 0 where
    pub others : Acts L
    pub is : acts ≡ others ++ now
    pub same : (f : Doing L → ℕ) → f Looks ≡ 0 → f Hears ≡ 0 → sum_of f x acts ≡ sum_of f x now

  -- A pass knows the acts at its last step; one that is not given yet has done nothing. Passes that meet, or hear a note, are between their
  -- operations. The root, what it is handed, and a note know an older part of the acts
  abbrev pub Sees : Acts L → View T L → Type 0
  Sees acts (AtRoot r ks heard l) = ((x : ℕ) → r.given ≤ x → Knew acts [] x) × Extends ks acts × Extends heard.acts acts
  Sees acts (AtPass p begun l) = (names.is_idle l ≡ false → Seen acts begun.now p.number) × Knew acts begun.now p.number
  Sees acts (AtMeeting p xs k q ys l) = (IsQuiet names c k × IsQuiet names c l) × Knew acts xs p.number × Knew acts ys q.number
  Sees acts (AtNote told) = Extends told.acts acts
  Sees acts (AtHearing p xs l told) = IsQuiet names c l × Knew acts xs p.number × Extends told.acts acts
  Sees acts Left = Unit {0}

  -- a pass that is at a line by its steps is at this one by its seat: both are idle, or they are one
  pub record IsSame (by_steps line : L) : Type 0 where
    pub idle : names.is_idle by_steps ≡ names.is_idle line
    pub busy : names.is_idle line ≡ false → by_steps ≡ line

  abbrev pub IsAt : L → View T L → Type 0
  IsAt by_steps (AtPass p begun l) = IsSame by_steps l
  IsAt by_steps v = names.is_idle by_steps ≡ true

  -- For each number that a seat answers for, the pass is at the seat's line. It is idle if the seat is not a pass's
  pub record Follows (line : ℕ → L) (acts : Acts L) (v : View T L) : Type 0 where
    pub lines : (x : ℕ) → Owns v x → IsAt (line x) v
    pub counts : Counts acts v
    pub sees : Sees acts v

  -- a seat answers for this number
  pub record IsOwned (views : List (View T L)) (x : ℕ) : Type 0 where
    pub seat : ℕ
    pub view : View T L
    pub there : get_elem? views seat ≡ some view
    pub owns : Owns view x

  -- Some acts, from the memory of a new container on, led to this memory and this history, and to where the seats are
  pub record Led (memory : c.Memory) (views : List (View T L)) (history : List (Event T)) : Type 0 where
    pub acts : Acts L
    pub allowed : Every (λ a. IsAllowed a.1) acts
    pub proper : AllProper acts
    pub fresh : AllFresh acts
    pub memory_is : (played acts).memory ≡ memory
    pub history_is : (played acts).history ≡ history
    pub each : (j : ℕ) (v : View T L) → get_elem? views j ≡ some v → Follows (played acts).line acts v
    pub owned : (x : ℕ) → IsOwned views x

  -- The step of a pass whose seat is at l, and which makes the step of the line `at`: an operation is begun at its first step
  abbrev pub begun_acts : ℕ → L → L → Acts L → Acts L
  begun_acts x l at acts = if names.is_idle l then (x, Begins at) ∷ acts else acts

  abbrev pub acts_after : ℕ → L → L → Acts L → Acts L
  acts_after x l at acts = (x, Steps) ∷ begun_acts x l at acts

  -- A pass x in an operation, by the acts as it was begun and as they were at its last step: it was in none, this one was begun, no other was
  -- since, and the pass's steps have led it from the first line to l
  pub record Course (before now : Acts L) (x : ℕ) (first l : L) : Type 0 where
    pub since : Acts L
    pub is : now ≡ since ++ (x, Begins first) ∷ before
    pub once : begins_in x since ≡ 0
    pub allowed : Every (λ a. IsAllowed a.1) now
    pub fresh : AllFresh now
    pub rested : names.is_idle ((played before).line x) ≡ true
    pub at : (played now).line x ≡ l
