-- Scripts of calls and single steps of up to three passes, played by any machine.
use Rattle.std.specs.Prelude.{◌≡◌, ℕ, zero, suc, cond, List, [], ◌∷◌, ◌++◌, map, set, take}
use mathlib.Core.Option.{Option, none, some}
use lib.ListN.{get_elem?}
use Rattle.machine.specs.Schedule.{Machine, Pass, State, Begin, Step, acts_at, start}

-- What a line of a script says. A pass makes a whole call, begins one and makes at most `count` steps, or makes at most `count` further
-- steps. Or the script ends, and what is left is read
pub data Says (C : Type 0) : Type 0 where
  calls : (p : ℕ) (call : C) → Says C
  begins : (p : ℕ) (call : C) (count : ℕ) → Says C
  steps : (p count : ℕ) → Says C
  finish : Says C

-- The reply: the call's answer, that the call is under way `count` steps after its begin, that it has ended after `count` steps, the
-- values that are left, or that no call was begun
pub data Reply (A : Type 0) : Type 0 where
  answers : (answer : A) → Reply A
  again : (count : ℕ) → Reply A
  ended : (answer : A) (count : ℕ) → Reply A
  rest : (values : List ℕ) → Reply A
  nothing_begun : Reply A

-- a machine, the answer that a line shows, and the values that a memory has
pub record Player (M L C A E : Type 0) : Type 0 where
  pub machine : Machine M L C E
  pub answer : L → Option A
  pub left : M → List ℕ

-- the state, and how many steps each pass has made since its call was begun
pub record Stage (M L C E : Type 0) : Type 0 where
  pub state : State M L C E
  pub counts : List ℕ

module _ {M L C A E : Type 0} (x : Player M L C A E) where
  abbrev pub line_of : ℕ → Option (Pass L C E) → L
  line_of p none = x.machine.rest p
  line_of p (some v) = v.line

  abbrev pub line_at : Stage M L C E → ℕ → L
  line_at s p = line_of p (get_elem? s.state.passes p)

  abbrev pub or_zero : Option ℕ → ℕ
  or_zero none = 0
  or_zero (some n) = n

  abbrev pub count_at : Stage M L C E → ℕ → ℕ
  count_at s p = or_zero (get_elem? s.counts p)

  abbrev pub after_begin : Stage M L C E → ℕ → C → Stage M L C E
  after_begin s p call = record { state = acts_at x.machine s.state p (Begin call) (get_elem? s.state.passes p); counts = set s.counts p 0 }

  abbrev pub after_step : Stage M L C E → ℕ → Stage M L C E
  after_step s p = record { state = acts_at x.machine s.state p Step (get_elem? s.state.passes p); counts = set s.counts p (suc (count_at s p)) }

  -- at most this number of steps, and fewer if the call ends
  abbrev pub after_steps : ℕ → Stage M L C E → ℕ → Stage M L C E
  after_steps zero s p = s
  after_steps (suc k) s p = cond (x.machine.is_idle (line_at s p)) s (after_steps k (after_step s p) p)

  -- a whole call: no call of the scripts makes more steps than this
  abbrev pub after_call : Stage M L C E → ℕ → C → Stage M L C E
  after_call s p call = after_steps 40 (after_begin s p call) p

  abbrev pub answer_at : Option A → Reply A
  answer_at none = nothing_begun
  answer_at (some a) = answers a

  abbrev pub end_at : Option A → ℕ → Reply A
  end_at none count = nothing_begun
  end_at (some a) count = ended a count

  abbrev pub progress : L → ℕ → Reply A
  progress l count = cond (x.machine.is_idle l) (end_at (x.answer l) count) (again count)

  abbrev pub replies : Stage M L C E → List (Says C) → List (Reply A)
  replies s [] = []
  replies s (calls p call ∷ more) = let t = after_call s p call in answer_at (x.answer (line_at t p)) ∷ replies t more
  replies s (begins p call k ∷ more) = let t = after_steps k (after_begin s p call) p in progress (line_at t p) (count_at t p) ∷ replies t more
  replies s (steps p k ∷ more) = let t = after_steps k s p in progress (line_at t p) (count_at t p) ∷ replies t more
  replies s (finish ∷ more) = rest (x.left s.state.memory) ∷ replies s more

  abbrev pub curtain : Stage M L C E
  curtain = record { state = start x.machine 3; counts = 0 ∷ 0 ∷ 0 ∷ [] }

  -- each line of the script gets its reply
  abbrev pub Plays : List (Says C × Reply A) → Type 0
  Plays script = replies curtain (map (λ line. line.0) script) ≡ map (λ line. line.1) script

  -- the first k lines of a script get their replies, and the next one gets this reply instead of its own
  abbrev pub Fails : List (Says C × Reply A) → ℕ → Reply A → Type 0
  Fails script k other = replies curtain (map (λ line. line.0) (take (suc k) script)) ≡ map (λ line. line.1) (take k script) ++ other ∷ []
