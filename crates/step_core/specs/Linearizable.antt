-- Linearizability (Herlihy and Wing, Linearizability: A Correctness Condition for Concurrent Objects, 1990) of a machine with a bounded
-- container's events. Their history, a sequence of invocations and responses, is `concurrent_history` here. In this file "history" alone
-- is the list of the container's events. A history is linearizable if each operation takes effect at one point between its invocation and
-- its response, and the operations in the order of their points are a legal sequential history of the object. Pending operations may have
-- taken effect (their extension of the history) or not.
--
-- Their words and the names here:
-- - a process is a pass, an operation is `Operation`, a sequential specification is `Object`,
-- - an invocation is `Invokes`, a response `Responds`, a pending operation `Pending`; a process's completed ones are `completed`,
-- - the sequential history is legal and has the same operations (L1): `IsLinearization`,
-- - it keeps the order of operations that do not overlap (L2): `KeepsRealTimeOrder`,
-- - linearizable is `Linearizable`.
-- Their objects have no hands. `IsLinearizationWithAnyHands` and `LinearizableWithAnyHands` are the same without the bounds on hands.
use Rattle.std.specs.Prelude.{◌≡◌, ◌⊎◌, ℕ, ◌≤◌, ◌==◌, if◌then◌else◌, List, [], ◌∷◌, ◌++◌}
use mathlib.Core.Option.{Option, none, some}
use lib.ListN.{get_elem?}
use Rattle.bounded_model.specs.declared.history.Event.{Event}
use Rattle.bounded_model.specs.declared.history.Event.TheVariants.{Hold, Free}
use Rattle.bounded_model.specs.Histories.{pass_of}
use Rattle.bounded_model.specs.Machine.{Shape, state, Needs}
use Rattle.machine.specs.Words.{total}
use Rattle.machine.specs.Schedule.{Machine, Pass, State, Act, Begin, Step, Schedule, next, run, start}

-- an operation: the pass that invokes it, the call, and its answer
pub record Operation (C A : Type 0) : Type 0 where
  pub by : ℕ
  pub call : C
  pub answer : A

-- A sequential specification: the bounded machine of this shape, with its hands, and which answers are right. An
-- operation either updates the object, by one event, or reads it. An operation that reads the object changes nothing,
-- and its answer is right in the state to which the history leads. Cells in hand count: a put may be refused as full
-- while a pending operation has the last cell. That is the only use of hands: without them the operations are a run of
-- one sequential list (`calls_alone_are_a_list` of bounded_model). During a call its pass has at most `most` of them in
-- hand, and a pass that is in no call has none
pub record Object (T C A : Type 0) : Type 1 where
  pub shape : Shape
  pub most : C → ℕ
  pub updates : Operation C A → Event T → Type 0
  pub reads : Operation C A → List (Event T) → Type 0

-- The entries of a history with linearization points:
-- - an invocation of pass p, and its response,
-- - a pass takes a cell into its hand or gives cells back: an event that is no operation's own,
-- - the point of an operation, with the event by which it updates the object, or with none
pub data Entry (T C A : Type 0) : Type 0 where
  Invokes : (p : ℕ) (call : C) → Entry T C A
  Responds : (p : ℕ) (answer : Option A) → Entry T C A
  Hand : (event : Event T) → Entry T C A
  Updates : (k : Operation C A) (event : Event T) → Entry T C A
  Reads : (k : Operation C A) → Entry T C A

-- the state of a pass: between two operations, in one that has not taken effect yet, or in one that has, with its
-- answer
pub data Stage (C A : Type 0) : Type 0 where
  Rests : Stage C A
  Pending : (call : C) → Stage C A
  TookEffect : (answer : Option A) → Stage C A

abbrev pub most_of : {T C A : Type 0} → Object T C A → Option C → ℕ
most_of o none = 0
most_of o (some call) = o.most call

-- after this event its pass has no more cells in hand than the call that it is in may have
abbrev pub MayHold : {T C A : Type 0} → Object T C A → Event T → List (Event T) → Option C → Type 0
MayHold o e h call = (state o.shape (e ∷ h)).hand (pass_of e) ≤ most_of o call

-- an event of a hand alone
abbrev pub IsHand : {T : Type 0} → Event T → Type 0
IsHand (Hold p) = Unit {0}
IsHand (Free p k) = Unit {0}
IsHand e = ⊥

abbrev pub without : ℕ → List ℕ → List ℕ
without p [] = []
without p (q ∷ passes) = if q == p then without p passes else q ∷ without p passes

-- A course is a history with linearization points, the newest entry first
module _ {T C A : Type 0} where
  -- its invocations and responses
  abbrev pub without_points : List (Entry T C A) → List (Entry T C A)
  without_points [] = []
  without_points (Invokes p call ∷ course) = Invokes p call ∷ without_points course
  without_points (Responds p answer ∷ course) = Responds p answer ∷ without_points course
  without_points (m ∷ course) = without_points course

  abbrev pub events : List (Entry T C A) → List (Event T)
  events [] = []
  events (Hand e ∷ course) = e ∷ events course
  events (Updates k e ∷ course) = e ∷ events course
  events (m ∷ course) = events course

  abbrev pub stage : ℕ → List (Entry T C A) → Stage C A
  stage p [] = Rests
  stage p (Invokes q call ∷ course) = if q == p then Pending call else stage p course
  stage p (Responds q answer ∷ course) = if q == p then Rests else stage p course
  stage p (Hand e ∷ course) = stage p course
  stage p (Updates k e ∷ course) = if k.by == p then TookEffect (some k.answer) else stage p course
  stage p (Reads k ∷ course) = if k.by == p then TookEffect (some k.answer) else stage p course

  -- the call that a pass is in, if it is in one
  abbrev pub call_of : ℕ → List (Entry T C A) → Option C
  call_of p [] = none
  call_of p (Invokes q call ∷ course) = if q == p then some call else call_of p course
  call_of p (Responds q answer ∷ course) = if q == p then none else call_of p course
  call_of p (m ∷ course) = call_of p course

  -- the passes that are in a call
  abbrev pub under_way : List (Entry T C A) → List ℕ
  under_way [] = []
  under_way (Invokes p call ∷ course) = p ∷ under_way course
  under_way (Responds p answer ∷ course) = without p (under_way course)
  under_way (m ∷ course) = under_way course

  -- how many cells they may have in hand, all together
  abbrev pub most_in_hand : Object T C A → List (Entry T C A) → ℕ
  most_in_hand o course = total (λ p. most_of o (call_of p course)) (under_way course)

  -- Each operation takes effect once, after its invocation and before its response, and the response has its
  -- answer. In the order of their points, the operations and the moves of hands are legal for the object. Hands move
  -- only during a call and hold no more than it may, and a response leaves its pass's hand empty
  abbrev pub IsLinearization : Object T C A → List (Entry T C A) → Type 0
  IsLinearization o [] = Unit {0}
  IsLinearization o (Invokes p call ∷ course) = (stage p course ≡ Rests) × IsLinearization o course
  IsLinearization o (Responds p answer ∷ course) = (stage p course ≡ TookEffect answer) × ((state o.shape (events course)).hand p ≡ 0) × IsLinearization o course
  IsLinearization o (Hand e ∷ course) = IsHand e × MayHold o e (events course) (call_of (pass_of e) course) × Needs o.shape (state o.shape (events course)) e × IsLinearization o course
  IsLinearization o (Updates k e ∷ course) = (stage k.by course ≡ Pending k.call) × o.updates k e × MayHold o e (events course) (call_of (pass_of e) course) × Needs o.shape (state o.shape (events course)) e × IsLinearization o course
  IsLinearization o (Reads k ∷ course) = (stage k.by course ≡ Pending k.call) × o.reads k (events course) × IsLinearization o course

  -- The same without the last of these sentences: hands may move at any time and hold any number of cells. Each
  -- linearization is one of these (`with_any_hands`). So real time order, which follows from these conditions alone, is
  -- stated of them, and a near miss that does not even meet these is not refused because of its hands
  abbrev pub IsLinearizationWithAnyHands : Object T C A → List (Entry T C A) → Type 0
  IsLinearizationWithAnyHands o [] = Unit {0}
  IsLinearizationWithAnyHands o (Invokes p call ∷ course) = (stage p course ≡ Rests) × IsLinearizationWithAnyHands o course
  IsLinearizationWithAnyHands o (Responds p answer ∷ course) = (stage p course ≡ TookEffect answer) × IsLinearizationWithAnyHands o course
  IsLinearizationWithAnyHands o (Hand e ∷ course) = IsHand e × Needs o.shape (state o.shape (events course)) e × IsLinearizationWithAnyHands o course
  IsLinearizationWithAnyHands o (Updates k e ∷ course) = (stage k.by course ≡ Pending k.call) × o.updates k e × Needs o.shape (state o.shape (events course)) e × IsLinearizationWithAnyHands o course
  IsLinearizationWithAnyHands o (Reads k ∷ course) = (stage k.by course ≡ Pending k.call) × o.reads k (events course) × IsLinearizationWithAnyHands o course

abbrev pub if_by : {C A : Type 0} → ℕ → ℕ → Option C → Option A → List (Option C × Option A)
if_by q p call answer = if q == p then (call, answer) ∷ [] else []

-- the call of a pending operation
abbrev pub pending_call : {C A : Type 0} → Stage C A → Option C
pending_call (Pending call) = some call
pending_call s = none

-- Real time order: an operation whose response stands before another's invocation takes effect before it (their
-- condition L2). It holds of a course, and so of each older part of it
module _ {T C A : Type 0} where
  -- the operations of pass p that take effect in a course, with call and answer
  abbrev pub effective : ℕ → List (Entry T C A) → List (Option C × Option A)
  effective p [] = []
  effective p (Updates k e ∷ course) = if_by k.by p (some k.call) (some k.answer) ++ effective p course
  effective p (Reads k ∷ course) = if_by k.by p (some k.call) (some k.answer) ++ effective p course
  effective p (e ∷ course) = effective p course

  -- those that pass p has completed in a history of invocations and responses
  abbrev pub completed : ℕ → List (Entry T C A) → List (Option C × Option A)
  completed p [] = []
  completed p (Responds q answer ∷ heard) = if_by q p (pending_call (stage p heard)) answer ++ completed p heard
  completed p (e ∷ heard) = completed p heard

  -- the operations of pass p that have taken effect are those that it has completed, or these and the pending one
  abbrev pub KeepsRealTimeOrder : ℕ → List (Entry T C A) → Type 0
  KeepsRealTimeOrder p course =
      (effective p course ≡ completed p (without_points course))
      ⊎ ((call : C) × (a : A) × (stage p (without_points course) ≡ Pending call) × (effective p course ≡ (some call, some a) ∷ completed p (without_points course)))

-- `answer` says what a pass has answered at a line, if anything
module _ {M L C T A : Type 0} (x : Machine M L C (Event T)) (answer : L → Option A) where
  -- the response of pass p, if it is idle after an act of its own
  abbrev pub response_of : ℕ → L → List (Entry T C A)
  response_of p l = if x.is_idle l then Responds p (answer l) ∷ [] else []

  -- the invocation and the response by one act
  abbrev pub history_at : State M L C (Event T) → ℕ → Act C → Option (Pass L C (Event T)) → List (Entry T C A)
  history_at s p a none = []
  history_at s p (Begin call) (some v) = if x.is_idle v.line then response_of p (x.starts call v.line) ++ Invokes p call ∷ [] else []
  history_at s p Step (some v) = if x.is_idle v.line then [] else response_of p (x.step s.memory p v.line).line

  -- the history of a schedule: its invocations and responses
  abbrev pub concurrent_history : Schedule C → State M L C (Event T) → List (Entry T C A)
  concurrent_history [] s = []
  concurrent_history (a ∷ more) s = concurrent_history more (next x s a) ++ history_at s a.0 a.1 (get_elem? s.passes a.0)

  -- The history of a schedule is linearizable: linearization points can be put into it, so that it is a
  -- linearization for the object, whose events are those that the machine has made
  pub record Linearizable (o : Object T C A) (passes : ℕ) (schedule : Schedule C) : Type 0 where
    pub course : List (Entry T C A)
    pub same_calls : without_points course ≡ concurrent_history schedule (start x passes)
    pub right : IsLinearization o course
    pub same_history : events course ≡ (run x schedule (start x passes)).history

  -- The same without the bounds on hands. A schedule that is not even this is not `Linearizable`
  pub record LinearizableWithAnyHands (o : Object T C A) (passes : ℕ) (schedule : Schedule C) : Type 0 where
    pub course : List (Entry T C A)
    pub same_calls : without_points course ≡ concurrent_history schedule (start x passes)
    pub right : IsLinearizationWithAnyHands o course
    pub same_history : events course ≡ (run x schedule (start x passes)).history
