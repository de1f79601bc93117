-- At which state a call stands, and what some of its steps give.
use Rattle.std.specs.Prelude.{ℕ, List, Option as Slot, ◌≡◌, Bool, []}
use Rattle.running.specs.declared.passes.Pass as runs
use Rattle.running.specs.Passes as passes
use Rattle.running.specs.Steps.{Stands}
use Rattle.treiber_stack.specs.Prelude.{AnswerLook, Ended, Event, Finding, Giving, Line, LoadTopToLook, LookFirst, MatchNext, Next, Operation}
use Rattle.treiber_stack.specs.Prelude.{Outcome, Pass, Ran, ends, next, vacant}
use Rattle.treiber_stack.specs.Calls.{Pass as CallerPass, Stack, StackWith, machine_of, machine_with, begun_with, room_of, limit_of}
use Rattle.treiber_stack.specs.code.Machine.{put_of, no_rule, Answered}
use Rattle.treiber_stack.specs.declared.code.putting.PutAt.{PutAt}
use Rattle.treiber_stack.specs.code.Putting.{put_value, put_account, Answer as PutAnswer}
use Rattle.treiber_stack.specs.declared.code.taking.TakeAt.{TakeAt}
use Rattle.treiber_stack.specs.code.Taking.{take_account, Answer as TakeAnswer}
use Rattle.treiber_stack.specs.declared.code.looking.LookAt.{LookAt}
use Rattle.treiber_stack.specs.code.Looking.{look_account}
use Rattle.treiber_stack.specs.declared.code.giving.Chain.{Chain}
use Rattle.treiber_stack.specs.declared.code.giving.Give.{Give}
use Rattle.treiber_stack.specs.code.Giving.{AreNodes, give_line}

module _ {T : Type 0} where
  -- a pass that has made some steps, as its caller has it
  abbrev pub as_pass : runs.Pass T (Line T) → CallerPass T
  as_pass p = record { pass = p; kept = tt }

  -- With a client's rule
  module _ (rule : List (Event T) → Type 0) {D : Type 0} where
    -- the seat of a pass between its operations
    abbrev pub IsSeatWith : StackWith T D → runs.Pass T (Line T) → Type 0
    IsSeatWith c p = passes.IsPassOn (machine_with rule c) c.table.shared.table_id p

    -- a pass in an operation, at a line and with these slots in hand
    abbrev pub IsAtWith : StackWith T D → Operation T → runs.Pass T (Line T) → Line T → List (ℕ × Slot T) → Type 0
    IsAtWith c o p l slots = passes.IsAtOn (machine_with rule c) c.table.shared.table_id o p l slots

    -- a step was the machine's line l, exactly one more, and led to l'
    abbrev pub OneLineWith : StackWith T D → runs.Pass T (Line T) → runs.Pass T (Line T) → Line T → Line T → Type 0
    OneLineWith c p q l l' = passes.OneLine (machine_with rule c) p q l l'

  -- and with none
  abbrev pub IsAt : Stack T → Operation T → runs.Pass T (Line T) → Line T → List (ℕ × Slot T) → Type 0
  IsAt c o p l slots = IsAtWith no_rule c o p l slots

  abbrev pub OneLine : Stack T → runs.Pass T (Line T) → runs.Pass T (Line T) → Line T → Line T → Type 0
  OneLine c p q l l' = OneLineWith no_rule c p q l l'

  -- a whole call of this operation is at this
  abbrev pub PutStands : (List (Event T) → Type 0) → {D : Type 0} → StackWith T D → Operation T → Pass T (Line T) → PutAt T → Type 0
  PutStands rule c o p at = (o ≡ put_of (put_value at)) × Stands (machine_with rule c) (put_account c.table.shared.key) c.table.shared.table_id p at

  -- what some steps of it give
  abbrev pub PutRan : (List (Event T) → Type 0) → {D : Type 0} → StackWith T D → Operation T → Pass T (Line T) → Pass T (Line T) → Next (PutAt T) (PutAnswer T) → Type 0
  PutRan rule c o p q r = Ran (machine_with rule c) (put_account c.table.shared.key) c.table.shared.table_id o p q r

  -- a whole call is at this
  abbrev pub TakeStands : (List (Event T) → Type 0) → {D : Type 0} → StackWith T D → Pass T (Line T) → TakeAt T → Type 0
  TakeStands rule c p at = Stands (machine_with rule c) (take_account c.table.shared.key) c.table.shared.table_id p at

  -- what some steps of it give
  abbrev pub TakeRan : (List (Event T) → Type 0) → {D : Type 0} → StackWith T D → Operation T → Pass T (Line T) → Pass T (Line T) → Next (TakeAt T) (TakeAnswer T) → Type 0
  TakeRan rule c o p q r = Ran (machine_with rule c) (take_account c.table.shared.key) c.table.shared.table_id o p q r

  -- what some steps of it give
  abbrev pub LookRan : (List (Event T) → Type 0) → {D : Type 0} → StackWith T D → Operation T → Pass T (Line T) → Pass T (Line T) → Next LookAt (Answered Bool) → Type 0
  LookRan rule c o p q r = Ran (machine_with rule c) (look_account c.table.shared.key) c.table.shared.table_id o p q r

  -- its one step has answered so
  pub record HasLooked (rule : List (Event T) → Type 0) {D : Type 0} (c : StackWith T D) (p q : Pass T (Line T)) (empty : Bool) : Type 0 where
    pub of : IsSeatWith rule c q
    pub ended : Ended (machine_with rule c) LookFirst q.seat.me.0 (begun_with rule c p) (ends (AnswerLook empty))
    pub line : OneLineWith rule c p q LoadTopToLook (ends (AnswerLook empty))

  pub record IsGiving (rule : List (Event T) → Type 0) {D : Type 0} (c : StackWith T D) (o : Operation T) (p : Pass T (Line T)) (giving : Giving T) (nodes : Chain) (at : Give) : Type 0 where
    pub line : IsAtWith rule c o p (give_line giving at) (vacant giving.chain)
    pub are : AreNodes (room_of c) giving.chain nodes

  -- where a step leads that came to r, with these slots in hand after it
  abbrev pub GaveTo : {D : Type 0} → StackWith T D → Giving T → Give → Outcome → List (ℕ × Slot T) → Next Give (Unit {0}) → Type 0
  GaveTo c giving at r has to = Finding (machine_of c).core (give_line giving at) r (vacant giving.chain) has
      (λ found came. MatchNext to
      (λ at'. (next (room_of c) (limit_of c) (give_line giving at) found came ≡ give_line giving at') × (has ≡ vacant giving.chain))
      (λ done. (next (room_of c) (limit_of c) (give_line giving at) found came ≡ ends giving.answer) × (has ≡ [])))
