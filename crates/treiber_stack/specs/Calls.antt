-- What a stack, its passes and its roots are, and what its calls promise. The laws of a call (`PutGives` and the like) are those of every
-- container. What the calls of ranges and folds promise beside their runs is in Bulk.antt. How a state of an operation is read as a line of the machine is said below code/.
use Rattle.std.specs.Prelude.{ℕ, List, Result, Ok, Err, ◌≡◌, [], ◌∷◌, drop, Bool}
use Rattle.running.specs.Kept as kept
use Rattle.running.specs.Machine as running
use Rattle.bounded_model.specs.Laws.{Call}
use Rattle.running.specs.Passes as passes
use Rattle.running.specs.declared.passes.Pass as runs
use Rattle.running.specs.declared.tie.Free.{Free}
use Rattle.bounded_model.specs.declared.views.Answered.TheVariants as answered
use Rattle.treiber_stack.specs.Prelude.{Adds, Answer, AnswerFold, AnswerPut, Answers, CallPut, Close, Closed, Command, Event, FoldGives, Folded}
use Rattle.treiber_stack.specs.Prelude.{Front, Full, HasRun, IsGauged, Limits, Line, Look, LookGives, Makes, MatchStepped, Note, Nothing, Op}
use Rattle.treiber_stack.specs.Prelude.{Operation, PassView, PassWith, Put, PutClosed, PutFull, PutGives, PutRefused, PutSpent, RangeRefused, Ranged}
use Rattle.treiber_stack.specs.Prelude.{RootView, RootWith, Shape, Shut, Sometime, Spent, Stepped, Take, TakeGives, TakeRefused, Underway, WasRunBy}
use Rattle.treiber_stack.specs.Prelude.{call_of as machine_call, capacity_of, direction, ends, in_order, names, put_answered, tag_limit_of}
use Rattle.treiber_stack.specs.Prelude.{underway_in}
use Rattle.treiber_stack.specs.declared.life.stack.Stack as declared
use Rattle.treiber_stack.specs.declared.code.putting.PutAt.{PutAt}
use Rattle.treiber_stack.specs.declared.code.taking.TakeAt.{TakeAt}
use Rattle.treiber_stack.specs.declared.code.closing.MarkAt.{MarkAt}
use Rattle.treiber_stack.specs.declared.code.looking.LookAt.{LookAt}
use Rattle.treiber_stack.specs.declared.code.every.StackAt.{StackAt}
use Rattle.treiber_stack.specs.code.Machine.{machine_at, machine_for, no_rule, is_call}
use Rattle.treiber_stack.specs.code.Putting.{put_account}
use Rattle.treiber_stack.specs.code.Taking.{take_account}
use Rattle.treiber_stack.specs.code.Closing.{mark_account}
use Rattle.treiber_stack.specs.code.Looking.{look_account}
use Rattle.treiber_stack.specs.code.Every.{every_account}
use Rattle.treiber_stack.specs.declared.calls.gauging.Gauge.{Gauge}

-- a stack whose client has given it a rule, and one with none; its passes and its root, and the operations that its calls begin
abbrev pub StackWith : Type 0 → Type 0 → Type 0
StackWith T D = declared.Stack T D

abbrev pub Stack : Type 0 → Type 0
Stack T = StackWith T Free

abbrev pub Pass : Type 0 → Type 0
Pass T = PassWith T (Line T) (Unit {0})

abbrev pub Root : Type 0 → Type 0
Root T = RootWith T (Line T) (Unit {0})

abbrev pub PutOp : Type 0 → Type 0
PutOp T = Op T (Line T) (Operation T) (PutAt T)

abbrev pub TakeOp : Type 0 → Type 0
TakeOp T = Op T (Line T) (Operation T) (TakeAt T)

abbrev pub CloseOp : Type 0 → Type 0
CloseOp T = Op T (Line T) (Operation T) MarkAt

abbrev pub ShutOp : Type 0 → Type 0
ShutOp T = CloseOp T

abbrev pub LookOp : Type 0 → Type 0
LookOp T = Op T (Line T) (Operation T) LookAt

abbrev pub AnyOp : Type 0 → Type 0
AnyOp T = Op T (Line T) (Operation T) (StackAt T)

module _ {T : Type 0} where
  -- a pass keeps nothing between its calls, and a root has nothing for one
  abbrev pub keeps : Line T → Unit {0} → Type 0
  keeps l has = Unit {0}

  abbrev pub stocks : Limits → Line T → Unit {0} → Type 0
  stocks k l stock = Unit {0}

  abbrev pub pass_in : Pass T → PassView T
  pass_in p = kept.pass_in p

  abbrev pub root_in : Root T → RootView T
  root_in r = kept.root_in r

  -- how many values it has room for, and the limit of its tags
  abbrev pub room_of : {D : Type 0} → StackWith T D → ℕ
  room_of c = capacity_of c.table.shared.key

  abbrev pub limit_of : {D : Type 0} → StackWith T D → ℕ
  limit_of c = tag_limit_of c.table.shared.key

  abbrev pub machine_of : {D : Type 0} → StackWith T D → running.Machine T (Line T) (Operation T) names
  machine_of c = machine_at c.table.shared.key

  abbrev pub shape_of : {D : Type 0} → StackWith T D → Shape
  shape_of c = (machine_of c).core.shape

  -- a call of one of its passes
  abbrev pub call_of : {D : Type 0} → StackWith T D → Pass T → Pass T → Call T
  call_of c by back = record { shape = shape_of c; from = pass_in by; to = pass_in back }

  -- With a client's rule: its machine, a pass between its operations, as it was when its operation was begun, a root between its calls, and a note
  -- of one of its passes. What they have seen keeps the rule
  module _ (rule : List (Event T) → Type 0) {D : Type 0} where
    abbrev pub machine_with : StackWith T D → running.Machine T (Line T) (Operation T) names
    machine_with c = machine_for rule c.table.shared.key

    abbrev pub begun_with : StackWith T D → runs.Pass T (Line T) → PassView T
    begun_with c p = passes.begun_of (machine_with c) p

    abbrev pub IsPassWith : StackWith T D → Pass T → Type 0
    IsPassWith c p = kept.IsPassAt (machine_with c) keeps c.table.shared.table_id p

    abbrev pub IsRootWith : StackWith T D → Root T → Type 0
    IsRootWith c r = kept.IsRootAt (machine_with c) (stocks c.table.shared.key) c.table.shared.table_id r

    abbrev pub IsNoteWith : StackWith T D → Note T (Line T) → Type 0
    IsNoteWith c n = passes.IsNoteOn (machine_with c) c.table.shared.table_id n

  -- and of a stack with none
  abbrev pub begun_of : Stack T → runs.Pass T (Line T) → PassView T
  begun_of c p = begun_with no_rule c p

  abbrev pub IsPassOf : Stack T → Pass T → Type 0
  IsPassOf c p = IsPassWith no_rule c p

  abbrev pub IsRootOf : Stack T → Root T → Type 0
  IsRootOf c r = IsRootWith no_rule c r

  abbrev pub IsNoteOf : Stack T → Note T (Line T) → Type 0
  IsNoteOf c n = IsNoteWith no_rule c n

  -- a put of x, by its operation: the put of the value that the operation has is a put of x too
  abbrev pub IsPutting : Stack T → T → PutOp T → Type 0
  IsPutting c x op = Makes (machine_of c) (put_account c.table.shared.key) c.table.shared.table_id (is_call (Put x)) op

  abbrev pub IsTaking : Stack T → TakeOp T → Type 0
  IsTaking c op = Makes (machine_of c) (take_account c.table.shared.key) c.table.shared.table_id (is_call Take) op

  abbrev pub IsClosing : Stack T → CloseOp T → Type 0
  IsClosing c op = Makes (machine_of c) (mark_account c.table.shared.key) c.table.shared.table_id (is_call Close) op

  abbrev pub IsShutting : Stack T → ShutOp T → Type 0
  IsShutting c op = Makes (machine_of c) (mark_account c.table.shared.key) c.table.shared.table_id (is_call Shut) op

  abbrev pub IsLooking : Stack T → LookOp T → Type 0
  IsLooking c op = Makes (machine_of c) (look_account c.table.shared.key) c.table.shared.table_id (is_call Look) op

  -- an operation that makes this call
  abbrev pub IsMakingCall : Stack T → Command T → AnyOp T → Type 0
  IsMakingCall c call op = Makes (machine_of c) (every_account c.table.shared.key) c.table.shared.table_id (is_call call) op

  -- its pass as it was begun, and as it is now
  abbrev pub making : AnyOp T → Underway T
  making op = underway_in names op.pass

module _ {T : Type 0} (rule : List (Event T) → Type 0) {D : Type 0} (c : StackWith T D) (o : Operation T) (begun : PassView T) (back : Pass T) where
  -- A call of this operation was begun once, when its pass was `begun`. The machine's steps of that pass since then, each an act of its
  -- own, led the operation from its first line to this answer. The pass's count is that of its acts
  abbrev pub WasRunWith : Answer T → Type 0
  WasRunWith answer = HasRun (machine_with rule c) o back.pass.seat.me.0 begun (ends answer)

  -- the same of a fold, whose machine answers with the values of its take, in the order in which it folded them
  abbrev pub WasFoldedWith : Front → Result Folded TakeRefused → Type 0
  WasFoldedWith front (Ok folded) = (values : List T) × FoldGives begun (pass_in back) values folded.number × WasRunWith (AnswerFold (Ok (in_order (direction front) values, folded.number)))
  WasFoldedWith front (Err why) = WasRunWith (AnswerFold (Err why))

-- and of a stack with no rule
module _ {T : Type 0} (c : Stack T) (o : Operation T) (begun : PassView T) (back : Pass T) where
  abbrev pub WasRun : Answer T → Type 0
  WasRun answer = WasRunWith no_rule c o begun back answer

  abbrev pub WasFolded : Front → Result Folded TakeRefused → Type 0
  WasFolded front r = WasFoldedWith no_rule c o begun back front r

-- the operation is a put of these values, of which there is one
abbrev pub IsRange : {T : Type 0} → Operation T → List T → Type 0
IsRange o [] = ⊥
IsRange o (v ∷ vs) = machine_call o ≡ CallPut v vs

-- Whether a put of these values, in the order of a range, was a call of the machine, by its answer. An empty range is no call. Any other
-- range answered its number and the values that stayed, or a refusal and all its values
abbrev pub MatchCall : {T : Type 0} → List T → Result Ranged RangeRefused → Type 0 → (Answer T → Type 0) → Type 0
MatchCall vs (Ok r) none Call = Call (AnswerPut (Ok (r.number, drop r.count vs)))
MatchCall vs (Err Nothing) none Call = none
MatchCall vs (Err Full) none Call = Call (AnswerPut (Err (PutFull vs)))
MatchCall vs (Err Closed) none Call = Call (AnswerPut (Err (PutClosed vs)))
MatchCall vs (Err (Spent word t)) none Call = Call (AnswerPut (Err (PutSpent vs word t)))

-- the machine has run, as one call
abbrev pub WasRangeWith : {T : Type 0} → (List (Event T) → Type 0) → {D : Type 0} → StackWith T D → PassView T → List T → Result Ranged RangeRefused → Pass T → Type 0
WasRangeWith {T} rule c begun vs r back = MatchCall vs r (pass_in back ≡ begun) (λ a. (o : Operation T) × IsRange o vs × WasRunWith rule c o begun back a)

abbrev pub WasRange : {T : Type 0} → Stack T → PassView T → List T → Result Ranged RangeRefused → Pass T → Type 0
WasRange c begun vs r back = WasRangeWith no_rule c begun vs r back

-- A gauge of a stack of n nodes with this limit changes nothing. It shows how the stack was at some time
-- between what its pass had seen as the gauge was begun, v, and as it ended, w
abbrev pub GaugeGives : {T : Type 0} → ℕ → ℕ → PassView T → PassView T → Gauge → Type 0
GaugeGives n limit v w g = Adds v w [] × Sometime v.seen w.seen (IsGauged n limit g.closed g.used)

-- A call that made a bounded number of steps. It is still under way, begun as before, or it was run as a whole call is and gave what that
-- gives.
module _ {T : Type 0} (c : Stack T) where
  abbrev pub PutTried : T → PassView T → Stepped (PutOp T) (Pass T) (Result ℕ (PutRefused T)) → Type 0
  PutTried x begun made = MatchStepped made
      (λ next. IsPutting c x next × (begun_of c next.pass ≡ begun))
      (λ back answer. IsPassOf c back × (PutGives (shape_of c) begun x (pass_in back) answer × Answers begun (pass_in back) (put_answered answer))
      × WasRunBy (machine_of c) (put_account c.table.shared.key) (is_call (Put x)) begun back answer)

  abbrev pub LookTried : PassView T → Stepped (LookOp T) (Pass T) Bool → Type 0
  LookTried begun made = MatchStepped made
      (λ next. IsLooking c next × (begun_of c next.pass ≡ begun))
      (λ back empty. IsPassOf c back × (LookGives (shape_of c) begun (pass_in back) empty × Answers begun (pass_in back) (answered.Look empty))
      × WasRunBy (machine_of c) (look_account c.table.shared.key) (is_call Look) begun back empty)

  abbrev pub TakeTried : PassView T → Stepped (TakeOp T) (Pass T) (Result (T × ℕ) TakeRefused) → Type 0
  TakeTried begun made = MatchStepped made
      (λ next. IsTaking c next × (begun_of c next.pass ≡ begun))
      (λ back answer. IsPassOf c back × (TakeGives (shape_of c) begun (pass_in back) answer × Answers begun (pass_in back) (answered.Take answer))
      × WasRunBy (machine_of c) (take_account c.table.shared.key) (is_call Take) begun back answer)
