-- What a queue, its passes and its roots are, and what its calls promise. The laws of a call (`PutGives` and the like) are those of every
-- container. How a state of an operation is read as a line of the machine is said below code/.
use Rattle.std.specs.Prelude.{ℕ, List, [], ◌≡◌, Result, Bool}
use Rattle.running.specs.Kept as kept
use Rattle.running.specs.Machine as running
use Rattle.running.specs.Passes as passes
use Rattle.bounded_model.specs.declared.views.Answered.TheVariants as answered
use Rattle.ms_queue.specs.Prelude.{Adds, Answer, AnswerLen, Answers, Close, Command, Event, Free, HasRun, IsGauged, IsUnderWay, LenFirst, LenGives, Limits, Line}
use Rattle.ms_queue.specs.Prelude.{Look, LookGives, Makes, MatchStepped, Note, Op, Operation, PassView, PassWith, Put, PutGives, PutRefused, RootView}
use Rattle.ms_queue.specs.Prelude.{RootWith, Shape, Shut, Sometime, Stepped, Take, TakeGives, TakeRefused, Underway, WasRunBy, begun_of, capacity_of}
use Rattle.ms_queue.specs.Prelude.{ends, names, put_answered, tag_limit_of, underway_in}
use Rattle.ms_queue.specs.declared.life.queue.Queue as declared
use Rattle.ms_queue.specs.declared.code.putting.PutAt.{PutAt}
use Rattle.ms_queue.specs.declared.code.taking.TakeAt.{TakeAt}
use Rattle.ms_queue.specs.declared.code.closing.CloseAt.{CloseAt}
use Rattle.ms_queue.specs.declared.code.shutting.ShutAt.{ShutAt}
use Rattle.ms_queue.specs.declared.code.looking.LookAt.{LookAt}
use Rattle.ms_queue.specs.declared.code.counting.LenAt.{LenAt}
use Rattle.ms_queue.specs.declared.code.gauging.GaugeAt.{GaugeAt}
use Rattle.ms_queue.specs.declared.code.every.QueueAt.{QueueAt}
use Rattle.ms_queue.specs.code.Machine.{machine_at, machine_for, no_rule, is_call}
use Rattle.ms_queue.specs.code.Putting.{put_account}
use Rattle.ms_queue.specs.code.Taking.{take_account}
use Rattle.ms_queue.specs.code.Closing.{close_account}
use Rattle.ms_queue.specs.code.Shutting.{shut_account}
use Rattle.ms_queue.specs.code.Looking.{look_account}
use Rattle.ms_queue.specs.code.Counting.{len_account}
use Rattle.ms_queue.specs.code.Gauging.{gauge_account}
use Rattle.ms_queue.specs.code.Every.{every_account}
use Rattle.ms_queue.specs.declared.calls.gauging.Gauge.{Gauge}

-- a queue whose client has given it a rule, and one with none; its passes and its root, and the operations that its calls begin
abbrev pub QueueWith : Type 0 → Type 0 → Type 0
QueueWith T D = declared.Queue T D

abbrev pub Queue : Type 0 → Type 0
Queue T = QueueWith T Free

abbrev pub Pass : Type 0 → Type 0
Pass T = PassWith T (Line T) (Unit {0})

abbrev pub Root : Type 0 → Type 0
Root T = RootWith T (Line T) (Unit {0})

abbrev pub PutOp : Type 0 → Type 0
PutOp T = Op T (Line T) (Operation T) (PutAt T)

abbrev pub TakeOp : Type 0 → Type 0
TakeOp T = Op T (Line T) (Operation T) (TakeAt T)

abbrev pub CloseOp : Type 0 → Type 0
CloseOp T = Op T (Line T) (Operation T) CloseAt

abbrev pub ShutOp : Type 0 → Type 0
ShutOp T = Op T (Line T) (Operation T) ShutAt

abbrev pub LookOp : Type 0 → Type 0
LookOp T = Op T (Line T) (Operation T) LookAt

abbrev pub LenOp : Type 0 → Type 0
LenOp T = Op T (Line T) (Operation T) LenAt

abbrev pub GaugeOp : Type 0 → Type 0
GaugeOp T = Op T (Line T) (Operation T) GaugeAt

abbrev pub AnyOp : Type 0 → Type 0
AnyOp T = Op T (Line T) (Operation T) (QueueAt T)

module _ {T : Type 0} where
  -- a pass keeps nothing between its calls, and a root has nothing for the passes that are not out
  abbrev pub keeps : Line T → Unit {0} → Type 0
  keeps l has = Unit {0}

  abbrev pub stocks : Limits → Line T → Unit {0} → Type 0
  stocks k l stock = Unit {0}

  abbrev pub pass_in : Pass T → PassView T
  pass_in p = kept.pass_in p

  abbrev pub root_in : Root T → RootView T
  root_in r = kept.root_in r

  -- how many values it has room for, and the limit of its tags
  abbrev pub room_of : {D : Type 0} → QueueWith T D → ℕ
  room_of c = capacity_of c.table.shared.key

  abbrev pub limit_of : {D : Type 0} → QueueWith T D → ℕ
  limit_of c = tag_limit_of c.table.shared.key

  abbrev pub machine_of : {D : Type 0} → QueueWith T D → running.Machine T (Line T) (Operation T) names
  machine_of c = machine_at c.table.shared.key

  abbrev pub shape_of : {D : Type 0} → QueueWith T D → Shape
  shape_of c = (machine_of c).core.shape

  -- With a client's rule: its machine, a pass between its operations, a root between its calls, and a note of one of its passes. What they have
  -- seen keeps the rule
  module _ (rule : List (Event T) → Type 0) {D : Type 0} where
    abbrev pub machine_with : QueueWith T D → running.Machine T (Line T) (Operation T) names
    machine_with c = machine_for rule c.table.shared.key

    abbrev pub IsPassWith : QueueWith T D → Pass T → Type 0
    IsPassWith c p = kept.IsPassAt (machine_with c) keeps c.table.shared.table_id p

    abbrev pub IsRootWith : QueueWith T D → Root T → Type 0
    IsRootWith c r = kept.IsRootAt (machine_with c) (stocks c.table.shared.key) c.table.shared.table_id r

    abbrev pub IsNoteWith : QueueWith T D → Note T (Line T) → Type 0
    IsNoteWith c n = passes.IsNoteOn (machine_with c) c.table.shared.table_id n

  -- and of a queue with none
  abbrev pub IsPassOf : Queue T → Pass T → Type 0
  IsPassOf c p = IsPassWith no_rule c p

  abbrev pub IsRootOf : Queue T → Root T → Type 0
  IsRootOf c r = IsRootWith no_rule c r

  abbrev pub IsNoteOf : Queue T → Note T (Line T) → Type 0
  IsNoteOf c n = IsNoteWith no_rule c n

  -- a put of x, by its operation: the put of the value that the operation has is a put of x too
  abbrev pub IsPutting : Queue T → T → PutOp T → Type 0
  IsPutting c x op = Makes (machine_of c) (put_account c.table.shared.key) c.table.shared.table_id (is_call (Put x)) op

  abbrev pub IsTaking : Queue T → TakeOp T → Type 0
  IsTaking c op = Makes (machine_of c) (take_account c.table.shared.key) c.table.shared.table_id (is_call Take) op

  abbrev pub IsClosing : Queue T → CloseOp T → Type 0
  IsClosing c op = Makes (machine_of c) (close_account c.table.shared.key) c.table.shared.table_id (is_call Close) op

  abbrev pub IsShutting : Queue T → ShutOp T → Type 0
  IsShutting c op = Makes (machine_of c) (shut_account c.table.shared.key) c.table.shared.table_id (is_call Shut) op

  abbrev pub IsLooking : Queue T → LookOp T → Type 0
  IsLooking c op = Makes (machine_of c) (look_account c.table.shared.key) c.table.shared.table_id (is_call Look) op

  abbrev pub IsCounting : Queue T → LenOp T → Type 0
  IsCounting c op = IsUnderWay (machine_of c) (len_account c.table.shared.key) c.table.shared.table_id op

  abbrev pub IsGauging : Queue T → GaugeOp T → Type 0
  IsGauging c op = IsUnderWay (machine_of c) (gauge_account c.table.shared.key) c.table.shared.table_id op

  -- an operation that makes this call
  abbrev pub IsMakingCall : Queue T → Command T → AnyOp T → Type 0
  IsMakingCall c call op = Makes (machine_of c) (every_account c.table.shared.key) c.table.shared.table_id (is_call call) op

  -- its pass as it was begun, and as it is now
  abbrev pub making : AnyOp T → Underway T
  making op = underway_in names op.pass

-- A call of this operation was begun once, when its pass was `begun`. The machine's steps of that pass since then, each an act of its own,
-- led the operation from its first line to this answer. The pass's count is that of its acts
abbrev pub WasRunWith : {T : Type 0} → (List (Event T) → Type 0) → {D : Type 0} → QueueWith T D → Operation T → PassView T → Pass T → Answer T → Type 0
WasRunWith rule c o begun back answer = HasRun (machine_with rule c) o back.pass.seat.me.0 begun (ends answer)

abbrev pub WasRun : {T : Type 0} → Queue T → Operation T → PassView T → Pass T → Answer T → Type 0
WasRun c o begun back answer = WasRunWith no_rule c o begun back answer

-- A gauge of a queue of n cells with this limit changes nothing. It shows how the queue was at some time
-- between what its pass had seen as the gauge was begun, v, and as it ended, w
abbrev pub GaugeGives : {T : Type 0} → ℕ → ℕ → PassView T → PassView T → Gauge → Type 0
GaugeGives n limit v w g = Adds v w [] × Sometime v.seen w.seen (IsGauged n limit g.closed g.used)

-- A call that made a bounded number of steps. It is still under way, begun as before, or it was run as a whole call is and gave what that
-- gives.
module _ {T : Type 0} (c : Queue T) where
  abbrev pub PutTried : T → PassView T → Stepped (PutOp T) (Pass T) (Result ℕ (PutRefused T)) → Type 0
  PutTried x begun made = MatchStepped made
      (λ next. IsPutting c x next × (begun_of (machine_of c) next.pass ≡ begun))
      (λ back answer. IsPassOf c back × (PutGives (shape_of c) begun x (pass_in back) answer × Answers begun (pass_in back) (put_answered answer))
      × WasRunBy (machine_of c) (put_account c.table.shared.key) (is_call (Put x)) begun back answer)

  abbrev pub TakeTried : PassView T → Stepped (TakeOp T) (Pass T) (Result (T × ℕ) TakeRefused) → Type 0
  TakeTried begun made = MatchStepped made
      (λ next. IsTaking c next × (begun_of (machine_of c) next.pass ≡ begun))
      (λ back answer. IsPassOf c back × (TakeGives (shape_of c) begun (pass_in back) answer × Answers begun (pass_in back) (answered.Take answer))
      × WasRunBy (machine_of c) (take_account c.table.shared.key) (is_call Take) begun back answer)

  abbrev pub LookTried : PassView T → Stepped (LookOp T) (Pass T) Bool → Type 0
  LookTried begun made = MatchStepped made
      (λ next. IsLooking c next × (begun_of (machine_of c) next.pass ≡ begun))
      (λ back empty. IsPassOf c back × (LookGives (shape_of c) begun (pass_in back) empty × Answers begun (pass_in back) (answered.Look empty))
      × WasRunBy (machine_of c) (look_account c.table.shared.key) (is_call Look) begun back empty)

  abbrev pub LenTried : PassView T → Stepped (LenOp T) (Pass T) ℕ → Type 0
  LenTried begun made = MatchStepped made
      (λ next. IsCounting c next × (begun_of (machine_of c) next.pass ≡ begun))
      (λ back count. IsPassOf c back × (LenGives (shape_of c) begun (pass_in back) count × Answers begun (pass_in back) (answered.Len count))
      × HasRun (machine_of c) LenFirst back.pass.seat.me.0 begun (ends (AnswerLen count)))
