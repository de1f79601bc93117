-- What a ring, its passes and its roots are, and what its calls promise. The laws of a call (`PutGives` and the like) are those of every
-- container. How a state of an operation is read as a line of the machine is said below code/.
use Rattle.std.specs.Prelude.{Vec, ℕ, List, map, reverse, ◌≡◌, ◌≤◌, vec_capacity, [], Result, Bool, Err}
use Rattle.std.specs.declared.alloc.Global.{Global}
use Rattle.running.specs.Kept as kept
use Rattle.tagged_index.specs.Limits as limits
use Rattle.running.specs.Machine as running
use Rattle.running.specs.Passes as passes
use Rattle.bounded_model.specs.declared.views.Answered.TheVariants as answered
use Rattle.ring_queue.specs.Prelude.{Adds, Answer, Answers, At, Close, Command, Event, Free, Full, HasAllPuts, HasAllValues, HasRun, IsGauged, IsOpen, IsUnderWay}
use Rattle.ring_queue.specs.Prelude.{Limits, Look, LookGives, Makes, MatchStepped, Note, Op, Operation, PassView, PassWith, Put, PutGives, PutRefused}
use Rattle.ring_queue.specs.Prelude.{RootView, RootWith, SeatLine, Shape, Shut, Sometime, Spent, Stepped, Stock, Take, TakeGives, TakeRefused}
use Rattle.ring_queue.specs.Prelude.{Underway, WasRunBy, begun_of, capacity_of, ends, names, passes_of as passes_at, put_answered, resting}
use Rattle.ring_queue.specs.Prelude.{underway_in}
use Rattle.ring_queue.specs.declared.life.ring.RingQueue as declared
use Rattle.ring_queue.specs.declared.life.spare.Spare.{Spare}
use Rattle.ring_queue.specs.declared.code.putting.PutAt.{PutAt}
use Rattle.ring_queue.specs.declared.code.taking.TakeAt.{TakeAt}
use Rattle.ring_queue.specs.declared.code.closing.MarkAt.{MarkAt}
use Rattle.ring_queue.specs.declared.code.looking.LookAt.{LookAt}
use Rattle.ring_queue.specs.declared.code.counting.LenAt.{LenAt}
use Rattle.ring_queue.specs.declared.code.gauging.GaugeAt.{GaugeAt}
use Rattle.ring_queue.specs.declared.code.every.RingAt.{RingAt}
use Rattle.ring_queue.specs.code.Machine.{laps_at, machine_at, machine_for, no_rule, is_call}
use Rattle.ring_queue.specs.code.Putting.{put_account}
use Rattle.ring_queue.specs.code.Taking.{take_account}
use Rattle.ring_queue.specs.code.Closing.{mark_account}
use Rattle.ring_queue.specs.code.Looking.{look_account}
use Rattle.ring_queue.specs.code.Counting.{len_account}
use Rattle.ring_queue.specs.code.Gauging.{gauge_account}
use Rattle.ring_queue.specs.code.Every.{every_account}
use Rattle.ring_queue.specs.declared.calls.gauging.Gauge.{Gauge}

-- a ring whose client has given it a rule, and one with none; its passes and its root, and the operations that its calls begin
abbrev pub RingWith : Type 0 → Type 0 → Type 0
RingWith T D = declared.RingQueue T D

abbrev pub RingQueue : Type 0 → Type 0
RingQueue T = RingWith T Free

abbrev pub Pass : Type 0 → Type 0
Pass T = PassWith T (SeatLine T) Spare

abbrev pub Root : Type 0 → Type 0
Root T = RootWith T (SeatLine T) (Vec Spare Global)

abbrev pub PutOp : Type 0 → Type 0
PutOp T = Op T (SeatLine T) (Operation T) (PutAt T)

abbrev pub TakeOp : Type 0 → Type 0
TakeOp T = Op T (SeatLine T) (Operation T) (TakeAt T)

abbrev pub CloseOp : Type 0 → Type 0
CloseOp T = Op T (SeatLine T) (Operation T) MarkAt

abbrev pub ShutOp : Type 0 → Type 0
ShutOp T = CloseOp T

abbrev pub LookOp : Type 0 → Type 0
LookOp T = Op T (SeatLine T) (Operation T) LookAt

abbrev pub LenOp : Type 0 → Type 0
LenOp T = Op T (SeatLine T) (Operation T) LenAt

abbrev pub GaugeOp : Type 0 → Type 0
GaugeOp T = Op T (SeatLine T) (Operation T) GaugeAt

abbrev pub AnyOp : Type 0 → Type 0
AnyOp T = Op T (SeatLine T) (Operation T) (RingAt T)

-- the spare cells that a root has, in the order in which it gives them: the last first
abbrev pub cells_of : List Spare → List ℕ
cells_of spares = map (λ s. s.index) (reverse spares)

module _ {T : Type 0} where
  -- the line of a pass between its calls says which cell is its spare one
  abbrev pub keeps : SeatLine T → Spare → Type 0
  keeps l spare = l ≡ At (resting spare.index)

  abbrev pub pass_in : Pass T → PassView T
  pass_in p = kept.pass_in p

-- its line says which spare cells a root has
pub record Stocks {T : Type 0} (k : Limits) (l : SeatLine T) (stock : Vec Spare Global) : Type 0 where
  pub is : l ≡ Stock (cells_of stock.items)
  pub room : passes_at k ≤ vec_capacity stock

abbrev pub root_in : {T : Type 0} → Root T → RootView T
root_in r = kept.root_in r

module _ {T : Type 0} where
  -- how many slots it has, how often each of them can be filled, and for how many passes it is
  abbrev pub room_of : {D : Type 0} → RingWith T D → ℕ
  room_of c = capacity_of c.table.shared.key

  abbrev pub laps_of : {D : Type 0} → RingWith T D → ℕ
  laps_of c = laps_at c.table.shared.key

  abbrev pub passes_of : {D : Type 0} → RingWith T D → ℕ
  passes_of c = limits.passes_of c.table.shared.key

  abbrev pub machine_of : {D : Type 0} → RingWith T D → running.Machine T (SeatLine T) (Operation T) names
  machine_of c = machine_at c.table.shared.key

  abbrev pub shape_of : {D : Type 0} → RingWith T D → Shape
  shape_of c = (machine_of c).core.shape

  -- With a client's rule: its machine, a pass between its operations, a root between its calls, and a note of one of its passes. What they have
  -- seen keeps the rule
  module _ (rule : List (Event T) → Type 0) {D : Type 0} where
    abbrev pub machine_with : RingWith T D → running.Machine T (SeatLine T) (Operation T) names
    machine_with c = machine_for rule c.table.shared.key

    abbrev pub IsPassWith : RingWith T D → Pass T → Type 0
    IsPassWith c p = kept.IsPassAt (machine_with c) keeps c.table.shared.table_id p

    abbrev pub IsRootWith : RingWith T D → Root T → Type 0
    IsRootWith c r = kept.IsRootAt (machine_with c) (Stocks c.table.shared.key) c.table.shared.table_id r

    abbrev pub IsNoteWith : RingWith T D → Note T (SeatLine T) → Type 0
    IsNoteWith c n = passes.IsNoteOn (machine_with c) c.table.shared.table_id n

  -- and of a ring with none
  abbrev pub IsPassOf : RingQueue T → Pass T → Type 0
  IsPassOf c p = IsPassWith no_rule c p

  abbrev pub IsRootOf : RingQueue T → Root T → Type 0
  IsRootOf c r = IsRootWith no_rule c r

  abbrev pub IsNoteOf : RingQueue T → Note T (SeatLine T) → Type 0
  IsNoteOf c n = IsNoteWith no_rule c n

  -- a put of x, by its operation: the put of the value that the operation has is a put of x too
  abbrev pub IsPutting : RingQueue T → T → PutOp T → Type 0
  IsPutting c x op = Makes (machine_of c) (put_account c.table.shared.key) c.table.shared.table_id (is_call (Put x)) op

  abbrev pub IsTaking : RingQueue T → TakeOp T → Type 0
  IsTaking c op = Makes (machine_of c) (take_account c.table.shared.key) c.table.shared.table_id (is_call Take) op

  abbrev pub IsClosing : RingQueue T → CloseOp T → Type 0
  IsClosing c op = Makes (machine_of c) (mark_account c.table.shared.key) c.table.shared.table_id (is_call Close) op

  abbrev pub IsShutting : RingQueue T → ShutOp T → Type 0
  IsShutting c op = Makes (machine_of c) (mark_account c.table.shared.key) c.table.shared.table_id (is_call Shut) op

  abbrev pub IsLooking : RingQueue T → LookOp T → Type 0
  IsLooking c op = Makes (machine_of c) (look_account c.table.shared.key) c.table.shared.table_id (is_call Look) op

  abbrev pub IsCounting : RingQueue T → LenOp T → Type 0
  IsCounting c op = IsUnderWay (machine_of c) (len_account c.table.shared.key) c.table.shared.table_id op

  abbrev pub IsGauging : RingQueue T → GaugeOp T → Type 0
  IsGauging c op = IsUnderWay (machine_of c) (gauge_account c.table.shared.key) c.table.shared.table_id op

  -- an operation that makes this call
  abbrev pub IsMakingCall : RingQueue T → Command T → AnyOp T → Type 0
  IsMakingCall c call op = Makes (machine_of c) (every_account c.table.shared.key) c.table.shared.table_id (is_call call) op

  -- its pass as it was begun, and as it is now
  abbrev pub making : AnyOp T → Underway T
  making op = underway_in names op.pass

-- A call of this operation was begun once, as its pass was `begun`. Since then the machine's steps of that pass, each an act of its own,
-- led the operation from its first line to this answer. The steps that the pass has counted are these acts
abbrev pub WasRunWith : {T : Type 0} → (List (Event T) → Type 0) → {D : Type 0} → RingWith T D → Operation T → PassView T → Pass T → Answer T → Type 0
WasRunWith rule c o begun back answer = HasRun (machine_with rule c) o back.pass.seat.me.0 begun (At (ends back.kept.index answer))

abbrev pub WasRun : {T : Type 0} → RingQueue T → Operation T → PassView T → Pass T → Answer T → Type 0
WasRun c o begun back answer = WasRunWith no_rule c o begun back answer

-- a ring of n slots, each of which can be filled `laps` times: a gauge changes nothing, and shows how the ring was at
-- some time between what its pass had seen as the gauge began, v, and as it ended, w
abbrev pub GaugeGives : {T : Type 0} → ℕ → ℕ → PassView T → PassView T → Gauge → Type 0
GaugeGives n laps v w g = Adds v w [] × Sometime v.seen w.seen (IsGauged n laps g.closed g.used)

-- A call that made a bounded number of steps. It is still under way, begun as before, or it was run as a whole call is and gave what that
-- gives.
module _ {T : Type 0} (c : RingQueue T) where
  abbrev pub PutTried : T → PassView T → Stepped (PutOp T) (Pass T) (Result ℕ (PutRefused T)) → Type 0
  PutTried x begun made = MatchStepped made
      (λ next. IsPutting c x next × (begun_of (machine_of c) next.pass ≡ begun))
      (λ back answer. IsPassOf c back × (PutGives (shape_of c) begun x (pass_in back) answer × Answers begun (pass_in back) (put_answered answer))
      × WasRunBy (machine_of c) (put_account c.table.shared.key) (is_call (Put x)) begun back answer)

  abbrev pub LookTried : PassView T → Stepped (LookOp T) (Pass T) Bool → Type 0
  LookTried begun made = MatchStepped made
      (λ next. IsLooking c next × (begun_of (machine_of c) next.pass ≡ begun))
      (λ back empty. IsPassOf c back × (LookGives (shape_of c) begun (pass_in back) empty × Answers begun (pass_in back) (answered.Look empty))
      × WasRunBy (machine_of c) (look_account c.table.shared.key) (is_call Look) begun back empty)

  abbrev pub TakeTried : PassView T → Stepped (TakeOp T) (Pass T) (Result (T × ℕ) TakeRefused) → Type 0
  TakeTried begun made = MatchStepped made
      (λ next. IsTaking c next × (begun_of (machine_of c) next.pass ≡ begun))
      (λ back answer. IsPassOf c back × (TakeGives (shape_of c) begun (pass_in back) answer × Answers begun (pass_in back) (answered.Take answer))
      × WasRunBy (machine_of c) (take_account c.table.shared.key) (is_call Take) begun back answer)

-- why a put was refused, of a ring with any rule
module _ {T : Type 0} {D : Type 0} (c : RingWith T D) where
  -- if it was full: at some time of the call the ring was open, and each of its slots held a value
  abbrev pub FullTells : PassView T → PassView T → Result ℕ (PutRefused T) → Type 0
  FullTells v w (Err (Full x)) = Sometime v.seen w.seen (λ h. HasAllValues (shape_of c) h × IsOpen (shape_of c) h)
  FullTells v w r = Unit {0}

  -- if it was spent: at some time of the call each of its slots had been filled in each of its laps
  abbrev pub SpentTells : PassView T → PassView T → Result ℕ (PutRefused T) → Type 0
  SpentTells v w (Err (Spent x word t)) = Sometime v.seen w.seen (HasAllPuts (shape_of c) (laps_of c))
  SpentTells v w r = Unit {0}

  -- the same of a put that made a bounded number of steps, if these ended it
  abbrev pub FullTried : PassView T → Stepped (PutOp T) (Pass T) (Result ℕ (PutRefused T)) → Type 0
  FullTried v made = MatchStepped made (λ next. Unit {0}) (λ back r. FullTells v (pass_in back) r)

  abbrev pub SpentTried : PassView T → Stepped (PutOp T) (Pass T) (Result ℕ (PutRefused T)) → Type 0
  SpentTried v made = MatchStepped made (λ next. Unit {0}) (λ back r. SpentTells v (pass_in back) r)
