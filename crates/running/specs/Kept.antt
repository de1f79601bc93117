-- Passes with what they keep: which are a container's, and what an operation gives back with its own.
use Rattle.std.specs.Prelude.{◌≡◌, ◌≤◌, ◌+◌, ℕ}
use Rattle.atomic_table.specs.Seated.{TableId}
use Rattle.bounded_model.specs.declared.answers.Stepped.{Stepped}
use Rattle.bounded_model.specs.declared.views.PassView.{PassView}
use Rattle.bounded_model.specs.declared.views.RootView.{RootView}
use Rattle.bounded_model.specs.Stepping.{Underway, GoesOn, MatchStepped, OneStep}
use Rattle.machine.specs.declared.seats.View.{View}
use Rattle.machine.specs.declared.seats.View.TheVariants.{AtPass}
use Rattle.machine.specs.Seats.{Acts, pass_of as pass_seen}
use Rattle.running.specs.Code.{Account}
use Rattle.running.specs.Going.{Ended, HasRun, IsLine}
use Rattle.running.specs.Machine.{Names, Machine}
use Rattle.running.specs.Ops.{IsUnderWay, underway_of}
use Rattle.running.specs.Passes as passes
use Rattle.running.specs.Rule.{begun_now}
use Rattle.running.specs.Since.{BeganSince}
use Rattle.running.specs.declared.op.Op.{Op}
use Rattle.running.specs.declared.kept.Answered.{Answered}
use Rattle.running.specs.declared.kept.PassWith.{PassWith}
use Rattle.running.specs.declared.kept.RootWith.{RootWith}
use Rattle.running.specs.declared.passes.Pass.{Pass}

module _ {T L K : Type 0} where
  abbrev pub pass_in : PassWith T L K → PassView T
  pass_in p = passes.pass_in p.pass

  abbrev pub root_in : RootWith T L K → RootView T
  root_in r = passes.root_in r.root

  -- the acts that a pass and a root keep
  abbrev pub acts_in : PassWith T L K → Acts L
  acts_in p = passes.acts_in p.pass

  abbrev pub acts_of_root : RootWith T L K → Acts L
  acts_of_root r = passes.acts_of_root r.root

  -- Of the acts that the pass keeps after a call, these are new: it has begun that call since, after all that it kept before
  abbrev pub HasNewCall : PassWith T L K → PassWith T L K → Type 0
  HasNewCall by back = BeganSince (acts_in by) (acts_in back) (pass_in by).number

-- what an operation has answered, from the pass that is back and the reply
abbrev pub answer_of : {T L K R : Type 0} → PassWith T L K → R → Answered K R
answer_of back reply = record { kept = back.kept; reply = reply }

-- the pass of an operation as it was begun, and as it is now
module _ {T L O : Type 0} (names : Names L O) where
  abbrev pub begun_at : View T L → PassView T
  begun_at (AtPass p from l) = begun_now names p from l
  begun_at v = pass_seen v

  abbrev pub underway_in : Pass T L → Underway T
  underway_in p = record { begun = begun_at p.seat.me.0; now = passes.pass_in p }

module _ {T L O K : Type 0} {names : Names L O} (m : Machine T L O names) where
  -- a pass between its operations, which keeps what its line says
  pub record IsPassAt (Keeps : L → K → Type 0) (id : TableId) (p : PassWith T L K) : Type 0 where
    pub on : passes.IsPassOn m id p.pass
    pub keeps : Keeps (passes.pass_line names p.pass) p.kept

  -- a root between its calls, with the stock that its line says
  pub record IsRootAt (Stocks : L → K → Type 0) (id : TableId) (r : RootWith T L K) : Type 0 where
    pub on : passes.IsRootOn m id r.root
    pub stocks : Stocks (passes.root_line names r.root) r.stock

-- an operation that makes a call
module _ {T L O S A : Type 0} {names : Names L O} (m : Machine T L O names) (c : Account T L O S A) (id : TableId) where
  pub record Makes (IsCall : O → Type 0) (op : Op T L O S) : Type 0 where
    pub call : IsCall op.operation
    pub under_way : IsUnderWay m c id op

-- A call was begun once, when its pass was `begun`. The machine's steps of that pass since then, each an act of its own, led its operation
-- from the first line to this answer
module _ {T L O K R S : Type 0} {names : Names L O} (m : Machine T L O names) (c : Account T L O S (Answered K R)) (IsCall : O → Type 0) where
  pub record WasRun (begun : PassView T) (back : PassWith T L K) (reply : R) : Type 0 where
    pub operation : O
    pub call : IsCall operation
    pub ran : HasRun m operation back.pass.seat.me.0 begun (c.answer operation (answer_of back reply))

-- a call that made some steps: it is under way, begun as before, or it was run and has given what it gives
module _ {T L O K R S : Type 0} {names : Names L O} (m : Machine T L O names) (c : Account T L O S (Answered K R)) (Keeps : L → K → Type 0) (id : TableId) (IsCall : O → Type 0) (begun : PassView T) (Gives : PassView T → R → Type 0) where
  abbrev pub Tried : Stepped (Op T L O S) (PassWith T L K) R → Type 0
  Tried made = MatchStepped made
      (λ next. Makes m c id IsCall next × (passes.begun_of m next.pass ≡ begun))
      (λ back reply. IsPassAt m Keeps id back × Gives (pass_in back) reply × WasRun m c IsCall begun back reply)

-- what an operation gives that stops only with its reply
module _ {T L O K R S : Type 0} {names : Names L O} (m : Machine T L O names) (c : Account T L O S (Answered K R)) (Keeps : L → K → Type 0) (id : TableId) (Gives : O → PassView T → PassView T → R → Type 0) where
  -- the operation o, begun as its pass was `begun`, has ended: its pass is back, and its reply tells what it promises
  pub record Returned (o : O) (begun : PassView T) (back : PassWith T L K) (reply : R) : Type 0 where
    pub of : IsPassAt m Keeps id back
    pub gives : Gives o begun (pass_in back) reply
    pub ended : Ended m o back.pass.seat.me.0 begun (c.answer o (answer_of back reply))
    pub ran : HasRun m o back.pass.seat.me.0 begun (c.answer o (answer_of back reply))

  -- some steps of a whole call: it is under way, begun as before, or its pass is back
  abbrev pub Took : O → PassView T → Stepped (Op T L O S) (PassWith T L K) R → Type 0
  Took o begun made = MatchStepped made
      (λ next. (next.operation ≡ o) × IsUnderWay m c id next × (passes.begun_of m next.pass ≡ begun))
      (Returned o begun)

  -- one step: it continues as the same operation, or its pass is back; the step was that of its line
  abbrev pub OpSteps : Op T L O S → Stepped (Op T L O S) (PassWith T L K) R → Type 0
  OpSteps op made = MatchStepped made
      (λ next. IsUnderWay m c id next × GoesOn (underway_of m op.pass) (underway_of m next.pass) × (next.operation ≡ op.operation)
      × IsLine m op.pass.seat.me.0 next.pass.seat.me.0 (c.line op.at) (c.line next.at))
      (λ back reply. Returned op.operation (passes.begun_of m op.pass) back reply × OneStep (passes.pass_in op.pass) (pass_in back)
      × IsLine m op.pass.seat.me.0 back.pass.seat.me.0 (c.line op.at) (c.answer op.operation (answer_of back reply)))

  -- n steps: it continues as the same operation after exactly n, or its pass is back after at most n
  abbrev pub OpRunsFor : ℕ → Op T L O S → Stepped (Op T L O S) (PassWith T L K) R → Type 0
  OpRunsFor n op made = MatchStepped made
      (λ next. IsUnderWay m c id next × (passes.begun_of m next.pass ≡ passes.begun_of m op.pass) × (next.operation ≡ op.operation)
      × ((passes.pass_in next.pass).steps ≡ (passes.pass_in op.pass).steps + n))
      (λ back reply. Returned op.operation (passes.begun_of m op.pass) back reply × ((pass_in back).steps ≤ (passes.pass_in op.pass).steps + n))
