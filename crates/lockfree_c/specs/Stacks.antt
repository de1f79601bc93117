-- How a stack is read, and what its works give.
use Rattle.std.specs.Prelude.{◌≡◌, ℕ, ◌+◌, ◌*◌, List, [], length, false, Ok, Err}
use Rattle.bounded_model.specs.Laws.{Answers}
use Rattle.bounded_model.specs.declared.answers.Stepped.TheVariants as stepped
use Rattle.bounded_model.specs.declared.commands.Command.{Command}
use Rattle.bounded_model.specs.declared.commands.Command.TheVariants.{Look, Put, Take}
use Rattle.bounded_model.specs.declared.commands.Reply.{Reply}
use Rattle.bounded_model.specs.declared.views.Answered.TheVariants as answered
use Rattle.bounded_model.specs.declared.views.PassView.{PassView}
use Rattle.index_list.specs.declared.front.Front.{Front}
use Rattle.running.specs.Kept.{WasRun}
use Rattle.running.specs.Passes as passes
use Rattle.stack_machine.specs.Machine.{ends}
use Rattle.stack_machine.specs.declared.lines.Answer.TheVariants.{Gauge as AnswerGauge}
use Rattle.stack_machine.specs.declared.lines.Line.TheVariants.{LoadTopToGauge}
use Rattle.treiber_stack.specs.code.Machine.{is_call}
use Rattle.treiber_stack.specs.code.Every.{every_account}
use Rattle.treiber_stack.specs.Calls.{GaugeGives, AnyOp, IsMakingCall, making}
use Rattle.treiber_stack.specs.Bulk as bulk
use Rattle.treiber_stack.specs.Calls as stack
use Rattle.treiber_stack.specs.code.RangeTrying as ranging
use Rattle.treiber_stack.specs.code.Steps.{OneLine}
use Rattle.treiber_stack.specs.declared.bulk.fold_op.FoldMade.TheVariants as fold
use Rattle.lockfree_c.specs.Calls.{Reading, WorkedFor, steps_of}
use Rattle.lockfree_c.specs.declared.calls.stack.StackWork.{StackWork}
use Rattle.lockfree_c.specs.declared.calls.stack.StackWork.TheVariants.{Fold, Copy}
use Rattle.lockfree_c.specs.declared.work.Said.TheVariants as said
use Rattle.lockfree_c.specs.declared.work.Worked.{Worked}
use Rattle.lockfree_c.specs.declared.work.Worked.TheVariants.{Again, Value, Waits, Done}

abbrev pub Stack : Type 0
Stack = stack.Stack ℕ

abbrev pub StackMade : Type 0
StackMade = Worked StackWork (stack.Pass ℕ)

-- the pass of a work, as it is now
abbrev pub working : StackWork → PassView ℕ
working (Fold op) = passes.pass_in op.pass
working (Copy op) = passes.pass_in op.pass

-- a work whose pass was v has made at most n steps more
abbrev pub WorkedAtMost : ℕ → PassView ℕ → StackMade → Type 0
WorkedAtMost n v made = WorkedFor working stack.pass_in n v made

-- how many steps a number of tries of a call allows
abbrev pub stack_steps : ℕ → ℕ
stack_steps = steps_of 10 3

-- how many steps a number of tries of a fold and of a range allows
abbrev pub bulk_steps : ℕ → ℕ
bulk_steps = steps_of 10 3

-- the put of a range that was under way was tried for n steps a part
abbrev pub RangeTook : ℕ → ranging.RangeOp ℕ → StackMade → Type 0
RangeTook n op (Again (Copy next)) = bulk.RangeSteps n op (stepped.Again next)
RangeTook n op (Done back (said.Range answer)) = bulk.RangeSteps n op (stepped.Done back answer)
RangeTook n op made = ⊥

-- the steps of one that its pass began as v: those of a part that took its nodes, unless it is on its way back, and exactly n if it has no node yet
abbrev pub RangeWentOn : ℕ → PassView ℕ → ranging.RangeOp ℕ → Type 0
RangeWentOn n v op = ranging.gives_back op.at.at ≡ false → ranging.MadeWith n op.at.held.count v (passes.pass_in op.pass)
    × (op.at.held.count ≡ 0 → (passes.pass_in op.pass).steps ≡ v.steps + n)

-- the same of what it came to, if it is under way or was put
abbrev pub RangeTookFrom : ℕ → PassView ℕ → StackMade → Type 0
RangeTookFrom n v (Again (Copy next)) = RangeWentOn n v next
RangeTookFrom n v (Done back (said.Range (Ok put))) = ranging.MadeWith n put.count v (stack.pass_in back)
RangeTookFrom n v (Done back (said.Range (Err why))) = Unit {0}
RangeTookFrom n v made = ⊥

-- a put of these values was tried for n steps a part, and has made at most so many more, whatever it came to: `RangeMost` of the stack
abbrev pub RangeWorkedAtMost : ℕ → List ℕ → PassView ℕ → StackMade → Type 0
RangeWorkedAtMost n values v made = WorkedAtMost (length values * (n + 2) + 2 * n) v made

module _ (c : Stack) where
  -- a fold from this end, that had handed out these values and its pass began as v, was tried
  abbrev pub FoldTried : Front → List ℕ → PassView ℕ → StackMade → Type 0
  FoldTried front values v (Again (Fold next)) = bulk.FoldTried c front values v (fold.Again next)
  FoldTried front values v (Value x (Fold next)) = bulk.FoldTried c front values v (fold.Value x next)
  FoldTried front values v (Done back (said.Fold answer)) = bulk.FoldTried c front values v (fold.Done back answer)
  FoldTried front values v made = ⊥

  -- a put of these values from an array was tried
  abbrev pub CopyTried : List ℕ → PassView ℕ → StackMade → Type 0
  CopyTried values v (Again (Copy next)) = bulk.CopyTried c values v (stepped.Again next)
  CopyTried values v (Done back (said.Range answer)) = bulk.CopyTried c values v (stepped.Done back answer)
  CopyTried values v made = ⊥

  -- a gauge has shown how the stack was at one moment since its pass was v: it was one step, the load of the top, of the pass `by`, which was v
  abbrev pub GaugeTried : PassView ℕ → StackMade → Type 0
  GaugeTried v (Done back (said.Gauge closed used)) = stack.IsPassOf c back
      × GaugeGives (stack.room_of c) (stack.limit_of c) v (stack.pass_in back) (record { closed = closed; used = used })
      × Answers v (stack.pass_in back) (answered.Gauge closed used)
      × ((by : stack.Pass ℕ) × (stack.pass_in by ≡ v) × OneLine c by.pass back.pass LoadTopToGauge (ends (AnswerGauge closed used)))
  GaugeTried v made = ⊥

  -- a gauge is one step, whatever the number of tries
  abbrev pub Gauged : ℕ → PassView ℕ → StackMade → Type 0
  Gauged tries v made = GaugeTried v made × WorkedAtMost 1 v made

  -- a fold was begun and tried up to its first value
  abbrev pub Folded : ℕ → Front → PassView ℕ → StackMade → Type 0
  Folded tries front v made = FoldTried front [] v made × WorkedAtMost (bulk_steps tries) v made

  -- a put of an array was begun and tried
  abbrev pub Copied : ℕ → List ℕ → PassView ℕ → StackMade → Type 0
  Copied tries values v made = CopyTried values v made × RangeTookFrom (bulk_steps tries) v made
      × RangeWorkedAtMost (bulk_steps tries) values v made

  -- a put of an array that was under way was tried further
  abbrev pub CopiedOn : ℕ → List ℕ → ranging.RangeOp ℕ → StackMade → Type 0
  CopiedOn tries values op made = CopyTried values (stack.begun_of c op.pass) made × RangeTook (bulk_steps tries) op made
      × RangeWorkedAtMost (bulk_steps tries) values (passes.pass_in op.pass) made

  -- a fold that has handed out some values, or a put of an array
  abbrev pub IsStackWork : StackWork → Type 0
  IsStackWork (Fold op) = (front : Front) × (values : List ℕ) × bulk.IsFolding c front values op
  IsStackWork (Copy op) = (values : List ℕ) × bulk.IsCopying c values op

  -- it is tried further, from whichever end; a put of an array waits for its array
  abbrev pub StackWorksOn : ℕ → StackWork → StackMade → Type 0
  StackWorksOn tries (Fold op) made = ((front : Front) (values : List ℕ) → bulk.IsFolding c front values op → FoldTried front values (stack.begun_of c op.pass) made)
      × WorkedAtMost (bulk_steps tries) (passes.pass_in op.pass) made
  StackWorksOn tries (Copy op) made = made ≡ Waits (Copy op)

-- A call was begun once, when its pass was as `begun`. The machine's steps of that pass since then led it to this reply, in one proper run whose
-- history is what the pass has seen now
abbrev pub StackRan : Stack → PassView ℕ → Command ℕ → stack.Pass ℕ → Reply ℕ → Type 0
StackRan c begun call back said = WasRun (stack.machine_of c) (every_account c.table.shared.key) (is_call call) begun back said

-- the most steps that each call makes at once
abbrev pub stack_at_once : Command ℕ → ℕ
stack_at_once (Put x) = 6
stack_at_once Take = 6
stack_at_once Look = 1
stack_at_once call = 0

abbrev pub stack_reading : Stack → Reading (stack.Root ℕ) (stack.Pass ℕ) (AnyOp ℕ) StackWork
stack_reading c = record {
  shape = stack.shape_of c;
  is_root = stack.IsRootOf c;
  root = stack.root_in;
  is_pass = stack.IsPassOf c;
  pass = stack.pass_in;
  is_making = IsMakingCall c;
  making = making;
  ran = StackRan c;
  at_once = stack_at_once;
  is_work = IsStackWork c;
  works_on = StackWorksOn c;
}
