-- How a queue is read, and what its counts and gauges give.
use Rattle.std.specs.Prelude.{◌≡◌, ℕ, ◌+◌}
use Rattle.bounded_model.specs.Laws.{Answers}
use Rattle.bounded_model.specs.declared.answers.Stepped.TheVariants as stepped
use Rattle.bounded_model.specs.declared.commands.Command.{Command}
use Rattle.bounded_model.specs.declared.commands.Command.TheVariants.{Look, Put, Take}
use Rattle.bounded_model.specs.declared.commands.Reply.{Reply}
use Rattle.bounded_model.specs.declared.views.Answered.TheVariants as answered
use Rattle.bounded_model.specs.declared.views.PassView.{PassView}
use Rattle.running.specs.Kept.{WasRun}
use Rattle.running.specs.Passes as passes
use Rattle.queue_machine.specs.declared.lines.Answer.TheVariants.{Gauge as AnswerGauge}
use Rattle.queue_table.specs.declared.operation.Operation.TheVariants.{Gauge as GaugeFirst}
use Rattle.ms_queue.specs.code.Machine.{is_call}
use Rattle.ms_queue.specs.Calls.{IsCounting, GaugeGives, IsGauging, AnyOp, IsMakingCall, making, LenTried}
use Rattle.ms_queue.specs.code.Every.{every_account}
use Rattle.ms_queue.specs.Calls as queue
use Rattle.lockfree_c.specs.Calls.{Reading, WorkedFor, steps_of}
use Rattle.lockfree_c.specs.declared.calls.queue.QueueWork.{QueueWork}
use Rattle.lockfree_c.specs.declared.calls.queue.QueueWork.TheVariants.{Count, Gauge}
use Rattle.lockfree_c.specs.declared.work.Said.TheVariants as said
use Rattle.lockfree_c.specs.declared.work.Worked.{Worked}
use Rattle.lockfree_c.specs.declared.work.Worked.TheVariants.{Again, Done}

abbrev pub Queue : Type 0
Queue = queue.Queue ℕ

abbrev pub QueueMade : Type 0
QueueMade = Worked QueueWork (queue.Pass ℕ)

-- the pass of a work, as it is now
abbrev pub working : QueueWork → PassView ℕ
working (Count op) = passes.pass_in op.pass
working (Gauge op) = passes.pass_in op.pass

-- a work whose pass was v has made at most n steps more
abbrev pub WorkedAtMost : ℕ → PassView ℕ → QueueMade → Type 0
WorkedAtMost n v made = WorkedFor working queue.pass_in n v made

-- how many steps a number of tries of a call allows
abbrev pub queue_steps : ℕ → ℕ
queue_steps = steps_of 18 6

-- how many steps a number of tries of a count and of a gauge allows
abbrev pub count_steps : ℕ → ℕ
count_steps = steps_of 4 4

abbrev pub gauge_steps : ℕ → ℕ
gauge_steps = steps_of 8 4

module _ (c : Queue) where
  -- a count that its pass began as v was tried: it is under way, begun as before, or gave how many values there were at one moment since,
  -- in one run
  abbrev pub CountTried : PassView ℕ → QueueMade → Type 0
  CountTried v (Again (Count next)) = LenTried c v (stepped.Again next)
  CountTried v (Done back (said.Count n)) = LenTried c v (stepped.Done back n)
  CountTried v made = ⊥

  -- a gauge was tried: it is under way, begun as before, or has shown how the queue was at one moment since, in one run
  abbrev pub GaugeTried : PassView ℕ → QueueMade → Type 0
  GaugeTried v (Again (Gauge next)) = IsGauging c next × (passes.begun_of (queue.machine_of c) next.pass ≡ v)
  GaugeTried v (Done back (said.Gauge closed used)) = queue.IsPassOf c back
      × GaugeGives (queue.room_of c) (queue.limit_of c) v (queue.pass_in back) (record { closed = closed; used = used })
      × Answers v (queue.pass_in back) (answered.Gauge closed used) × queue.WasRun c GaugeFirst v back (AnswerGauge closed used)
  GaugeTried v made = ⊥

  -- a count, which makes four steps at once, and a gauge were begun and tried
  abbrev pub Counted : ℕ → PassView ℕ → QueueMade → Type 0
  Counted tries v made = CountTried v made × WorkedAtMost (4 + count_steps tries) v made

  abbrev pub Gauged : ℕ → PassView ℕ → QueueMade → Type 0
  Gauged tries v made = GaugeTried v made × WorkedAtMost (gauge_steps tries) v made

  abbrev pub IsQueueWork : QueueWork → Type 0
  IsQueueWork (Count op) = IsCounting c op
  IsQueueWork (Gauge op) = IsGauging c op

  abbrev pub QueueWorksOn : ℕ → QueueWork → QueueMade → Type 0
  QueueWorksOn tries (Count op) made = CountTried (passes.begun_of (queue.machine_of c) op.pass) made × WorkedAtMost (count_steps tries) (passes.pass_in op.pass) made
  QueueWorksOn tries (Gauge op) made = GaugeTried (passes.begun_of (queue.machine_of c) op.pass) made × WorkedAtMost (gauge_steps tries) (passes.pass_in op.pass) made

-- A call was begun once, when its pass was as `begun`. The machine's steps of that pass since then led it to this reply, in one proper run whose
-- history is what the pass has seen now
abbrev pub QueueRan : Queue → PassView ℕ → Command ℕ → queue.Pass ℕ → Reply ℕ → Type 0
QueueRan c begun call back said = WasRun (queue.machine_of c) (every_account c.table.shared.key) (is_call call) begun back said

-- the most steps that each call makes at once
abbrev pub queue_at_once : Command ℕ → ℕ
queue_at_once (Put x) = 14
queue_at_once Take = 12
queue_at_once Look = 3
queue_at_once call = 0

abbrev pub queue_reading : Queue → Reading (queue.Root ℕ) (queue.Pass ℕ) (AnyOp ℕ) QueueWork
queue_reading c = record {
  shape = queue.shape_of c;
  is_root = queue.IsRootOf c;
  root = queue.root_in;
  is_pass = queue.IsPassOf c;
  pass = queue.pass_in;
  is_making = IsMakingCall c;
  making = making;
  ran = QueueRan c;
  at_once = queue_at_once;
  is_work = IsQueueWork c;
  works_on = QueueWorksOn c;
}
