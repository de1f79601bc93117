-- How a ring is read, and what its counts and gauges give.
use Rattle.std.specs.Prelude.{◌≡◌, ℕ}
use Rattle.bounded_model.specs.Laws.{Answers, LenGives}
use Rattle.bounded_model.specs.declared.commands.Command.{Command}
use Rattle.bounded_model.specs.declared.commands.Command.TheVariants.{Look, Put, Take}
use Rattle.bounded_model.specs.declared.commands.Reply.{Reply}
use Rattle.bounded_model.specs.declared.commands.Reply.TheVariants as reply
use Rattle.bounded_model.specs.declared.views.Answered.TheVariants as answered
use Rattle.bounded_model.specs.declared.views.PassView.{PassView}
use Rattle.running.specs.Kept.{WasRun}
use Rattle.running.specs.Passes as passes
use Rattle.ring_machine.specs.declared.lines.Answer.TheVariants.{Gauge as AnswerGauge, Len as AnswerLen}
use Rattle.ring_table.specs.declared.operation.Operation.TheVariants.{Gauge as GaugeFirst, Len as LenFirst}
use Rattle.ring_queue.specs.code.Machine.{is_call}
use Rattle.ring_queue.specs.Calls.{IsCounting, GaugeGives, IsGauging, FullTells, SpentTells, IsRootOf, Root, root_in, AnyOp, IsMakingCall, making}
use Rattle.ring_queue.specs.code.Every.{every_account}
use Rattle.ring_queue.specs.Calls as ring
use Rattle.lockfree_c.specs.Calls.{Reading, WorkedFor, steps_of}
use Rattle.lockfree_c.specs.declared.calls.ring.RingWork.{RingWork}
use Rattle.lockfree_c.specs.declared.calls.ring.RingWork.TheVariants.{Count, Gauge}
use Rattle.lockfree_c.specs.declared.work.Said.TheVariants as said
use Rattle.lockfree_c.specs.declared.work.Worked.{Worked}
use Rattle.lockfree_c.specs.declared.work.Worked.TheVariants.{Again, Done}

abbrev pub Ring : Type 0
Ring = ring.RingQueue ℕ

abbrev pub RingMade : Type 0
RingMade = Worked RingWork (ring.Pass ℕ)

-- the pass of a work, as it is now
abbrev pub working : RingWork → PassView ℕ
working (Count op) = passes.pass_in op.pass
working (Gauge op) = passes.pass_in op.pass

-- a work whose pass was v has made at most n steps more
abbrev pub WorkedAtMost : ℕ → PassView ℕ → RingMade → Type 0
WorkedAtMost n v made = WorkedFor working ring.pass_in n v made

-- how many steps a number of tries of a call allows
abbrev pub ring_steps : ℕ → ℕ
ring_steps = steps_of 17 6

-- how many steps a number of tries of a count and of a gauge allows
abbrev pub count_steps : ℕ → ℕ
count_steps = steps_of 17 17

abbrev pub gauge_steps : ℕ → ℕ
gauge_steps = steps_of 8 8

module _ (c : Ring) where
  -- a count that its pass began as v was tried: it is under way, begun as before, or gave how many values there were at one moment since,
  -- in one run
  abbrev pub CountTried : PassView ℕ → RingMade → Type 0
  CountTried v (Again (Count next)) = IsCounting c next × (passes.begun_of (ring.machine_of c) next.pass ≡ v)
  CountTried v (Done back (said.Count n)) = ring.IsPassOf c back × LenGives (ring.shape_of c) v (ring.pass_in back) n × Answers v (ring.pass_in back) (answered.Len n)
      × ring.WasRun c LenFirst v back (AnswerLen n)
  CountTried v made = ⊥

  -- a gauge was tried: it is under way, begun as before, or has shown how the ring was at one moment since, in one run
  abbrev pub GaugeTried : PassView ℕ → RingMade → Type 0
  GaugeTried v (Again (Gauge next)) = IsGauging c next × (passes.begun_of (ring.machine_of c) next.pass ≡ v)
  GaugeTried v (Done back (said.Gauge closed used)) = ring.IsPassOf c back
      × GaugeGives (ring.room_of c) (ring.laps_of c) v (ring.pass_in back) (record { closed = closed; used = used })
      × Answers v (ring.pass_in back) (answered.Gauge closed used) × ring.WasRun c GaugeFirst v back (AnswerGauge closed used)
  GaugeTried v made = ⊥

  -- a count and a gauge were begun and tried
  abbrev pub Counted : ℕ → PassView ℕ → RingMade → Type 0
  Counted tries v made = CountTried v made × WorkedAtMost (count_steps tries) v made

  abbrev pub Gauged : ℕ → PassView ℕ → RingMade → Type 0
  Gauged tries v made = GaugeTried v made × WorkedAtMost (gauge_steps tries) v made

  abbrev pub IsRingWork : RingWork → Type 0
  IsRingWork (Count op) = IsCounting c op
  IsRingWork (Gauge op) = IsGauging c op

  abbrev pub RingWorksOn : ℕ → RingWork → RingMade → Type 0
  RingWorksOn tries (Count op) made = CountTried (passes.begun_of (ring.machine_of c) op.pass) made × WorkedAtMost (count_steps tries) (passes.pass_in op.pass) made
  RingWorksOn tries (Gauge op) made = GaugeTried (passes.begun_of (ring.machine_of c) op.pass) made × WorkedAtMost (gauge_steps tries) (passes.pass_in op.pass) made

-- What a put's refusal tells of a ring, beside what it tells of every container. Of a full one, at some time of the call each slot held a value.
-- Of a spent one, at some time of the call each slot had been filled in each of its laps
abbrev pub RefusalTells : Ring → PassView ℕ → ring.Pass ℕ → Reply ℕ → Type 0
RefusalTells c begun back (reply.Put r) = FullTells c begun (ring.pass_in back) r × SpentTells c begun (ring.pass_in back) r
RefusalTells c begun back said = Unit {0}

-- A call was begun once, when its pass was as `begun`. The machine's steps of that pass since then led it to this reply, in one proper run whose
-- history is what the pass has seen now
abbrev pub RingRan : Ring → PassView ℕ → Command ℕ → ring.Pass ℕ → Reply ℕ → Type 0
RingRan c begun call back said = WasRun (ring.machine_of c) (every_account c.table.shared.key) (is_call call) begun back said × RefusalTells c begun back said

-- the most steps that each call makes at once
abbrev pub ring_at_once : Command ℕ → ℕ
ring_at_once (Put x) = 11
ring_at_once Take = 12
ring_at_once Look = 9
ring_at_once call = 0

abbrev pub ring_reading : Ring → Reading (Root ℕ) (ring.Pass ℕ) (AnyOp ℕ) RingWork
ring_reading c = record {
  shape = ring.shape_of c;
  is_root = IsRootOf c;
  root = root_in;
  is_pass = ring.IsPassOf c;
  pass = ring.pass_in;
  is_making = IsMakingCall c;
  making = making;
  ran = RingRan c;
  at_once = ring_at_once;
  is_work = IsRingWork c;
  works_on = RingWorksOn c;
}
