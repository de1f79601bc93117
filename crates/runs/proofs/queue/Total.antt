-- A queue's passes have made no more steps together than their calls cost.
use Rattle.std.proofs.Common.{◌≡◌, ℕ, suc, ◌+◌, ◌*◌, ◌<◌, ◌≤◌, true, List, [], Ok, Err, refl, sym, ◌∙◌, subst, arith}
use mathlib.Core.Option.{some, some-injective}
use lib.ListN.{get_elem?}
use Rattle.tagged_index.specs.declared.word.TheConstants.{NULL}
use Rattle.bounded_model.specs.declared.history.Event.{Event}
use Rattle.bounded_model.specs.declared.views.Answered.{Answered}
use Rattle.bounded_model.specs.declared.views.Answered.TheVariants.{Put, Take, Fold, Close, Shut, Look, Len, Gauge, Heard}
use Rattle.bounded_model.specs.declared.views.RootView.{RootView}
use Rattle.bounded_model.specs.Histories.{own}
use Rattle.bounded_model.specs.Laws.{IsSound, NoneOut}
use Rattle.machine.specs.Schedule.{Schedule, after}
use Rattle.machine.proofs.Scheduled.{passes_after}
use Rattle.queue_machine.specs.declared.lines.Answer.{Answer}
use Rattle.queue_machine.specs.declared.lines.Answer.TheVariants.{Put as AnswerPut, Take as AnswerTake, Close as AnswerClose, Shut as AnswerShut, Look as AnswerLook, Len as AnswerLen, Gauge as AnswerGauge}
use Rattle.queue_machine.specs.declared.lines.Call.{Call}
use Rattle.queue_machine.specs.declared.lines.Call.TheVariants.{Put as CallPut, Take as CallTake, Close as CallClose, Shut as CallShut, Look as CallLook, Len as CallLen, Gauge as CallGauge}
use Rattle.queue_machine.specs.declared.lines.Line.{Line}
use Rattle.queue_machine.specs.Answers.{shape}
use Rattle.queue_machine.specs.Deeds.{Makes}
use Rattle.queue_machine.specs.Machine.{Pass, is_idle, queue}
use Rattle.queue_table.specs.Lines.{reply, answered}
use Rattle.queue_table.specs.Core.{queue as on_table}
use Rattle.running.specs.Ends.{IsRun}
use Rattle.runs.specs.Runs.{schedule_of}
use Rattle.runs.specs.Work.{in_all, is_look, IsPaid}
use Rattle.runs.proofs.Costs.{at_once, no_looks}
use Rattle.runs.proofs.Work.{is_paid}
use Rattle.step_core.specs.queue.Costs.{cost}
use Rattle.step_core.proofs.queue.Ends.{queue_costs}
use Rattle.step_core.proofs.queue.Run.{all_done, none_unanswered}
use Rattle.runs.specs.queue.Bounded.{call_at}
use Rattle.runs.specs.queue.Work.{fee, others_of, TotalWork}
use Rattle.runs.proofs.queue.Queues.{running}

module _ {T : Type 0} (k : ℕ) where
  -- a call's answer is worth what the call costs
  worth_answer : (p : ℕ) (call : Call T) (a : Answer T) (events : List (Event T)) → Makes p call a events → cost k call ≤ fee k (answered a)
  worth_answer p (CallPut v) (AnswerPut (Ok n)) events made = omega arith
  worth_answer p (CallPut v) (AnswerPut (Err why)) events made = omega arith
  worth_answer p CallTake (AnswerTake r) events made = omega arith
  worth_answer p CallClose (AnswerClose b) events made = omega arith
  worth_answer p CallShut (AnswerShut b) events made = omega arith
  worth_answer p CallLook (AnswerLook b) events made = omega arith
  worth_answer p CallLen (AnswerLen n) events made = omega arith
  worth_answer p CallGauge (AnswerGauge closed used) events made = omega arith
  worth_answer p call a events made = absurd made

  fee_small : (a : Answered T) → fee k a ≤ 18 + 14 * k
  fee_small (Put r) = omega arith
  fee_small (Take r) = omega arith
  fee_small (Fold r) = omega arith
  fee_small (Close b) = omega arith
  fee_small (Shut b) = omega arith
  fee_small (Look b) = omega arith
  fee_small (Len n) = omega arith
  fee_small (Gauge closed used) = omega arith
  fee_small Heard = omega arith

module _ {T : Type 0} (n limit : ℕ) (some_cell : 0 < n) (small : n < NULL) (some_tag : 0 < limit) where
  worth : (k passes : ℕ) (schedule : Schedule (Call T)) (p : ℕ) (v : Pass T) (call : Call T) → get_elem? (after (queue (shape n limit)) passes schedule).passes p ≡ some v → v.call ≡ some call → is_idle v.line ≡ true → cost k call ≤ fee k (reply v.line)
  worth k passes schedule p v call at is idle =
      let ended = none_unanswered n limit passes schedule some_cell small some_tag p v call at is idle in
      let done = all_done n limit passes schedule some_cell small some_tag p v ended.0 at ended.1 in
      let same : done.call ≡ call = some-injective done.call call (sym done.of ∙ is) in
      subst (λ (l : Line T). cost k call ≤ fee k (reply l)) (sym ended.1)
      (subst (λ (c : Call T). cost k c ≤ fee k (answered ended.0)) same (worth_answer k p done.call ended.0 (own p done.done.between) done.done.made))

  pub total_work : (r : RootView T) (left : List T) (ran : IsRun (on_table T n limit) r left) → IsSound (shape n limit) r → NoneOut r → TotalWork r ran.acts
  total_work r left ran sound nobody =
      let k : ℕ = others_of r in
      let few : r.given ≤ suc k = omega arith in
      let schedule : Schedule (Call T) = schedule_of call_at ran.acts in
      let once = at_once (queue {T = T} (shape n limit)) r.given (suc k) few schedule (after (queue {T = T} (shape n limit)) r.given []) (passes_after (queue {T = T} (shape n limit)) r.given []) in
      let paid : IsPaid ran.acts r.works (λ l. cost k (call_at l)) (fee k) (18 + 14 * k) = is_paid (on_table T n limit) (queue (shape n limit)) call_at (running n limit) (λ p. refl) r left ran sound nobody (cost k) (fee k) (omega arith)
      (λ older low allowed fresh p v call at is idle. worth k r.given (schedule_of call_at older) p v call at is idle) (queue_costs n limit k r.given schedule some_cell small some_tag once) (18 + 14 * k) (fee_small k) in
      let none : in_all is_look ran.acts ≡ 0 = no_looks (on_table T n limit) (queue (shape n limit)) call_at (running n limit) (λ reads. reads) ran.acts ran.proper in
      record {
        prices = paid.prices;
        fees = let f = paid.fees in omega arith;
        answers = let a = paid.answers in omega arith;
      }
