-- What the answers of a count and a gauge say: the laws of their operations.
use Rattle.std.specs.Prelude.{◌≡◌, ℕ, List, []}
use Rattle.std.proofs.Common.{subst}
use Rattle.bounded_model.specs.declared.views.Answered.TheVariants.{Gauge as GaugeAnswered, Len as LenAnswered}
use Rattle.ms_queue.specs.Prelude.{AnswerGauge, AnswerLen, Answers, Ended, Event, GaugeFirst, LenFirst, LenGives, Limits, Line, Operation, PassView, View}
use Rattle.ms_queue.specs.Prelude.{capacity_of, ends, pass_of, tag_limit_of}
use Rattle.ms_queue.specs.declared.calls.gauging.Gauge.{Gauge}
use Rattle.ms_queue.specs.Calls.{GaugeGives}
use Rattle.ms_queue.specs.code.Machine.{shape_at, machine_for, Answered}
use Rattle.ms_queue.specs.code.KeepsAnswers.{adds_of}
use Rattle.ms_queue.specs.code.Gauging.{gauge_account}
use Rattle.ms_queue.specs.code.Counting.{len_account}

module _ {T : Type 0} (k : Limits) where
  -- what a gauge and a count promise
  abbrev pub gauge_promises : Operation T → PassView T → PassView T → Gauge → Type 0
  gauge_promises o begun now r = o ≡ GaugeFirst → GaugeGives (capacity_of k) (tag_limit_of k) begun now r × Answers begun now (GaugeAnswered r.closed r.used)

  abbrev pub len_promises : Operation T → PassView T → PassView T → ℕ → Type 0
  len_promises o begun now r = o ≡ LenFirst → LenGives (shape_at T k) begun now r × Answers begun now (LenAnswered r)

module _ {T : Type 0} (rule : List (Event T) → Type 0) (k : Limits) where
  module _ (o : Operation T) (v : View T (Line T)) (begun : PassView T) where
    gauged : (g : Gauge) → Ended (machine_for rule k) GaugeFirst v begun (ends (AnswerGauge g.closed g.used)) → GaugeGives (capacity_of k) (tag_limit_of k) begun (pass_of v) g × Answers begun (pass_of v) (GaugeAnswered g.closed g.used)
    gauged g e = ((adds_of rule k e [] e.deeds.made, e.tells), e.answered)

    counted : (n : ℕ) → Ended (machine_for rule k) LenFirst v begun (ends (AnswerLen n)) → LenGives (shape_at T k) begun (pass_of v) n × Answers begun (pass_of v) (LenAnswered n)
    counted n e = ((adds_of rule k e [] e.deeds.made, e.tells), e.answered)

    pub gauge_given : (a : Answered Gauge) → Ended (machine_for rule k) o v begun ((gauge_account k).answer o a) → gauge_promises k o begun (pass_of v) a.reply
    gauge_given a e is = gauged a.reply (subst (λ (o : Operation T). Ended (machine_for rule k) o v begun (ends (AnswerGauge a.reply.closed a.reply.used))) is e)

    pub len_given : (a : Answered ℕ) → Ended (machine_for rule k) o v begun ((len_account k).answer o a) → len_promises k o begun (pass_of v) a.reply
    len_given a e is = counted a.reply (subst (λ (o : Operation T). Ended (machine_for rule k) o v begun (ends (AnswerLen a.reply))) is e)
