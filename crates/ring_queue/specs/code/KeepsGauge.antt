-- What the answers of a count and a gauge say: the laws of their operations.
use Rattle.std.specs.Prelude.{◌≡◌, ℕ, List}
use Rattle.std.proofs.Common.{subst}
use Rattle.bounded_model.specs.declared.views.Answered.TheVariants.{Gauge as GaugeAnswered, Len as LenAnswered}
use Rattle.bounded_model.specs.Laws.{LenGives}
use Rattle.ring_table.proofs.Gives.{gauge_gives, len_gives}
use Rattle.ring_queue.specs.Prelude.{Answers, Ended, Event, GaugeFirst, LenFirst, Limits, Operation, PassView, SeatLine, View, capacity_of, pass_of}
use Rattle.ring_queue.specs.Prelude.{passes_of}
use Rattle.ring_queue.specs.code.Machine.{laps_at, shape_at, machine_for, Answered}
use Rattle.ring_queue.specs.Calls.{GaugeGives}
use Rattle.ring_queue.specs.declared.calls.gauging.Gauge.{Gauge}
use Rattle.ring_queue.specs.code.Gauging.{gauge_account}
use Rattle.ring_queue.specs.code.Counting.{len_account}

module _ {T : Type 0} (k : Limits) where
  -- what a gauge and a count promise
  abbrev pub gauge_promises : Operation T → PassView T → PassView T → Gauge → Type 0
  gauge_promises o begun now r = o ≡ GaugeFirst → GaugeGives (capacity_of k) (laps_at k) begun now r × Answers begun now (GaugeAnswered r.closed r.used)

  abbrev pub len_promises : Operation T → PassView T → PassView T → ℕ → Type 0
  len_promises o begun now r = o ≡ LenFirst → LenGives (shape_at T k) begun now r × Answers begun now (LenAnswered r)

module _ {T : Type 0} (rule : List (Event T) → Type 0) (k : Limits) where
  module _ (o : Operation T) (v : View T (SeatLine T)) (begun : PassView T) where
    pub gauge_given : (a : Answered Gauge) → Ended (machine_for rule k) o v begun ((gauge_account k).answer o a) → gauge_promises k o begun (pass_of v) a.reply
    gauge_given a e is = (gauge_gives rule (capacity_of k) (laps_at k) (passes_of k) v begun a.kept.index a.reply.closed a.reply.used (subst (λ (o : Operation T). Ended (machine_for rule k) o v begun ((gauge_account k).answer o a)) is e), e.answered)

    pub len_given : (a : Answered ℕ) → Ended (machine_for rule k) o v begun ((len_account k).answer o a) → len_promises k o begun (pass_of v) a.reply
    len_given a e is = (len_gives rule (capacity_of k) (laps_at k) (passes_of k) v begun a.kept.index a.reply (subst (λ (o : Operation T). Ended (machine_for rule k) o v begun ((len_account k).answer o a)) is e), e.answered)
