-- Gauges made by steps.
use Rattle.std.specs.Prelude.{[]}
use Rattle.ring_machine.specs.declared.lines.Answer.TheVariants.{Gauge as AnswerGauge}
use Rattle.ring_queue.specs.Prelude.{Account, At, GaugeFirst, Limits, Operation, SeatLine, ToGauge, capacity_of, ends, to_answer}
use Rattle.ring_queue.specs.declared.code.gauging.GaugeAt.{GaugeAt}
use Rattle.ring_queue.specs.code.Walking.{to_back, walk_line, IsRead}
use Rattle.ring_queue.specs.declared.calls.gauging.Gauge.{Gauge}
use Rattle.ring_queue.specs.code.Machine.{Answered}

module _ {T : Type 0} where
  -- the machine's line
  abbrev pub gauge_line : GaugeAt → SeatLine T
  gauge_line s = At (walk_line (to_back ToGauge) s.at)

  -- how it is read
  abbrev pub gauge_account : Limits → Account T (SeatLine T) (Operation T) GaugeAt (Answered Gauge)
  gauge_account k = to_answer (λ s. GaugeFirst) gauge_line (λ s. []) (λ s. IsRead (capacity_of k) s.at) (λ o a. At (ends a.kept.index (AnswerGauge a.reply.closed a.reply.used)))
