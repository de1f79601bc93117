-- Gauges made by steps.
use Rattle.std.specs.Prelude.{ℕ, ◌+◌, ◌<◌, []}
use Rattle.queue_machine.specs.declared.lines.Line.TheVariants.{CheckNextToGauge}
use Rattle.ms_queue.specs.Prelude.{Account, AnswerGauge, GaugeFirst, Limits, Line, Operation, ToGauge, capacity_of, ends, fields_of, index_of}
use Rattle.ms_queue.specs.Prelude.{tag_limit_of, to_answer}
use Rattle.ms_queue.specs.declared.code.gauging.GaugeAt.{GaugeAt}
use Rattle.ms_queue.specs.declared.code.gauging.GaugeAt.TheVariants.{Seeking, CheckNext}
use Rattle.ms_queue.specs.code.Seeking.{IsRead, seek_line}
use Rattle.ms_queue.specs.declared.calls.gauging.Gauge.{Gauge}
use Rattle.ms_queue.specs.code.Machine.{Answered}

-- what was read names a node
abbrev pub HasReadToGauge : ℕ → ℕ → GaugeAt → Type 0
HasReadToGauge n limit (Seeking at) = IsRead n limit at
HasReadToGauge n limit (CheckNext w x) = index_of w < n + 1

module _ {T : Type 0} where
  -- the machine's line
  abbrev pub gauge_line : GaugeAt → Line T
  gauge_line (Seeking at) = seek_line ToGauge at
  gauge_line (CheckNext w x) = CheckNextToGauge (fields_of w) (fields_of x)

  -- how it is read
  abbrev pub gauge_account : Limits → Account T (Line T) (Operation T) GaugeAt (Answered Gauge)
  gauge_account k = to_answer (λ at. GaugeFirst) gauge_line (λ at. []) (λ at. HasReadToGauge (capacity_of k) (tag_limit_of k) at) (λ o a. ends (AnswerGauge a.reply.closed a.reply.used))
