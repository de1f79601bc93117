-- What a gauge gives.
use Rattle.std.proofs.Common.{ℕ, Bool, List, []}
use Rattle.stack_machine.specs.declared.lines.Answer.TheVariants.{Gauge as AnswerGauge}
use Rattle.stack_table.specs.declared.operation.Operation.TheVariants.{Gauge as GaugeFirst}
use Rattle.treiber_stack.specs.Prelude.{Ended, Event, Line, PassView, View, ends, pass_of}
use Rattle.treiber_stack.specs.Calls.{GaugeGives, StackWith, machine_with, room_of, limit_of}
use Rattle.treiber_stack.specs.code.KeepsAnswers.{adds_of}

module _ {T : Type 0} (rule : List (Event T) → Type 0) {D : Type 0} (c : StackWith T D) where
  pub gauge_gives : {v : View T (Line T)} {begun : PassView T} (closed : Bool) (used : ℕ) → Ended (machine_with rule c) GaugeFirst v begun (ends (AnswerGauge closed used)) → GaugeGives (room_of c) (limit_of c) begun (pass_of v) (record { closed = closed; used = used })
  gauge_gives closed used e = (adds_of rule c.table.shared.key e [] e.deeds.made, e.tells)
