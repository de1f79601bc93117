-- What a caller knows whose put was refused as full.
use Rattle.std.specs.Prelude.{◌≡◌, ℕ, ◌+◌, ◌<◌, length, Err}
use Rattle.bounded_model.specs.declared.answers.PutRefused.TheVariants.{Full}
use Rattle.machine.specs.Seats.{Acts}
use Rattle.ring_machine.specs.declared.lines.Answer.{Answer}
use Rattle.ring_machine.specs.declared.lines.Answer.TheVariants.{Put as AnswerPut}
use Rattle.ring_machine.specs.declared.lines.Call.{Call}
use Rattle.ring_machine.specs.declared.lines.Call.TheVariants.{Put as CallPut}
use Rattle.ring_machine.specs.Answers.{state}
use Rattle.ring_table.specs.declared.line.SeatLine.{SeatLine}
use Rattle.ring_table.specs.Seats.{names}
use Rattle.ring_table.specs.Core.{core}
use Rattle.step_core.specs.Linearizable.{Operation, events, under_way}
use Rattle.step_core.specs.ring.Object.{object}
use Rattle.runs.specs.Heard.{heard, IsLinearizable}
use Rattle.runs.specs.Point.{HasPoint}
use Rattle.runs.specs.ring.Bounded.{call_in}
use Rattle.runs.specs.ring.Linearizable.{answer_at}

module _ {T : Type 0} where
  -- pass p's put of x, which hands y back because the ring was full
  abbrev pub refused_put : ℕ → T → T → Operation (Call T) (Answer T)
  refused_put p x y = record { by = p; call = CallPut x; answer = AnswerPut (Err (Full y)) }

  -- Pass p's put of x was begun after the acts `before`, and was refused as full in the acts `now`, of a ring of n slots. These acts have a
  -- linearization in which the refusal has its point, after the put was invoked and before it responded. There fewer of the n slots hold no
  -- value than calls are under way, with this put
  pub record WasFull (n laps passes p : ℕ) (x y : T) (before now : Acts (SeatLine T)) : Type 0 where
    pub calls : IsLinearizable names (core T n laps passes) call_in answer_at (object n laps) now
    pub refusal : HasPoint calls.course (heard names (core T n laps passes) call_in answer_at before) (refused_put p x y)
    pub back : y ≡ x
    pub full : n < length (state n laps (events refusal.older)).values + length (under_way refusal.older)
