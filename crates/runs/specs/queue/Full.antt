-- What a caller knows whose put was refused as full.
use Rattle.std.specs.Prelude.{◌≡◌, ℕ, ◌+◌, ◌<◌, length, Err}
use Rattle.bounded_model.specs.declared.answers.PutRefused.TheVariants.{Full}
use Rattle.machine.specs.Seats.{Acts}
use Rattle.queue_machine.specs.declared.lines.Answer.{Answer}
use Rattle.queue_machine.specs.declared.lines.Answer.TheVariants.{Put as AnswerPut}
use Rattle.queue_machine.specs.declared.lines.Call.{Call}
use Rattle.queue_machine.specs.declared.lines.Call.TheVariants.{Put as CallPut}
use Rattle.queue_machine.specs.declared.lines.Line.{Line}
use Rattle.queue_machine.specs.Answers.{state}
use Rattle.queue_table.specs.Lines.{names}
use Rattle.queue_table.specs.Core.{core}
use Rattle.step_core.specs.Linearizable.{Operation, events, under_way}
use Rattle.step_core.specs.queue.Object.{object, answer}
use Rattle.runs.specs.Heard.{heard, IsLinearizable}
use Rattle.runs.specs.Point.{HasPoint}
use Rattle.runs.specs.queue.Bounded.{call_at}

module _ {T : Type 0} where
  -- pass p's put of x, which hands y back because the queue was full
  abbrev pub refused_put : ℕ → T → T → Operation (Call T) (Answer T)
  refused_put p x y = record { by = p; call = CallPut x; answer = AnswerPut (Err (Full y)) }

  -- Pass p's put of x was begun after the acts `before`, and was refused as full in the acts `now`, of a queue of n cells. These acts have a
  -- linearization in which the refusal has its point, after the put was invoked and before it responded. There fewer of the n cells hold no
  -- value than calls are under way, with this put
  pub record WasFull (n limit p : ℕ) (x y : T) (before now : Acts (Line T)) : Type 0 where
    pub calls : IsLinearizable names (core T n limit) call_at answer (object n limit) now
    pub refusal : HasPoint calls.course (heard names (core T n limit) call_at answer before) (refused_put p x y)
    pub back : y ≡ x
    pub full : n < length (state n limit (events refusal.older)).values + length (under_way refusal.older)
