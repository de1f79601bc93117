-- What a caller knows whose put was refused as full.
use Rattle.std.specs.Prelude.{◌≡◌, ℕ, suc, ◌+◌, ◌≤◌, List, ◌∷◌, length, Err}
use Rattle.bounded_model.specs.declared.answers.PutRefused.TheVariants.{Full}
use Rattle.machine.specs.Seats.{Acts}
use Rattle.stack_machine.specs.declared.lines.Answer.{Answer}
use Rattle.stack_machine.specs.declared.lines.Answer.TheVariants.{Put as AnswerPut}
use Rattle.stack_machine.specs.declared.lines.Call.{Call}
use Rattle.stack_machine.specs.declared.lines.Call.TheVariants.{Put as CallPut}
use Rattle.stack_machine.specs.declared.lines.Line.{Line}
use Rattle.stack_machine.specs.Answers.{state}
use Rattle.stack_table.specs.Lines.{names}
use Rattle.stack_table.specs.Core.{core}
use Rattle.step_core.specs.Linearizable.{Operation, events, most_in_hand}
use Rattle.step_core.specs.stack.Object.{object, answer}
use Rattle.runs.specs.Heard.{heard, IsLinearizable}
use Rattle.runs.specs.Point.{HasPoint}
use Rattle.runs.specs.stack.Bounded.{call_at}

module _ {T : Type 0} where
  -- pass p's put of x and of more values, which hands ys back because the stack was full
  abbrev pub refused_put : ℕ → T → List T → List T → Operation (Call T) (Answer T)
  refused_put p x xs ys = record { by = p; call = CallPut x xs; answer = AnswerPut (Err (Full ys)) }

  -- Pass p's put of x and xs was begun after the acts `before`, and was refused as full in the acts `now`, of a stack of n nodes. These acts
  -- have a linearization in which the refusal has its point, after the put was invoked and before it responded. There the nodes that hold no
  -- value, and one more for each value of this put, are at most as many as all calls under way may have in hand, with this put
  pub record WasFull (n limit p : ℕ) (x : T) (xs ys : List T) (before now : Acts (Line T)) : Type 0 where
    pub calls : IsLinearizable names (core T n limit) call_at answer (object n limit) now
    pub refusal : HasPoint calls.course (heard names (core T n limit) call_at answer before) (refused_put p x xs ys)
    pub back : ys ≡ x ∷ xs
    pub full : n + suc (length xs) ≤ length (state n limit (events refusal.older)).values + most_in_hand (object n limit) refusal.older
