-- The trace of a replay.
use Rattle.std.specs.Prelude.{◌≡◌, ℕ, List, Option, map}
use Rattle.std.specs.List.{concat}
use Rattle.std.specs.Io.KnownBytes.{Appends}
use Rattle.told.specs.Writing.{WentOut}
use Rattle.told.specs.declared.writing.Told.{Told}
use Rattle.bounded_model.specs.declared.container.TheConstants.{MAX_PASSES}
use Rattle.bounded_model.specs.declared.history.Order.{Order}
use Rattle.bounded_model.specs.declared.history.Order.TheVariants.{Fifo, Lifo}
use Rattle.bounded_model.specs.Laws.{fresh}
use Rattle.bounded_model.specs.Machine.{Shape}
use Rattle.ms_queue.specs.code.Naming as queue_naming
use Rattle.treiber_stack.specs.code.Naming as stack_naming
use Rattle.player.specs.Plays.{start}
use Rattle.player.specs.Shows.{Reading}
use Rattle.player.specs.Traces.{PlaysTraced, nothing_held}
use Rattle.script.specs.AnswerTexts.{answer_text}
use Rattle.script.specs.Script.{Head, IsScript, text_of}
use Rattle.script.specs.declared.answer.Answer.{Answer}
use Rattle.script.specs.declared.line.Line.{Line}
use Rattle.script_replay.specs.Outcome.{IsOutputFor}
use Rattle.script_replay.specs.Readings.{Queue, Stack, queue_reading, stack_reading}
use Rattle.step_names.specs.declared.step_name.StepName.{StepName}

-- the shape of a script's container
abbrev pub shape_for : Order → Head → Shape
shape_for order head = record { order = order; capacity = head.capacity; limit = head.tag_limit; passes = MAX_PASSES }

-- the script's lines were played on a new container that is read so, with these lines of the trace, and the output is the
-- text of the answers
abbrev pub IsPlayedOn : {R P O : Type 0} → Reading R P O → (O → StepName → Type 0) → List Line → List ℕ → List (List ℕ) → Type 0
IsPlayedOn r is_step lines output trace = (answers : List Answer) × PlaysTraced r is_step (start fresh) nothing_held lines answers trace × (output ≡ text_of (map answer_text answers))

-- on a new queue, or on a new stack
abbrev pub IsTracedIn : Order → Head → List Line → List ℕ → List (List ℕ) → Type 0
IsTracedIn Fifo head lines output trace = (queue : Queue) × ((queue_reading queue).shape ≡ shape_for Fifo head) × IsPlayedOn (queue_reading queue) queue_naming.IsStep lines output trace
IsTracedIn Lifo head lines output trace = (stack : Stack) × ((stack_reading stack).shape ≡ shape_for Lifo head) × IsPlayedOn (stack_reading stack) stack_naming.IsStep lines output trace

abbrev pub IsTracedOf : Head → List Line → List ℕ → List (List ℕ) → Type 0
IsTracedOf head lines output trace = IsTracedIn head.order head lines output trace

-- these are the lines of the trace of the text's script, and this is the output of the same play
abbrev pub IsTraceFor : List ℕ → List ℕ → List (List ℕ) → Type 0
IsTraceFor text output trace = (head : Head) (lines : List Line) → IsScript text head lines → IsTracedOf head lines output trace

-- what a writer of replies and a writer of errors had before and after a replay of this text with its trace
pub record WroteTraced (text : List ℕ) (said : Told) (old new errors_old errors_new : Option (List ℕ)) : Type 0 where
  pub output : List ℕ
  pub trace : List (List ℕ)
  pub is : IsOutputFor text output
  pub traced : IsTraceFor text output trace
  pub went_out : Appends old new output
  pub told : WentOut said errors_old errors_new (concat trace)
