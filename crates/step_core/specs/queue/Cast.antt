-- The machines that play the scripts of the queue, and the calls and answers of those scripts.
use Rattle.std.specs.Prelude.{ℕ, List, Ok, Err}
use Rattle.bounded_model.specs.declared.answers.Word.TheVariants.{Cells as CellsWord, Next as NextWord}
use Rattle.bounded_model.specs.declared.answers.PutRefused.TheVariants.{Full, Closed as PutClosed, Spent as PutSpent}
use Rattle.bounded_model.specs.declared.answers.TakeRefused.{TakeRefused}
use Rattle.bounded_model.specs.declared.history.Event.{Event}
use Rattle.bounded_model.specs.Machine.{Shape}
use Rattle.machine.specs.Schedule.{Machine}
use Rattle.queue_machine.specs.declared.lines.Answer.{Answer}
use Rattle.queue_machine.specs.declared.lines.Answer.TheVariants.{Put, Take}
use Rattle.queue_machine.specs.declared.lines.Call.{Call}
use Rattle.queue_machine.specs.declared.lines.Call.TheVariants.{Put as PutCall, Take as TakeCall}
use Rattle.queue_machine.specs.declared.lines.Line.{Line}
use Rattle.queue_machine.specs.Answers.{shape}
use Rattle.queue_machine.specs.Machine.{Memory, Outcome, queue}
use Rattle.step_core.specs.queue.Law.{values_left}
use Rattle.step_core.specs.queue.Object.{answer}
use Rattle.step_core.specs.Scripts.{Player, Says, Reply}
use Rattle.step_core.specs.Scripts as scripts

-- machines over the queue's words and lines, for each shape
abbrev pub Machines : Type 0
Machines = Shape → Machine (Memory ℕ) (Line ℕ) (Call ℕ) (Event ℕ)

-- the queue's machine with other steps
abbrev pub Moves : Type 0
Moves = Shape → Memory ℕ → ℕ → Line ℕ → Outcome ℕ

abbrev pub queue_with : Moves → Machines
queue_with moves s = record (queue s) { step = moves s }

abbrev pub Players : Type 0
Players = Player (Memory ℕ) (Line ℕ) (Call ℕ) (Answer ℕ) (Event ℕ)

-- a machine, the answer of a line, and what is left from the front
abbrev pub player : Machines → Shape → Players
player machine s = record {
  machine = machine s;
  answer = answer;
  left = values_left s.capacity;
}

abbrev pub plays : Shape → Players
plays s = player (λ shape. queue shape) s

-- a script for a queue of this shape, each line with its reply
abbrev pub Scene : Type 0
Scene = Shape × List (Says (Call ℕ) × Reply (Answer ℕ))

abbrev pub scene : ℕ → ℕ → List (Says (Call ℕ) × Reply (Answer ℕ)) → Scene
scene n limit script = (shape n limit, script)

-- the queue plays a scene; with other steps, the first k lines get their replies and the next one gets another
abbrev pub Plays : Scene → Type 0
Plays scene = scripts.Plays (plays scene.0) scene.1

abbrev pub Fails : Moves → Scene → ℕ → Reply (Answer ℕ) → Type 0
Fails moves scene k other = scripts.Fails (player (queue_with moves) scene.0) scene.1 k other

-- calls
abbrev pub put : ℕ → Call ℕ
put value = PutCall value

abbrev pub take : Call ℕ
take = TakeCall

-- answers
abbrev pub put_is : ℕ → Answer ℕ
put_is n = Put (Ok n)

abbrev pub full : ℕ → Answer ℕ
full value = Put (Err (Full value))

abbrev pub put_closed : ℕ → Answer ℕ
put_closed value = Put (Err (PutClosed value))

abbrev pub cells_spent : ℕ → ℕ → Answer ℕ
cells_spent tag value = Put (Err (PutSpent value CellsWord tag))

abbrev pub next_spent : ℕ → ℕ → ℕ → Answer ℕ
next_spent node tag value = Put (Err (PutSpent value (NextWord node) tag))

abbrev pub take_is : ℕ → ℕ → Answer ℕ
take_is n value = Take (Ok (value, n))

abbrev pub no_take : TakeRefused → Answer ℕ
no_take why = Take (Err why)
