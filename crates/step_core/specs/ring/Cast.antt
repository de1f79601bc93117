-- Machines over the ring's words and lines, which play the scripts of the ring, and the calls and answers of those
-- scripts.
use Rattle.std.specs.Prelude.{ℕ, zero, suc, ◌+◌, ◌==◌, if◌then◌else◌, List, [], ◌∷◌, ◌++◌, Option as Slot, Some, Ok, Err}
use mathlib.Core.Option.{Option, some}
use Rattle.bounded_model.specs.declared.answers.Word.TheVariants.{Next as NextWord}
use Rattle.bounded_model.specs.declared.answers.PutRefused.TheVariants.{Full, Closed as PutClosed, Spent as PutSpent}
use Rattle.bounded_model.specs.declared.answers.TakeRefused.{TakeRefused}
use Rattle.bounded_model.specs.declared.history.Event.{Event}
use Rattle.bounded_model.specs.Machine.{Shape}
use Rattle.machine.specs.Schedule.{Machine}
use Rattle.machine.specs.Words.{Tagged}
use Rattle.ring_machine.specs.declared.lines.Answer.{Answer}
use Rattle.ring_machine.specs.declared.lines.Answer.TheVariants.{Put, Take}
use Rattle.ring_machine.specs.declared.lines.Call.{Call}
use Rattle.ring_machine.specs.declared.lines.Call.TheVariants.{Put as PutCall, Take as TakeCall}
use Rattle.ring_machine.specs.declared.lines.Line.{Line}
use Rattle.ring_machine.specs.Answers.{shape}
use Rattle.ring_machine.specs.Machine.{Memory, Outcome, ring, full_at, behind, stride}
use Rattle.step_core.specs.ring.Object.{answer}
use Rattle.step_core.specs.Scripts.{Player, Says, Reply}
use Rattle.step_core.specs.Scripts as scripts

-- machines over the ring's words and lines, for each shape
abbrev pub Machines : Type 0
Machines = Shape → Machine (Memory ℕ) (Line ℕ) (Call ℕ) (Event ℕ)

-- the ring's machine with other steps
abbrev pub Moves : Type 0
Moves = Shape → Memory ℕ → ℕ → Line ℕ → Outcome ℕ

abbrev pub ring_with : Moves → Machines
ring_with moves s = record (ring s) { step = moves s }

-- the value at a position, if its slot is full there
abbrev pub value_in : Option (Slot ℕ) → List ℕ
value_in (some (Some v)) = v ∷ []
value_in o = []

abbrev pub value_at : Memory ℕ → Tagged → List ℕ
value_at m w = if (m.slot w.index).tag == full_at w.tag then value_in (m.home (m.slot w.index).index) else []

-- the values at this number of positions, from one on
abbrev pub values_from : ℕ → Memory ℕ → ℕ → Tagged → List ℕ
values_from n m zero w = []
values_from n m (suc k) w = value_at m w ++ values_from n m k (behind n w)

-- the values in a ring of n slots: `HEAD` names a position that is at most a stride before the front
abbrev pub values_left : ℕ → Memory ℕ → List ℕ
values_left n m = values_from n m (n + stride) m.head

abbrev pub Players : Type 0
Players = Player (Memory ℕ) (Line ℕ) (Call ℕ) (Answer ℕ) (Event ℕ)

-- a machine, the answer of a line, and what is left from the front
abbrev pub player : Machines → Shape → Players
player machine s = record {
  machine = machine s;
  answer = answer;
  left = values_left s.capacity;
}

abbrev pub plays : Shape → Players
plays s = player (λ shape. ring shape) s

-- a script for a ring of this shape, each line with its reply
abbrev pub Scene : Type 0
Scene = Shape × List (Says (Call ℕ) × Reply (Answer ℕ))

abbrev pub scene : ℕ → ℕ → List (Says (Call ℕ) × Reply (Answer ℕ)) → Scene
scene n laps script = (shape n laps, script)

-- the ring plays a scene; with other steps, the first k lines get their replies and the next one gets another
abbrev pub Plays : Scene → Type 0
Plays scene = scripts.Plays (plays scene.0) scene.1

abbrev pub Fails : Moves → Scene → ℕ → Reply (Answer ℕ) → Type 0
Fails moves scene k other = scripts.Fails (player (ring_with moves) scene.0) scene.1 k other

-- calls
abbrev pub put : ℕ → Call ℕ
put value = PutCall value

abbrev pub take : Call ℕ
take = TakeCall

-- answers
abbrev pub put_is : ℕ → Answer ℕ
put_is n = Put (Ok n)

abbrev pub full : ℕ → Answer ℕ
full value = Put (Err (Full value))

abbrev pub put_closed : ℕ → Answer ℕ
put_closed value = Put (Err (PutClosed value))

abbrev pub slot_spent : ℕ → ℕ → ℕ → Answer ℕ
slot_spent slot tag value = Put (Err (PutSpent value (NextWord slot) tag))

abbrev pub take_is : ℕ → ℕ → Answer ℕ
take_is n value = Take (Ok (value, n))

abbrev pub no_take : TakeRefused → Answer ℕ
no_take why = Take (Err why)
