-- The machines that play the scripts of the stack, and the calls and answers of those scripts.
use Rattle.std.specs.Prelude.{ℕ, List, [], Ok, Err}
use Rattle.bounded_model.specs.declared.answers.Word.TheVariants.{Free as FreeWord, Top as TopWord}
use Rattle.bounded_model.specs.declared.answers.PutRefused.TheVariants.{Full, Closed as PutClosed, Spent as PutSpent}
use Rattle.bounded_model.specs.declared.answers.TakeRefused.{TakeRefused}
use Rattle.bounded_model.specs.declared.history.Event.{Event}
use Rattle.bounded_model.specs.Machine.{Shape}
use Rattle.machine.specs.Chains.{chain_from, values_in}
use Rattle.machine.specs.Schedule.{Machine}
use Rattle.stack_machine.specs.declared.lines.Direction.TheVariants.{Down, Up}
use Rattle.stack_machine.specs.declared.lines.Taking.TheVariants.{One, Whole}
use Rattle.stack_machine.specs.declared.lines.Answer.{Answer}
use Rattle.stack_machine.specs.declared.lines.Answer.TheVariants.{Put, Take, Fold}
use Rattle.stack_machine.specs.declared.lines.Call.{Call}
use Rattle.stack_machine.specs.declared.lines.Call.TheVariants.{Put as PutCall, Take as TakeCall}
use Rattle.stack_machine.specs.declared.lines.Line.{Line}
use Rattle.stack_machine.specs.Answers.{shape}
use Rattle.stack_machine.specs.Machine.{Memory, Outcome, stack}
use Rattle.step_core.specs.stack.Object.{answer}
use Rattle.step_core.specs.Scripts.{Player, Says, Reply}
use Rattle.step_core.specs.Scripts as scripts

-- machines over the stack's words and lines, for each shape
abbrev pub Machines : Type 0
Machines = Shape → Machine (Memory ℕ) (Line ℕ) (Call ℕ) (Event ℕ)

-- the stack's machine with other steps
abbrev pub Moves : Type 0
Moves = Shape → Memory ℕ → ℕ → Line ℕ → Outcome ℕ

abbrev pub stack_with : Moves → Machines
stack_with moves s = record (stack s) { step = moves s }

abbrev pub Players : Type 0
Players = Player (Memory ℕ) (Line ℕ) (Call ℕ) (Answer ℕ) (Event ℕ)

-- a machine, the answer of a line, and what is left from the top down
abbrev pub player : Machines → Shape → Players
player machine s = record { machine = machine s; answer = answer; left = λ m. values_in m.home (chain_from s.capacity m.link m.top.index) }

abbrev pub plays : Shape → Players
plays s = player (λ shape. stack shape) s

-- a script for a stack of this shape, each line with its reply
abbrev pub Scene : Type 0
Scene = Shape × List (Says (Call ℕ) × Reply (Answer ℕ))

abbrev pub scene : ℕ → ℕ → List (Says (Call ℕ) × Reply (Answer ℕ)) → Scene
scene n limit script = (shape n limit, script)

-- the stack plays a scene; with other steps, the first k lines get their replies and the next one gets another
abbrev pub Plays : Scene → Type 0
Plays scene = scripts.Plays (plays scene.0) scene.1

abbrev pub Fails : Moves → Scene → ℕ → Reply (Answer ℕ) → Type 0
Fails moves scene k other = scripts.Fails (player (stack_with moves) scene.0) scene.1 k other

-- calls
abbrev pub put : ℕ → Call ℕ
put value = PutCall value []

abbrev pub range : ℕ → List ℕ → Call ℕ
range value more = PutCall value more

abbrev pub take : Call ℕ
take = TakeCall One

abbrev pub fold : Call ℕ
fold = TakeCall (Whole Down)

abbrev pub reversed_fold : Call ℕ
reversed_fold = TakeCall (Whole Up)

-- answers
abbrev pub put_is : ℕ → Answer ℕ
put_is n = Put (Ok (n, []))

abbrev pub range_is : ℕ → List ℕ → Answer ℕ
range_is n kept = Put (Ok (n, kept))

abbrev pub full : List ℕ → Answer ℕ
full values = Put (Err (Full values))

abbrev pub put_closed : List ℕ → Answer ℕ
put_closed values = Put (Err (PutClosed values))

abbrev pub top_spent : ℕ → List ℕ → Answer ℕ
top_spent tag values = Put (Err (PutSpent values TopWord tag))

abbrev pub free_spent : ℕ → List ℕ → Answer ℕ
free_spent tag values = Put (Err (PutSpent values FreeWord tag))

abbrev pub take_is : ℕ → ℕ → Answer ℕ
take_is n value = Take (Ok (value, n))

abbrev pub no_take : TakeRefused → Answer ℕ
no_take why = Take (Err why)

abbrev pub fold_is : ℕ → List ℕ → Answer ℕ
fold_is n values = Fold (Ok (values, n))

abbrev pub no_fold : TakeRefused → Answer ℕ
no_fold why = Fold (Err why)
