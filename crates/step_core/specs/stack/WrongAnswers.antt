-- Machines that are nearly the stack's. For each there is a schedule in which a pass answers another call than its own,
-- or answers with what it has not done.
use Rattle.std.specs.Prelude.{ℕ, if◌then◌else◌, List, [], ◌∷◌, ◌++◌, Ok}
use Rattle.bounded_model.specs.declared.history.Event.TheVariants.{Hold, Put}
use Rattle.machine.specs.Words.{Tagged, same}
use Rattle.machine.specs.Schedule.{after}
use Rattle.stack_machine.specs.declared.lines.Direction.TheVariants.{Down, Up}
use Rattle.stack_machine.specs.declared.lines.Taking.TheVariants.{One, Whole}
use Rattle.stack_machine.specs.declared.lines.Answer.TheVariants.{Put as AnswerPut}
use Rattle.stack_machine.specs.declared.lines.Line.{Line}
use Rattle.stack_machine.specs.declared.lines.Line.TheVariants.{LoadFree, TakeFree, LoadTop, SwapTop, LoadTopToTake, TakeChain, LoadTopToClose}
use Rattle.stack_machine.specs.declared.lines.Call.{Call}
use Rattle.stack_machine.specs.declared.lines.Call.TheVariants.{Put as CallPut, Take as CallTake, Shut as CallShut}
use Rattle.stack_machine.specs.Answers.{shape}
use Rattle.stack_machine.specs.Machine.{State, stack, step, starts, goes_on, wins, wins_chain, after_hold, after_put, ends, placed, with_node}
use Rattle.machine.specs.Chains.{chain_from}
use Rattle.step_core.specs.Acts.{begins, steps}
use Rattle.step_core.specs.stack.Cast.{Machines, Moves, stack_with}

-- the stack with other first lines of calls
abbrev pub stack_from : (Call ℕ → Line ℕ) → Machines
stack_from first_line s = record (stack s) { starts = λ call idle. first_line call }

-- A put of several values that keeps only the first
abbrev pub puts_only_the_first : Call ℕ → Line ℕ
puts_only_the_first (CallPut v vs) = LoadFree (record { values = v ∷ []; chain = [] })
puts_only_the_first call = starts call

abbrev pub two_values : Call ℕ
two_values = CallPut 10 (11 ∷ [])

abbrev pub put_only_the_first : State ℕ
put_only_the_first = after (stack_from puts_only_the_first (shape 3 15)) 2 (begins 0 two_values 6)

-- A shut that begins as a close
abbrev pub shuts_as_a_close : Call ℕ → Line ℕ
shuts_as_a_close CallShut = LoadTopToClose
shuts_as_a_close call = starts call

abbrev pub shut_as_a_close : State ℕ
shut_as_a_close = after (stack_from shuts_as_a_close (shape 3 15)) 2 (begins 0 CallShut 2)

-- A fold that begins as a take: pass 1 has put two values
abbrev pub folds_as_a_take : Call ℕ → Line ℕ
folds_as_a_take (CallTake (Whole d)) = LoadTopToTake One
folds_as_a_take call = starts call

abbrev pub fold_as_a_take : State ℕ
fold_as_a_take = after (stack_from folds_as_a_take (shape 3 15)) 2 (begins 1 (CallPut 20 []) 6 ++ begins 0 (CallTake (Whole Down)) 6)

-- A fold from the bottom up that skips to turn the chain round: its values come from the top down
abbrev pub folds_without_a_turn : Moves
folds_without_a_turn s m p (TakeChain d w) =
    if same m.top w then wins_chain m p Down w (chain_from 3 m.link w.index) else goes_on m (LoadTopToTake (Whole d))
folds_without_a_turn s m p l = step s m p l

abbrev pub fold_without_a_turn : State ℕ
fold_without_a_turn = after (stack_with folds_without_a_turn (shape 3 15)) 2 (begins 1 (CallPut 20 (21 ∷ [])) 10 ++ begins 0 (CallTake (Whole Up)) 7)

-- A range that goes in by one exchange for each value: another pass's value gets between its values
abbrev pub further : List ℕ → Tagged → Line ℕ
further [] w = ends (AnswerPut (Ok (w.tag, [])))
further (v ∷ []) w = ends (AnswerPut (Ok (w.tag, [])))
further (v ∷ vs) w = LoadFree (record { values = vs; chain = [] })

abbrev pub puts_one_by_one : Moves
puts_one_by_one s m p (TakeFree put w k) = if same m.free w then wins (after_hold m w k) (LoadTop (with_node put w.index)) (Hold p) else goes_on m (LoadFree put)
puts_one_by_one s m p (SwapTop put w) = if same m.top w then wins (after_put m w put) (further put.values w) (Put p (placed put) w.tag) else goes_on m (LoadTop put)
puts_one_by_one s m p l = step s m p l

abbrev pub value_between : State ℕ
value_between = after (stack_with puts_one_by_one (shape 3 15)) 2 (begins 0 two_values 6 ++ begins 1 (CallPut 20 []) 6 ++ steps 0 6)
