-- Machines that are nearly the stack's, and for each a schedule in which it breaks the law.
use Rattle.std.specs.Prelude.{ℕ, ◌==◌, if◌then◌else◌, true, false, [], ◌++◌, None}
use mathlib.Core.Option.{none}
use lib.ListN.{get_elem?}
use Rattle.tagged_index.specs.declared.word.TheConstants.{NULL}
use Rattle.bounded_model.specs.declared.history.Event.TheVariants.{Hold, Close, Shut}
use Rattle.machine.specs.Words.{Tagged, kept, same, times, total}
use Rattle.stack_machine.specs.declared.lines.Direction.TheVariants.{Down}
use Rattle.stack_machine.specs.declared.lines.Taking.TheVariants.{One, Whole}
use Rattle.stack_machine.specs.declared.lines.Answer.TheVariants.{Close as AnswerClose, Shut as AnswerShut}
use Rattle.stack_machine.specs.declared.lines.Line.TheVariants.{Idle, LoadFree, TakeFree, LoadTop, SwapTop, LoadTopToTake, TakeTop, LoadLinkToFold, LoadTopToClose, MarkTop, LoadTopToShut, ShutTop, GiveBack}
use Rattle.stack_machine.specs.declared.lines.Call.TheVariants.{Put as CallPut, Take as CallTake, Close as CallClose, Shut as CallShut}
use Rattle.machine.specs.Schedule.{after}
use Rattle.stack_machine.specs.Machine.{Memory, Pass, State, Outcome, step, held, goes_on, wins, wins_value, after_hold, after_store, at_take_free, at_load_top, at_load_top_to_take, ends}
use Rattle.machine.specs.Chains.{with_home}
use Rattle.stack_machine.specs.Answers.{shape}
use Rattle.step_core.specs.Acts.{begins, steps, line_of}
use Rattle.step_core.specs.stack.Law.{lines_of}
use Rattle.step_core.specs.stack.Cast.{Moves, stack_with}
use Rattle.stack_machine.specs.Places.{WinsUnheld}

-- how many hands have a node
abbrev pub hands_with_node : ℕ → State ℕ → ℕ
hands_with_node i s = total (λ (v : Pass ℕ). times i (held v.line)) s.passes

-- by the step from one state to the next, pass 1 won a node that another pass had in hand
abbrev pub WinsHeld : State ℕ → State ℕ → Type 0
WinsHeld s s' = ¬ WinsUnheld s.memory (lines_of s) (line_of (Idle None) (get_elem? s.passes 1)) (line_of (Idle None) (get_elem? s'.passes 1))

-- A node is taken from the free list and its top keeps the tag. Pass 0 has read node 0 and its link, node 1. Node 1
-- goes to pass 2, node 0 goes out and comes back, and pass 0's exchange wins. So node 1 is free while pass 2 holds it,
-- and pass 1 takes it a second time
abbrev pub holds_with_old_tag : Moves
holds_with_old_tag s m p (TakeFree put w k) = if same m.free w then wins (record (after_hold m w k) { free = kept w k }) (at_take_free put w) (Hold p) else goes_on m (LoadFree put)
holds_with_old_tag s m p l = step s m p l

abbrev pub node_held : ℕ → State ℕ
node_held k = after (stack_with holds_with_old_tag (shape 3 15)) 3
    (begins 0 (CallPut 10 []) 2 ++ begins 1 (CallPut 11 []) 6 ++ begins 2 (CallPut 12 []) 3 ++ begins 1 (CallTake One) 6 ++ steps 0 1 ++ begins 1 (CallPut 13 []) k)

abbrev pub node_held_twice : State ℕ
node_held_twice = node_held 3

-- A value is taken and the top keeps its tag: the take's number comes again
abbrev pub keeps : Memory ℕ → Tagged → ℕ → Outcome ℕ → Outcome ℕ
keeps m w k o = record o { memory = record m { top = kept w k; home = with_home m.home w.index none } }

abbrev pub takes_with_old_tag : Moves
takes_with_old_tag s m p (TakeTop w k) = if same m.top w then keeps m w k (wins_value m p w k (m.home w.index)) else goes_on m (LoadTopToTake One)
takes_with_old_tag s m p l = step s m p l

abbrev pub number_again : State ℕ
number_again = after (stack_with takes_with_old_tag (shape 2 15)) 1 (begins 0 (CallPut 10 []) 6 ++ begins 0 (CallTake One) 6 ++ begins 0 (CallPut 11 []) 6)

-- A put that lost its exchange tries again with the new top and its old link: the other pass's value is cut off
abbrev pub puts_on_stale_top : Moves
puts_on_stale_top s m p (SwapTop put w) = if same m.top w then step s m p (SwapTop put w) else goes_on m (SwapTop put m.top)
puts_on_stale_top s m p l = step s m p l

abbrev pub cut_off : State ℕ
cut_off = after (stack_with puts_on_stale_top (shape 2 15)) 2 (begins 0 (CallPut 10 []) 5 ++ begins 1 (CallPut 11 []) 6 ++ steps 0 2)

-- A fold that answers without giving its nodes back: the node is nowhere
abbrev pub forgets_nodes : Moves
forgets_nodes s m p (LoadLinkToFold give i) = if m.link i == NULL then goes_on m (ends give.answer) else goes_on m (LoadLinkToFold give (m.link i))
forgets_nodes s m p l = step s m p l

abbrev pub forgotten : State ℕ
forgotten = after (stack_with forgets_nodes (shape 1 15)) 1 (begins 0 (CallPut 10 []) 6 ++ begins 0 (CallTake (Whole Down)) 3)

-- A take that leaves its value in the node, and a give that does so too: the node is free and not empty
abbrev pub leaves_values : Moves
leaves_values s m p (TakeTop w k) = let o = step s m p (TakeTop w k) in record o { memory = record o.memory { home = m.home } }
leaves_values s m p (GiveBack give w) = let o = step s m p (GiveBack give w) in record o { memory = record o.memory { home = m.home } }
leaves_values s m p l = step s m p l

abbrev pub left_there : State ℕ
left_there = after (stack_with leaves_values (shape 1 15)) 1 (begins 0 (CallPut 10 []) 6 ++ begins 0 (CallTake One) 6)

-- Closing sets a flag of its own, a word that lies beside the links, and a put that found it clear goes in after the close
abbrev pub flag : Memory ℕ → ℕ
flag m = m.link NULL

abbrev pub closes_by_flag : Moves
closes_by_flag s m p (LoadTop put) = goes_on m (at_load_top 15 put (record m.top { mark = flag m == 1 }))
closes_by_flag s m p LoadTopToClose = if flag m == 1 then goes_on m (ends (AnswerClose false)) else goes_on m (MarkTop m.top)
closes_by_flag s m p (MarkTop w) = if flag m == 1 then goes_on m (ends (AnswerClose false)) else wins (after_store m NULL 1) (ends (AnswerClose true)) (Close p)
closes_by_flag s m p l = step s m p l

abbrev pub put_after_close : State ℕ
put_after_close = after (stack_with closes_by_flag (shape 1 15)) 2 (begins 0 (CallPut 10 []) 4 ++ begins 1 CallClose 2 ++ steps 0 2)

-- Shutting sets it, and a take that found it clear takes after the shut
abbrev pub shuts_by_flag : Moves
shuts_by_flag s m p (LoadTopToTake taking) = goes_on m (at_load_top_to_take 15 taking (record m.top { second = flag m == 1 }))
shuts_by_flag s m p LoadTopToShut = if flag m == 1 then goes_on m (ends (AnswerShut false)) else goes_on m (ShutTop m.top)
shuts_by_flag s m p (ShutTop w) = if flag m == 1 then goes_on m (ends (AnswerShut false)) else wins (after_store m NULL 1) (ends (AnswerShut true)) (Shut p)
shuts_by_flag s m p l = step s m p l

abbrev pub take_after_shut : State ℕ
take_after_shut = after (stack_with shuts_by_flag (shape 1 15)) 2 (begins 0 (CallPut 10 []) 6 ++ begins 0 (CallTake One) 2 ++ begins 1 CallShut 2 ++ steps 0 1)
