-- Machines that are nearly the queue's, and for each a schedule in which it breaks the law.
use Rattle.std.specs.Prelude.{ℕ, if◌then◌else◌, ◌==◌, true, ◌++◌, None}
use lib.ListN.{get_elem?}
use Rattle.bounded_model.specs.declared.history.Event.TheVariants.{Free, Close, Shut}
use Rattle.machine.specs.Words.{kept, same, times, total}
use Rattle.queue_machine.specs.declared.lines.Seeking.TheVariants.{ToLink}
use Rattle.queue_machine.specs.declared.lines.Giving.{Giving}
use Rattle.queue_machine.specs.declared.lines.Answer.TheVariants.{Close as AnswerClose, Shut as AnswerShut}
use Rattle.queue_machine.specs.declared.lines.Line.TheVariants.{Idle, LoadCells, TakeCell, CheckTail, LinkToNodes, LoadCellsToGive, LinkToCells, GiveCell, LoadNodes, TakeNode, StoreCell, PrepareNext, LoadTail, MarkNext, LoadHead, CheckHead, SwingTailToTake, LoadCell, TakeHead, LoadNodesToGive, GiveNode, ShutHead}
use Rattle.queue_machine.specs.declared.lines.Call.TheVariants.{Put as CallPut, Take as CallTake, Close as CallClose, Shut as CallShut}
use Rattle.machine.specs.Schedule.{after}
use Rattle.queue_machine.specs.Machine.{Memory, Pass, State, step, held_cells, held_nodes, found_back, frees, after_free, after_clink, after_nlink, goes_on, wins, wins_value, null_word, with_node, after_node_give, after_next, after_take, ends}
use Rattle.queue_machine.specs.Answers.{shape}
use Rattle.queue_machine.specs.Places.{WinsUnheld}
use Rattle.step_core.specs.Acts.{begins, steps, line_of}
use Rattle.step_core.specs.queue.Law.{lines_of}
use Rattle.step_core.specs.queue.Cast.{Moves, queue_with}

-- how many hands have a cell, and a node
abbrev pub hands_with_cell : ℕ → State ℕ → ℕ
hands_with_cell i s = total (λ (v : Pass ℕ). times i (held_cells v.line)) s.passes

abbrev pub hands_with_node : ℕ → State ℕ → ℕ
hands_with_node j s = total (λ (v : Pass ℕ). times j (held_nodes v.line)) s.passes

-- by the step from one state to the next, pass 1 won a cell or a node that another pass had in hand
abbrev pub WinsHeld : State ℕ → State ℕ → Type 0
WinsHeld s s' = ¬ WinsUnheld s.memory (lines_of s) (line_of (Idle None) (get_elem? s.passes 1)) (line_of (Idle None) (get_elem? s'.passes 1))

-- A cell is taken and `CELLS` keeps its tag. Pass 0 has read cell 0 and its link, cell 1. Cell 1 goes to pass 2, cell 0
-- goes out and comes back, and pass 0's exchange wins. So cell 1 is free while pass 2 holds it, and pass 1 takes it a
-- second time
abbrev pub takes_cell_with_old_tag : Moves
takes_cell_with_old_tag s m p (TakeCell v w k) =
    if same m.cells w then (let o = step s m p (TakeCell v w k) in record o { memory = record o.memory { cells = kept w k } })
    else goes_on m (LoadCells v)
takes_cell_with_old_tag s m p l = step s m p l

abbrev pub cell_held : ℕ → State ℕ
cell_held k = after (queue_with takes_cell_with_old_tag (shape 3 15)) 3
    (begins 0 (CallPut 10) 2 ++ begins 1 (CallPut 11) 14 ++ begins 2 (CallPut 12) 3 ++ begins 1 CallTake 12 ++ steps 0 1 ++ begins 1 (CallPut 13) k)

abbrev pub cell_held_twice : State ℕ
cell_held_twice = cell_held 3

-- A node is taken and `NODES` keeps its tag. Pass 0 has read node 1 and its link, node 2. Node 2 goes to pass 2, node 1
-- goes out and comes back, and pass 0's exchange wins. So node 2 is free while pass 2 holds it, and pass 1 takes it a
-- second time
abbrev pub takes_node_with_old_tag : Moves
takes_node_with_old_tag s m p (TakeNode put w k) = if same m.nodes w then goes_on (record m { nodes = kept w k }) (StoreCell (with_node put w.index)) else goes_on m (LoadNodes put)
takes_node_with_old_tag s m p l = step s m p l

abbrev pub node_held : ℕ → State ℕ
node_held k = after (queue_with takes_node_with_old_tag (shape 3 15)) 3
    (begins 0 (CallPut 10) 5 ++ begins 1 (CallPut 11) 14 ++ begins 2 (CallPut 12) 6 ++ begins 1 CallTake 12 ++ begins 1 (CallPut 13) 14 ++ begins 1 CallTake 12 ++ steps 0 1 ++ begins 1 (CallPut 14) k)

abbrev pub node_held_twice : State ℕ
node_held_twice = node_held 6

-- A value is taken and the head keeps its tag: the take's number comes again
abbrev pub takes_with_old_tag : Moves
takes_with_old_tag s m p (TakeHead h y k) =
    if same m.head h
    then (let o = wins_value m p h y k (m.home k) in record o { memory = record (after_take m h y k) { head = kept h y.index } })
    else goes_on m LoadHead
takes_with_old_tag s m p l = step s m p l

abbrev pub number_again : State ℕ
number_again = after (queue_with takes_with_old_tag (shape 2 15)) 1 (begins 0 (CallPut 10) 14 ++ begins 0 (CallPut 11) 14 ++ begins 0 CallTake 12 ++ begins 0 CallTake 12)

-- A link is prepared with tag 0: a put that has read it before its node went out and came back links after a node that
-- is no longer the last, with an old number
abbrev pub prepares_with_no_tag : Moves
prepares_with_no_tag s m p (PrepareNext link y) = goes_on (after_next m link.node (null_word 0)) (LoadTail (ToLink link))
prepares_with_no_tag s m p l = step s m p l

abbrev pub linked_late : State ℕ
linked_late = after (queue_with prepares_with_no_tag (shape 2 15)) 2 (begins 0 (CallPut 10) 12 ++ begins 1 (CallPut 11) 14 ++ begins 1 CallTake 12 ++ begins 1 (CallPut 12) 14 ++ steps 0 1)

-- A take gives the new dummy back, and not the old one
abbrev pub gives_new_dummy : Moves
gives_new_dummy s m p (GiveNode give w) = if same m.nodes w then goes_on (after_node_give m w m.head.index) (step s m p (GiveNode give w)).line else goes_on m (LoadNodesToGive give)
gives_new_dummy s m p l = step s m p l

abbrev pub dummy_free : State ℕ
dummy_free = after (queue_with gives_new_dummy (shape 1 15)) 1 (begins 0 (CallPut 10) 14 ++ begins 0 CallTake 12)

-- A take leaves its value in the cell, and so does the give: the cell is free and not empty
abbrev pub leaves_values : Moves
leaves_values s m p (TakeHead h y k) = let o = step s m p (TakeHead h y k) in record o { memory = record o.memory { home = m.home } }
leaves_values s m p (GiveCell give w) = let o = step s m p (GiveCell give w) in record o { memory = record o.memory { home = m.home } }
leaves_values s m p l = step s m p l

abbrev pub left_there : State ℕ
left_there = after (queue_with leaves_values (shape 1 15)) 1 (begins 0 (CallPut 10) 14 ++ begins 0 CallTake 12)

-- A take leaves out the comparison with the tail, so the head overtakes it
abbrev pub overtakes_tail : Moves
overtakes_tail s m p (SwingTailToTake w y) = goes_on m LoadHead
overtakes_tail s m p (CheckHead h w y) = if w.index == h.index then (if same m.head h then goes_on m (LoadCell h y) else goes_on m LoadHead) else step s m p (CheckHead h w y)
overtakes_tail s m p l = step s m p l

abbrev pub overtaken : State ℕ
overtaken = after (queue_with overtakes_tail (shape 2 15)) 2 (begins 0 (CallPut 10) 13 ++ begins 1 CallTake 6)

-- A close sets a flag of its own, and a put that had looked before it links later
abbrev pub closes_apart : Moves
closes_apart s m p (MarkNext w y) = wins m (ends (AnswerClose true)) (Close p)
closes_apart s m p l = step s m p l

abbrev pub put_after_close : State ℕ
put_after_close = after (queue_with closes_apart (shape 2 15)) 2 (begins 0 (CallPut 10) 12 ++ begins 1 CallClose 4 ++ steps 0 1)

-- A shut sets a flag of its own, and a take that had looked before it takes later
abbrev pub shuts_apart : Moves
shuts_apart s m p (ShutHead h) = wins m (ends (AnswerShut true)) (Shut p)
shuts_apart s m p l = step s m p l

abbrev pub take_after_shut : State ℕ
take_after_shut = after (queue_with shuts_apart (shape 2 15)) 2 (begins 0 (CallPut 10) 14 ++ begins 0 CallTake 5 ++ begins 1 CallShut 2 ++ steps 0 1)

-- A take loads the cell of its value after its exchange of the head, by the node that is the dummy from
-- then on: another take has given that node back, and a put has taken it and stored its own cell there.
-- The load of `NODES` stands for both loads
abbrev pub cell_again : Memory ℕ → Giving ℕ → ℕ
cell_again m give = m.cell (m.next give.node).index

abbrev pub loads_cell_late : Moves
loads_cell_late s m p (LoadNodesToGive give) = goes_on m (LinkToNodes (record give { cell = cell_again m give }) m.nodes)
loads_cell_late s m p l = step s m p l

abbrev pub wrong_cell : State ℕ
wrong_cell = after (queue_with loads_cell_late (shape 2 15)) 2 (begins 1 (CallPut 10) 14 ++ begins 1 (CallPut 11) 14 ++ begins 0 CallTake 6 ++ begins 1 CallTake 12 ++ begins 1 (CallPut 12) 7 ++ steps 0 1)

-- A take gives its cell back first and then its node: another put takes the cell and finds no node. The
-- lines that give a node work on the cells, and those that give a cell on the nodes
abbrev pub gives_cell_first : Moves
gives_cell_first s m p (LoadNodesToGive give) = goes_on m (LinkToNodes give m.cells)
gives_cell_first s m p (LinkToNodes give w) = goes_on (after_clink m give.cell w.index) (GiveNode give w)
gives_cell_first s m p (GiveNode give w) =
    if same m.cells w then wins (after_free m w give.cell) (frees give.node give.answer) (Free p 1)
    else goes_on m (LoadNodesToGive give)
gives_cell_first s m p (LoadCellsToGive give) = goes_on m (LinkToCells give m.nodes)
gives_cell_first s m p (LinkToCells give w) = goes_on (after_nlink m give.cell w.index) (GiveCell give w)
gives_cell_first s m p (GiveCell give w) =
    if same m.nodes w then goes_on (after_node_give m w give.cell) (ends give.answer) else goes_on m (LoadCellsToGive give)
gives_cell_first s m p l = step s m p l

abbrev pub no_node : State ℕ
no_node = after (queue_with gives_cell_first (shape 1 15)) 2 (begins 1 (CallPut 10) 14 ++ begins 0 CallTake 9 ++ begins 1 (CallPut 11) 3)

-- A put links its node without looking whether the tail is still where it was: the node that the tail
-- named went out and came back, and is another put's now
abbrev pub links_behind_stale_tail : Moves
links_behind_stale_tail s m p (CheckTail (ToLink link) w y) = goes_on m (found_back (ToLink link) w y)
links_behind_stale_tail s m p l = step s m p l

abbrev pub linked_aside : State ℕ
linked_aside = after (queue_with links_behind_stale_tail (shape 2 15)) 2 (begins 0 (CallPut 10) 10 ++ begins 1 (CallPut 11) 14 ++ begins 1 CallTake 12 ++ begins 1 (CallPut 12) 9 ++ steps 0 3)
