-- Machines that are nearly the queue's. For each there is a schedule in which a pass answers another call than its own,
-- or answers with what it has not done.
use Rattle.std.specs.Prelude.{ℕ, ◌+◌, if◌then◌else◌, [], ◌∷◌, ◌++◌, Err}
use Rattle.bounded_model.specs.declared.answers.PutRefused.TheVariants.{Closed}
use Rattle.bounded_model.specs.declared.history.Event.TheVariants.{Put}
use Rattle.machine.specs.Words.{raised, same}
use Rattle.queue_machine.specs.declared.lines.Seeking.TheVariants.{ToLink, ToRefuse, ToClose}
use Rattle.queue_machine.specs.declared.lines.Answer.TheVariants.{Put as AnswerPut}
use Rattle.queue_machine.specs.declared.lines.Call.{Call}
use Rattle.queue_machine.specs.declared.lines.Call.TheVariants.{Put as CallPut, Close as CallClose, Shut as CallShut}
use Rattle.queue_machine.specs.declared.lines.Line.{Line}
use Rattle.queue_machine.specs.declared.lines.Line.TheVariants.{LoadTail, CheckTail, LinkNext, SwingToLinked}
use Rattle.queue_machine.specs.Machine.{State, queue, starts, step, goes_on, wins, after_link_of, ends}
use Rattle.queue_machine.specs.Answers.{shape}
use Rattle.machine.specs.Schedule.{Schedule, after}
use Rattle.step_core.specs.Acts.{begins}
use Rattle.step_core.specs.queue.Cast.{Machines, Moves, queue_with}

-- A put that puts another value than its own
abbrev pub puts_another : Moves
puts_another s m p (LinkNext link w n) =
    if same (m.next w.index) n
    then wins (after_link_of m w n link.node link.cell (link.value + 1)) (SwingToLinked link.value w (raised n link.node)) (Put p ((link.value + 1) ∷ []) w.tag)
    else goes_on m (LoadTail (ToLink link))
puts_another s m p l = step s m p l

abbrev pub put_another : State ℕ
put_another = after (queue_with puts_another (shape 1 15)) 1 (begins 0 (CallPut 10) 14)

-- A put that is refused hands back another value
abbrev pub hands_back_another : Moves
hands_back_another s m p (CheckTail (ToRefuse v) w n) = goes_on m (ends (AnswerPut (Err (Closed (v + 1)))))
hands_back_another s m p l = step s m p l

-- pass 1 has taken the only cell and stopped, and pass 2 has closed the queue
abbrev pub handed_back : State ℕ
handed_back = after (queue_with hands_back_another (shape 1 15)) 3 (begins 1 (CallPut 12) 3 ++ begins 2 CallClose 4 ++ begins 0 (CallPut 10) 4)

-- A refused put keeps its cell: its answer comes before the cell goes back
abbrev pub keeps_cell : Moves
keeps_cell s m p (CheckTail (ToLink link) w n) =
    if n.mark then goes_on m (ends (AnswerPut (Err (Closed link.value)))) else step s m p (CheckTail (ToLink link) w n)
keeps_cell s m p l = step s m p l

abbrev pub keeping : Schedule (Call ℕ)
keeping = begins 1 CallClose 4 ++ begins 0 (CallPut 10) 12

abbrev pub kept_cell : State ℕ
kept_cell = after (queue_with keeps_cell (shape 1 15)) 2 keeping

-- A shut that begins as a close: the queue is closed, and the answer is one of a close
abbrev pub shuts_by_closing : Machines
shuts_by_closing s = record (queue s) { starts = λ call l. begins_at call }
  where
    begins_at : Call ℕ → Line ℕ
    begins_at CallShut = LoadTail ToClose
    begins_at call = starts call

abbrev pub closed_instead : State ℕ
closed_instead = after (shuts_by_closing (shape 1 15)) 1 (begins 0 CallShut 4)
