-- Machines that are nearly the ring's. For each there is a schedule in which a pass answers another call than its own,
-- answers with what it has not done, or answers with what was never so.
use Rattle.std.specs.Prelude.{ℕ, ◌+◌, ◌-◌, ltb, if◌then◌else◌, ◌++◌, Err}
use Rattle.bounded_model.specs.declared.answers.PutRefused.TheVariants.{Full}
use Rattle.machine.specs.Schedule.{after}
use Rattle.ring_machine.specs.declared.lines.Back.TheVariants.{ToClose, ToCount}
use Rattle.ring_machine.specs.declared.lines.Answer.TheVariants.{Put as AnswerPut, Len as AnswerLen}
use Rattle.ring_machine.specs.declared.lines.Call.{Call}
use Rattle.ring_machine.specs.declared.lines.Call.TheVariants.{Put as CallPut, Take as CallTake, Shut as CallShut, Len as CallLen}
use Rattle.ring_machine.specs.declared.lines.Line.{Line}
use Rattle.ring_machine.specs.declared.lines.Line.TheVariants.{LoadTail, LoadBack, PutCell, Stow}
use Rattle.ring_machine.specs.Machine.{State, ring, starts, step, cell_of, empty_at, place, goes_on, ends}
use Rattle.ring_machine.specs.Answers.{shape}
use Rattle.step_core.specs.Acts.{begins, steps}
use Rattle.step_core.specs.ring.Cast.{Machines, Moves, ring_with}

-- A put that puts another value than its own
abbrev pub puts_another : Moves
puts_another s m p (PutCell w v x) = step s m p (PutCell w (v + 1) x)
puts_another s m p l = step s m p l

abbrev pub put_another : State ℕ
put_another = after (ring_with puts_another (shape 1 1)) 1 (begins 0 (CallPut 10) 3)

-- A put that is refused hands back another value
abbrev pub hands_back_another : Moves
hands_back_another s m p (Stow w (AnswerPut (Err (Full v)))) = step s m p (Stow w (AnswerPut (Err (Full (v + 1)))))
hands_back_another s m p l = step s m p l

abbrev pub handed_back : State ℕ
handed_back = after (ring_with hands_back_another (shape 1 2)) 2 (begins 1 (CallPut 12) 3 ++ begins 0 (CallPut 10) 4)

-- A shut that begins as a close: the ring is closed, and the answer is one of a close
abbrev pub shuts_by_closing : Machines
shuts_by_closing s = record (ring s) { starts = λ call l. begins_at call l }
  where
    begins_at : Call ℕ → Line ℕ → Line ℕ
    begins_at CallShut l = LoadTail (cell_of l) ToClose
    begins_at call l = starts call l

abbrev pub closed_instead : State ℕ
closed_instead = after (shuts_by_closing (shape 1 1)) 1 (begins 0 CallShut 3)

-- A count that does not look at the front again: another pass took a value that it counts before a further value was
-- put, so the count is greater than the number of values was at any time
abbrev pub counts_once : Moves
counts_once s m p (LoadBack w (ToCount front)) =
    if ltb (empty_at w.at.tag) (m.slot w.at.index).tag then step s m p (LoadBack w (ToCount front))
    else goes_on m (ends w.cell (AnswerLen (place s.capacity w.at - place s.capacity front)))
counts_once s m p l = step s m p l

abbrev pub counted_two : State ℕ
counted_two = after (ring_with counts_once (shape 1 2)) 2 (begins 0 CallLen 2 ++ begins 1 (CallPut 10) 3 ++ begins 1 CallTake 4 ++ begins 1 (CallPut 11) 4 ++ steps 0 4)
