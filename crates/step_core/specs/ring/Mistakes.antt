-- Machines that are nearly the ring's, and for each a schedule in which it breaks the law.
use Rattle.std.specs.Prelude.{ℕ, zero, suc, ◌+◌, ◌-◌, ◌==◌, not, Bool, true, false, if◌then◌else◌, [], ◌∷◌, ◌++◌, Err}
use lib.ListN.{get_elem?}
use Rattle.bounded_model.specs.declared.answers.PutRefused.TheVariants.{Full}
use Rattle.bounded_model.specs.declared.history.Event.TheVariants.{Close, Shut}
use Rattle.machine.specs.Schedule.{Schedule, after}
use Rattle.machine.specs.Words.{Tagged, kept, raised, same, times, total}
use Rattle.ring_machine.specs.declared.lines.Back.TheVariants.{ToPut}
use Rattle.ring_machine.specs.declared.lines.Front.TheVariants.{ToTake}
use Rattle.ring_machine.specs.declared.lines.Answer.TheVariants.{Put as AnswerPut, Close as AnswerClose, Shut as AnswerShut}
use Rattle.ring_machine.specs.declared.lines.Call.{Call}
use Rattle.ring_machine.specs.declared.lines.Call.TheVariants.{Put as CallPut, Take as CallTake, Close as CallClose, Shut as CallShut}
use Rattle.ring_machine.specs.declared.lines.Line.TheVariants.{LoadBack, PutCell, PassTail, MarkBack, LoadFront, TakeCell, Stow, ShutFront}
use Rattle.ring_machine.specs.Machine.{Memory, Outcome, Pass, State, step, held_cells, resting, store_word, behind, empty_at, after_tail, goes_on, wins, ends, put_done}
use Rattle.ring_machine.specs.Answers.{shape}
use Rattle.ring_machine.specs.Places.{WinsUnheld}
use Rattle.step_core.specs.Acts.{begins, steps, line_of}
use Rattle.step_core.specs.ring.Law.{lines_of}
use Rattle.step_core.specs.ring.Cast.{Moves, ring_with}

-- how many hands have a cell
abbrev pub hands_with_cell : ℕ → State ℕ → ℕ
hands_with_cell i s = total (λ (v : Pass ℕ). times i (held_cells v.line)) s.passes

-- by the step from one state of a ring of one slot to the next, pass 1 won a cell that another pass had in hand
abbrev pub WinsHeld : State ℕ → State ℕ → Type 0
WinsHeld s s' = ¬ WinsUnheld 1 s.memory (lines_of s) (line_of (resting 0) (get_elem? s.passes 1)) (line_of (resting 0) (get_elem? s'.passes 1))

-- if the exchange of this word won, its slot has another word
abbrev pub leaving : Outcome ℕ → Memory ℕ → ℕ → Tagged → Tagged → Outcome ℕ
leaving o m i x y = if same (m.slot i) x then record o { memory = record o.memory { slot = store_word m.slot i y } } else o

-- A take leaves its cell in the slot: while pass 0 has the value in hand, the put of pass 1 brings that cell
-- into the hand of pass 1 too
abbrev pub leaves_cell : Moves
leaves_cell s m p (TakeCell w x) = leaving (step s m p (TakeCell w x)) m w.at.index x (raised x x.index)
leaves_cell s m p l = step s m p l

abbrev pub cell_held : ℕ → State ℕ
cell_held k = after (ring_with leaves_cell (shape 1 2)) 2 (begins 1 (CallPut 10) 3 ++ begins 0 CallTake 3 ++ begins 1 (CallPut 11) k)

abbrev pub cell_held_twice : State ℕ
cell_held_twice = cell_held 4

-- A put keeps the slot's tag: the next put goes to the same position, and its number comes again
abbrev pub puts_with_old_tag : Moves
puts_with_old_tag s m p (PutCell w v x) = leaving (step s m p (PutCell w v x)) m w.at.index x (kept x w.cell)
puts_with_old_tag s m p l = step s m p l

abbrev pub number_again : State ℕ
number_again = after (ring_with puts_with_old_tag (shape 2 2)) 1 (begins 0 (CallPut 10) 3 ++ begins 0 (CallPut 11) 3)

-- A take sets the slot's tag back, so the tag says whether the slot is full and does not say in which lap. The slot has
-- the same word again that pass 0 has read, and the exchange of pass 0 wins at a position that was put and taken
abbrev pub takes_with_old_tag : Moves
takes_with_old_tag s m p (TakeCell w x) = leaving (step s m p (TakeCell w x)) m w.at.index x (record x { index = w.cell; tag = x.tag - 1 })
takes_with_old_tag s m p l = step s m p l

abbrev pub put_late : State ℕ
put_late = after (ring_with takes_with_old_tag (shape 2 2)) 2 (begins 0 (CallPut 10) 2 ++ begins 1 (CallPut 11) 3 ++ begins 1 CallTake 4 ++ steps 0 1)

-- A take takes from each full slot that its walk comes to, in whatever lap it was filled: so a value goes out
-- before an older one
abbrev pub is_full : ℕ → Bool
is_full zero = false
is_full (suc tag) = not (is_full tag)

abbrev pub takes_any_full : Moves
takes_any_full s m p (LoadFront w ToTake) = if is_full (m.slot w.at.index).tag then goes_on m (TakeCell w (m.slot w.at.index)) else step s m p (LoadFront w ToTake)
takes_any_full s m p l = step s m p l

abbrev pub taken_early : State ℕ
taken_early = after (ring_with takes_any_full (shape 2 2)) 1 (begins 0 (CallPut 10) 5 ++ begins 0 (CallPut 11) 5 ++ begins 0 CallTake 5 ++ begins 0 (CallPut 12) 5 ++ begins 0 CallTake 5)

-- A put moves `TAIL` one position too far: the next put leaves a slot out
abbrev pub passes_back : Moves
passes_back s m p (PassTail w) =
    if same m.tail w.from then goes_on (after_tail m (behind s.capacity (behind s.capacity w.at))) (ends w.cell (put_done s.capacity w)) else step s m p (PassTail w)
passes_back s m p l = step s m p l

-- this number of puts
abbrev pub puts : ℕ → Schedule (Call ℕ)
puts zero = []
puts (suc k) = begins 0 (CallPut 10) 7 ++ puts k

abbrev pub slot_left_out : State ℕ
slot_left_out = after (ring_with passes_back (shape 6 1)) 1 (puts 5)

-- A close marks empty slots only, and the back's slot of a full ring is not empty: a put follows the close
abbrev pub marks_empty_only : Moves
marks_empty_only s m p (MarkBack w x) = if x.tag == empty_at w.at.tag then step s m p (MarkBack w x) else wins m (ends w.cell (AnswerClose true)) (Close p ∷ [])
marks_empty_only s m p l = step s m p l

abbrev pub closed_full : State ℕ
closed_full = after (ring_with marks_empty_only (shape 1 2)) 1 (begins 0 (CallPut 10) 5 ++ begins 0 CallClose 5 ++ begins 0 CallTake 5 ++ begins 0 (CallPut 11) 5)

-- A close sets a flag of its own, and a put that had looked before it puts later
abbrev pub closes_apart : Moves
closes_apart s m p (MarkBack w x) = wins m (ends w.cell (AnswerClose true)) (Close p ∷ [])
closes_apart s m p l = step s m p l

abbrev pub put_after_close : State ℕ
put_after_close = after (ring_with closes_apart (shape 1 2)) 2 (begins 0 (CallPut 10) 2 ++ begins 1 CallClose 3 ++ steps 0 1)

-- A shut sets a flag of its own, and a take that had looked before it takes later
abbrev pub shuts_apart : Moves
shuts_apart s m p (ShutFront w x) = wins m (ends w.cell (AnswerShut true)) (Shut p ∷ [])
shuts_apart s m p l = step s m p l

abbrev pub take_after_shut : State ℕ
take_after_shut = after (ring_with shuts_apart (shape 1 2)) 2 (begins 0 (CallPut 10) 3 ++ begins 0 CallTake 2 ++ begins 1 CallShut 3 ++ steps 0 1)

-- A take drops the mark of its slot: the ring was closed, and is open again
abbrev pub drops_mark : Moves
drops_mark s m p (TakeCell w x) = leaving (step s m p (TakeCell w x)) m w.at.index x (record (raised x w.cell) { mark = false })
drops_mark s m p l = step s m p l

abbrev pub open_again : State ℕ
open_again = after (ring_with drops_mark (shape 1 2)) 1 (begins 0 (CallPut 10) 5 ++ begins 0 CallClose 5 ++ begins 0 CallTake 5 ++ begins 0 (CallPut 11) 5)

-- A put drops the second mark of its slot: the ring was shut, and a value is taken
abbrev pub drops_second : Moves
drops_second s m p (PutCell w v x) = leaving (step s m p (PutCell w v x)) m w.at.index x (record (raised x w.cell) { second = false })
drops_second s m p l = step s m p l

abbrev pub unshut_again : State ℕ
unshut_again = after (ring_with drops_second (shape 1 2)) 1 (begins 0 CallShut 5 ++ begins 0 (CallPut 10) 5 ++ begins 0 CallTake 5)

-- A put is refused one lap too late: the tag is above the limit
abbrev pub spends_late : Moves
spends_late s m p l = step (record s { limit = s.limit + 2 }) m p l

abbrev pub above_limit : State ℕ
above_limit = after (ring_with spends_late (shape 1 1)) 1 (begins 0 (CallPut 10) 5 ++ begins 0 CallTake 5 ++ begins 0 (CallPut 11) 5)

-- A put is refused if the slot that `TAIL` names is not empty: `TAIL` names a position before the back, and there is
-- room
abbrev pub full_by_hint : Moves
full_by_hint s m p (LoadBack w (ToPut v)) = if (m.slot w.at.index).tag == empty_at w.at.tag then step s m p (LoadBack w (ToPut v)) else goes_on m (Stow w (AnswerPut (Err (Full v))))
full_by_hint s m p l = step s m p l

abbrev pub not_full : State ℕ
not_full = after (ring_with full_by_hint (shape 2 2)) 1 (begins 0 (CallPut 10) 3 ++ begins 0 (CallPut 11) 3)
