-- The order of the tests at each line matters, and so does each comparison: with another one, a script
-- gets another reply.
use Rattle.std.specs.Prelude.{◌-◌, ◌==◌, ◌&&◌, leb, if◌then◌else◌, true, false}
use Rattle.bounded_model.specs.declared.answers.TakeRefused.TheVariants.{Empty, Shut}
use Rattle.queue_machine.specs.declared.lines.Answer.TheVariants.{Close, Shut as ShutAnswer, Look, Len, Gauge}
use Rattle.tagged_index.specs.declared.word.TheConstants.{NULL}
use Rattle.machine.specs.Words.{same}
use Rattle.queue_machine.specs.declared.lines.Seeking.TheVariants.{ToRefuse, ToGauge}
use Rattle.queue_machine.specs.declared.lines.Line.TheVariants.{LoadCells, LoadNext, PrepareNext, LoadTail, CheckTail, SwingTail, LoadHead, LoadTailToTake, CheckHead, SwingTailToTake, TakeHead, CheckHeadToLook, LoadHeadToCount, CheckHeadToCount, CheckNextToGauge, MarkNext, LoadHeadToShut, ShutHead}
use Rattle.queue_machine.specs.Machine.{step, goes_on, wins_value, ends, found_cells, found_back, back_null, back_closed, found_front, counted}
use Rattle.step_core.specs.queue.Cast.{Moves, cells_spent, no_take}

-- a put that looks at the limit before it looks for a free cell
abbrev pub limit_first : Moves
limit_first s m p (LoadCells value) = goes_on m (if leb s.limit m.cells.tag then ends (cells_spent m.cells.tag value) else found_cells s.limit value m.cells)
limit_first s m p l = step s m p l

-- a put that goes to see whether the queue is closed before it refuses at the limit
abbrev pub closed_first : Moves
closed_first s m p (LoadCells value) = goes_on m (if leb s.limit m.cells.tag then LoadTail (ToRefuse value) else found_cells s.limit value m.cells)
closed_first s m p l = step s m p l

-- a put that prepares its link whatever its tag
abbrev pub next_limit_last : Moves
next_limit_last s m p (LoadNext link) = goes_on m (PrepareNext link (m.next link.node))
next_limit_last s m p l = step s m p l

-- a pass at the end of the chain that takes null for open before looking at the mark
abbrev pub null_before_mark : Moves
null_before_mark s m p (CheckTail seek w n) = goes_on m (if same m.tail w then (if n.index == NULL then back_null seek w n else found_back seek w n) else LoadTail seek)
null_before_mark s m p l = step s m p l

-- and looks at the mark before comparing with the tail
abbrev pub link_before_tail : Moves
link_before_tail s m p (CheckTail seek w n) = goes_on m (if n.mark then back_closed seek w else if same m.tail w then found_back seek w n else LoadTail seek)
link_before_tail s m p l = step s m p l

-- and takes null for the end before comparing with the tail: a close marks a node that another put has
-- in hand
abbrev pub null_before_tail : Moves
null_before_tail s m p (CheckTail seek w n) = goes_on m (if n.mark then back_closed seek w else if n.index == NULL then back_null seek w n else if same m.tail w then found_back seek w n else LoadTail seek)
null_before_tail s m p l = step s m p l

-- and moves the tail before comparing with it: it makes an exchange that can only lose
abbrev pub node_before_tail : Moves
node_before_tail s m p (CheckTail seek w n) = goes_on m (if n.index == NULL then (if same m.tail w then found_back seek w n else LoadTail seek) else SwingTail seek w n)
node_before_tail s m p l = step s m p l

-- a take that looks whether the queue is shut when it has found a value
abbrev pub shut_last : Moves
shut_last s m p LoadHead = goes_on m (LoadTailToTake m.head)
shut_last s m p (CheckHead h w n) = goes_on m (if same m.head h then (if n.index == NULL then found_front h w n else if h.second then ends (no_take Shut) else found_front h w n) else LoadHead)
shut_last s m p l = step s m p l

-- a take that takes null for empty before looking at the mark
abbrev pub empty_before_closed : Moves
empty_before_closed s m p (CheckHead h w n) = goes_on m (if same m.head h then (if n.index == NULL then ends (no_take Empty) else found_front h w n) else LoadHead)
empty_before_closed s m p l = step s m p l

-- a take that looks for null before comparing with the head
abbrev pub link_before_head : Moves
link_before_head s m p (CheckHead h w n) = goes_on m (if n.index == NULL then found_front h w n else if same m.head h then found_front h w n else LoadHead)
link_before_head s m p l = step s m p l

-- and one that looks at the mark before comparing with the head: it answers closed, although a value is
-- there
abbrev pub mark_before_head : Moves
mark_before_head s m p (CheckHead h w n) = goes_on m (if n.mark then found_front h w n else if same m.head h then found_front h w n else LoadHead)
mark_before_head s m p l = step s m p l

-- a take that looks at the place of the tail before it looks for null: it moves the tail to no node
abbrev pub tail_before_null : Moves
tail_before_null s m p (CheckHead h w n) = goes_on m (if same m.head h then (if w.index == h.index then SwingTailToTake w n else found_front h w n) else LoadHead)
tail_before_null s m p l = step s m p l

-- a take that looks at the old place of the tail before it compares with the head: it makes an exchange that can only
-- lose
abbrev pub tail_before_head : Moves
tail_before_head s m p (CheckHead h w n) = goes_on m (if n.index == NULL then (if same m.head h then found_front h w n else LoadHead) else if w.index == h.index then SwingTailToTake w n else if same m.head h then found_front h w n else LoadHead)
tail_before_head s m p l = step s m p l

-- a look that answers without comparing with the head
abbrev pub link_before_answer : Moves
link_before_answer s m p (CheckHeadToLook h n) = goes_on m (ends (Look (n.index == NULL)))
link_before_answer s m p l = step s m p l

-- a count that answers without comparing with the head: more than were ever there
abbrev pub count_before_head : Moves
count_before_head s m p (CheckHeadToCount h w n) = goes_on m (ends (Len (counted h w n)))
count_before_head s m p l = step s m p l

-- and one that does not look at the node after the tail
abbrev pub count_to_tail : Moves
count_to_tail s m p (CheckHeadToCount h w n) = goes_on m (if same m.head h then ends (Len (w.tag - h.tag)) else LoadHeadToCount)
count_to_tail s m p l = step s m p l

-- a gauge that does not move a lagging tail: it misses a put
abbrev pub gauge_to_tail : Moves
gauge_to_tail s m p (CheckTail ToGauge w n) = goes_on m (if same m.tail w then (if n.index == NULL then found_back ToGauge w n else ends (Gauge false w.tag)) else LoadTail ToGauge)
gauge_to_tail s m p l = step s m p l

-- and one that does not look at the end again: it answers what was so before
abbrev pub gauge_before_next : Moves
gauge_before_next s m p (CheckNextToGauge w n) = goes_on m (ends (Gauge false w.tag))
gauge_before_next s m p l = step s m p l

-- an exchange of the head that compares the index and the tag and no mark: a take wins against a shut
abbrev pub mark_overlooked : Moves
mark_overlooked s m p (TakeHead h n k) = if m.head.index == h.index && m.head.tag == h.tag then wins_value m p h n k (m.home k) else goes_on m LoadHead
mark_overlooked s m p l = step s m p l

-- a close and a shut that answer although their mark was lost
abbrev pub marks_anyway : Moves
marks_anyway s m p (MarkNext w n) = if same (m.next w.index) n then step s m p (MarkNext w n) else goes_on m (ends (Close true))
marks_anyway s m p (ShutHead h) = if same m.head h then step s m p (ShutHead h) else goes_on m (ends (ShutAnswer true))
marks_anyway s m p l = step s m p l

-- a shut whose exchange compares no second mark: two passes have shut the queue
abbrev pub second_overlooked : Moves
second_overlooked s m p (ShutHead h) = if m.head.index == h.index && m.head.tag == h.tag then step s (record m { head = h }) p (ShutHead h) else goes_on m LoadHeadToShut
second_overlooked s m p l = step s m p l
