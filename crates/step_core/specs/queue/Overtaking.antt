-- Worked scripts of the queue in which passes overtake and help one another, and in which two reasons
-- to refuse meet.
use Rattle.std.specs.Prelude.{◌≡◌, true, false, [], ◌∷◌}
use Rattle.bounded_model.specs.declared.answers.TakeRefused.TheVariants.{Empty, Closed, Shut}
use Rattle.queue_machine.specs.declared.lines.Answer.TheVariants.{Close, Shut as ShutAnswer, Look, Len, Gauge}
use Rattle.queue_machine.specs.declared.lines.Call.TheVariants.{Close as CloseCall, Shut as ShutCall, Look as LookCall, Len as LenCall, Gauge as GaugeCall}
use Rattle.step_core.specs.Scripts.{calls, begins, steps, finish, answers, again, ended, rest}
use Rattle.step_core.specs.Letters.{a, b, c, v, w, x, y, z}
use Rattle.step_core.specs.queue.Cast.{Scene, scene, put, take, put_is, full, put_closed, cells_spent, next_spent, take_is, no_take}

-- a look sees the value that was put while it was under way; a shut finds the queue shut by another
abbrev pub look_and_shut : Scene
look_and_shut = scene 2 7
    ((begins a LookCall 1, again 1)
    ∷ (calls b (put x), answers (put_is 0))
    ∷ (steps a 9, ended (Look false) 3)
    ∷ (begins a ShutCall 1, again 1)
    ∷ (calls b ShutCall, answers (ShutAnswer true))
    ∷ (steps a 9, ended (ShutAnswer false) 3)
    ∷ (begins a take 9, ended (no_take Shut) 1)
    ∷ (finish, rest (x ∷ []))
    ∷ [])

-- a put overtakes a close, which then closes the queue after it
abbrev pub put_overtakes_close : Scene
put_overtakes_close = scene 2 7
    ((begins a CloseCall 3, again 3)
    ∷ (calls b (put x), answers (put_is 0))
    ∷ (steps a 20, ended (Close true) 8)
    ∷ (calls b (put y), answers (put_closed y))
    ∷ (calls b take, answers (take_is 0 x))
    ∷ (calls b take, answers (no_take Closed))
    ∷ (finish, rest [])
    ∷ [])

-- the tag of the free cells is looked at before the end of the chain
abbrev pub spent_before_closed : Scene
spent_before_closed = scene 2 2
    ((calls a (put x), answers (put_is 0))
    ∷ (calls a (put y), answers (put_is 1))
    ∷ (calls a take, answers (take_is 0 x))
    ∷ (calls a CloseCall, answers (Close true))
    ∷ (calls a (put z), answers (cells_spent 2 z))
    ∷ (calls a take, answers (take_is 1 y))
    ∷ (calls a take, answers (no_take Closed))
    ∷ [])

-- and so is the tag of the node's link
abbrev pub next_spent_before_closed : Scene
next_spent_before_closed = scene 1 3
    ((calls a (put v), answers (put_is 0))
    ∷ (calls a take, answers (take_is 0 v))
    ∷ (calls a (put w), answers (put_is 1))
    ∷ (calls a take, answers (take_is 1 w))
    ∷ (calls b CloseCall, answers (Close true))
    ∷ (begins a (put x) 20, ended (next_spent 1 2 x) 14)
    ∷ [])

-- no free cell, and the tag of their top at the limit: the queue is full
abbrev pub null_before_limit : Scene
null_before_limit = scene 2 2
    ((calls a (put x), answers (put_is 0))
    ∷ (calls a (put y), answers (put_is 1))
    ∷ (calls a (put z), answers (full z))
    ∷ (calls a take, answers (take_is 0 x))
    ∷ (calls a (put z), answers (cells_spent 2 z))
    ∷ [])

-- shut before empty and before closed
abbrev pub shut_before_empty : Scene
shut_before_empty = scene 1 7
    ((calls a ShutCall, answers (ShutAnswer true))
    ∷ (calls a take, answers (no_take Shut))
    ∷ (calls a CloseCall, answers (Close true))
    ∷ (calls a take, answers (no_take Shut))
    ∷ (calls a LookCall, answers (Look true))
    ∷ (finish, rest [])
    ∷ [])

-- a close finds another tail, and so takes no link of the old one to be the last
abbrev pub tail_before_link : Scene
tail_before_link = scene 2 9
    ((begins a CloseCall 1, again 1)
    ∷ (calls b (put x), answers (put_is 0))
    ∷ (calls b take, answers (take_is 0 x))
    ∷ (calls b (put y), answers (put_is 1))
    ∷ (calls b CloseCall, answers (Close true))
    ∷ (steps a 2, again 3)
    ∷ (steps a 20, ended (Close false) 6)
    ∷ [])

-- nor a null link, which another put has prepared by now
abbrev pub tail_before_null_link : Scene
tail_before_null_link = scene 2 9
    ((begins a CloseCall 1, again 1)
    ∷ (calls b (put x), answers (put_is 0))
    ∷ (calls b take, answers (take_is 0 x))
    ∷ (begins c (put y) 9, again 9)
    ∷ (steps a 2, again 3)
    ∷ (steps a 20, ended (Close true) 7)
    ∷ [])

-- nor a link to a node: it has no tail to move
abbrev pub tail_before_node : Scene
tail_before_node = scene 2 9
    ((begins a CloseCall 1, again 1)
    ∷ (calls b (put x), answers (put_is 0))
    ∷ (steps a 20, ended (Close true) 7)
    ∷ [])

-- a take whose head is gone moves no tail
abbrev pub head_before_tail : Scene
head_before_tail = scene 2 9
    ((begins c (put x) 13, again 13)
    ∷ (begins a take 3, again 3)
    ∷ (calls b take, answers (take_is 0 x))
    ∷ (steps a 20, ended (no_take Empty) 8)
    ∷ [])

-- a take finds another head, and so takes no link of the old one to be the first
abbrev pub head_before_link : Scene
head_before_link = scene 2 9
    ((begins a take 1, again 1)
    ∷ (calls b (put x), answers (put_is 0))
    ∷ (calls b take, answers (take_is 0 x))
    ∷ (begins c (put y) 9, again 9)
    ∷ (steps a 3, again 4)
    ∷ (steps a 20, ended (no_take Empty) 8)
    ∷ [])

-- nor for the mark
abbrev pub head_before_mark : Scene
head_before_mark = scene 2 9
    ((begins a take 1, again 1)
    ∷ (calls b (put x), answers (put_is 0))
    ∷ (calls b take, answers (take_is 0 x))
    ∷ (calls b (put y), answers (put_is 1))
    ∷ (calls b CloseCall, answers (Close true))
    ∷ (steps a 3, again 4)
    ∷ (steps a 20, ended (take_is 1 y) 16)
    ∷ (calls a take, answers (no_take Closed))
    ∷ [])

-- a look finds another head too
abbrev pub head_before_answer : Scene
head_before_answer = scene 2 9
    ((begins a LookCall 1, again 1)
    ∷ (calls b (put x), answers (put_is 0))
    ∷ (calls b take, answers (take_is 0 x))
    ∷ (steps a 2, again 3)
    ∷ (steps a 20, ended (Look true) 6)
    ∷ [])

-- a count alone, with a tail that a put has not moved, and a count that begins again since another pass has taken
abbrev pub counts : Scene
counts = scene 2 9
    ((begins a LenCall 40, ended (Len 0) 4)
    ∷ (begins b (put x) 13, again 13)
    ∷ (begins a LenCall 40, ended (Len 1) 4)
    ∷ (steps b 20, ended (put_is 0) 14)
    ∷ (begins a LenCall 1, again 1)
    ∷ (calls b take, answers (take_is 0 x))
    ∷ (calls b (put y), answers (put_is 1))
    ∷ (steps a 3, again 4)
    ∷ (steps a 20, ended (Len 1) 8)
    ∷ [])

-- a gauge alone, with a tail that a put has not moved, and a gauge that begins again since another pass has put or
-- closed
abbrev pub gauges : Scene
gauges = scene 2 9
    ((begins a GaugeCall 40, ended (Gauge false 0) 4)
    ∷ (begins b (put x) 13, again 13)
    ∷ (begins a GaugeCall 40, ended (Gauge false 1) 8)
    ∷ (steps b 20, ended (put_is 0) 14)
    ∷ (begins a GaugeCall 3, again 3)
    ∷ (calls b (put y), answers (put_is 1))
    ∷ (steps a 20, ended (Gauge false 2) 8)
    ∷ (calls b take, answers (take_is 0 x))
    ∷ (begins a GaugeCall 3, again 3)
    ∷ (calls b CloseCall, answers (Close true))
    ∷ (steps a 20, ended (Gauge true 2) 7)
    ∷ [])
