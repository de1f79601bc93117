-- Worked scripts of the stack: the machine computes their replies and step counts.
use Rattle.std.specs.Prelude.{true, false, [], ◌∷◌}
use Rattle.bounded_model.specs.declared.answers.Word.TheVariants.{Top as TopWord}
use Rattle.bounded_model.specs.declared.answers.TakeRefused.TheVariants.{Empty, Closed, Spent, Shut}
use Rattle.stack_machine.specs.declared.lines.Answer.TheVariants.{Close, Shut as ShutAnswer, Look, Gauge}
use Rattle.stack_machine.specs.declared.lines.Call.TheVariants.{Close as CloseCall, Shut as ShutCall, Look as LookCall, Gauge as GaugeCall}
use Rattle.step_core.specs.Scripts.{calls, begins, steps, finish, answers, again, ended, rest}
use Rattle.step_core.specs.Letters.{a, b, w, x, y, z}
use Rattle.step_core.specs.stack.Cast.{Scene, scene, put, range, take, fold, reversed_fold, put_is, range_is, full, put_closed, top_spent, free_spent, take_is, no_take, fold_is, no_fold}

-- how many steps each call makes alone: put and take, a full put, an empty take, close, shut, look
abbrev pub alone : Scene
alone = scene 1 15
    ((begins a take 40, ended (no_take Empty) 1)
    ∷ (begins a (put x) 40, ended (put_is 0) 6)
    ∷ (begins a (put y) 40, ended (full (y ∷ [])) 2)
    ∷ (begins a take 40, ended (take_is 1 x) 6)
    ∷ (begins a CloseCall 40, ended (Close true) 2)
    ∷ (begins a ShutCall 40, ended (ShutAnswer true) 2)
    ∷ (begins a LookCall 40, ended (Look true) 1)
    ∷ [])

-- the top's tag is at the limit
abbrev pub spent_top : Scene
spent_top = scene 2 2
    ((calls a (put x), answers (put_is 0))
    ∷ (calls a (put y), answers (put_is 1))
    ∷ (calls a (put z), answers (top_spent 2 (z ∷ [])))
    ∷ (calls a take, answers (no_take (Spent TopWord 2)))
    ∷ (calls a CloseCall, answers (Close true))
    ∷ (calls a (put w), answers (put_closed (w ∷ [])))
    ∷ (calls a take, answers (no_take (Spent TopWord 2)))
    ∷ (finish, rest (y ∷ x ∷ []))
    ∷ [])

-- gauges: each put and each take uses a tag, of one value or of many
abbrev pub gauges : Scene
gauges = scene 3 9
    ((begins a GaugeCall 40, ended (Gauge false 0) 1)
    ∷ (calls a (range x (y ∷ z ∷ [])), answers (range_is 0 []))
    ∷ (calls b take, answers (take_is 1 z))
    ∷ (calls a GaugeCall, answers (Gauge false 2))
    ∷ (calls b CloseCall, answers (Close true))
    ∷ (calls b fold, answers (fold_is 2 (y ∷ x ∷ [])))
    ∷ (begins a GaugeCall 40, ended (Gauge true 3) 1)
    ∷ [])

-- both tags at their limits
abbrev pub spent_free : Scene
spent_free = scene 2 2
    ((calls a (put x), answers (put_is 0))
    ∷ (calls a take, answers (take_is 1 x))
    ∷ (calls a (put y), answers (top_spent 2 (y ∷ [])))
    ∷ (calls a (put z), answers (free_spent 2 (z ∷ [])))
    ∷ (calls a take, answers (no_take Empty))
    ∷ (calls a CloseCall, answers (Close true))
    ∷ (calls a (put w), answers (free_spent 2 (w ∷ [])))
    ∷ (calls a take, answers (no_take Closed))
    ∷ [])

-- a close overtakes a put whose node is linked, and the tag is at the limit by then
abbrev pub closed_before_spent_top : Scene
closed_before_spent_top = scene 2 2
    ((begins a (put x) 3, again 3)
    ∷ (calls b (put y), answers (put_is 0))
    ∷ (calls b take, answers (take_is 1 y))
    ∷ (calls b CloseCall, answers (Close true))
    ∷ (steps a 20, ended (put_closed (x ∷ [])) 7)
    ∷ (finish, rest [])
    ∷ [])

abbrev pub close_is_overtaken : Scene
close_is_overtaken = scene 2 7
    ((calls a (put x), answers (put_is 0))
    ∷ (begins a CloseCall 1, again 1)
    ∷ (calls b (put y), answers (put_is 1))
    ∷ (steps a 1, again 2)
    ∷ (steps a 9, ended (Close true) 4)
    ∷ (calls b CloseCall, answers (Close false))
    ∷ (finish, rest (y ∷ x ∷ []))
    ∷ [])

abbrev pub empty_and_shut : Scene
empty_and_shut = scene 1 7
    ((calls a ShutCall, answers (ShutAnswer true))
    ∷ (calls a take, answers (no_take Shut))
    ∷ (calls a fold, answers (no_fold Shut))
    ∷ (calls a CloseCall, answers (Close true))
    ∷ (calls a take, answers (no_take Shut))
    ∷ (finish, rest [])
    ∷ [])

-- a put that has found no node sees the close, though the tag is at the limit
abbrev pub closed_before_spent_at_last : Scene
closed_before_spent_at_last = scene 1 1
    ((calls a (put x), answers (put_is 0))
    ∷ (calls a CloseCall, answers (Close true))
    ∷ (calls a (put y), answers (put_closed (y ∷ [])))
    ∷ [])

-- closed comes before full and before empty, and shut before the limit
abbrev pub closed_before_full : Scene
closed_before_full = scene 1 7
    ((calls a (put x), answers (put_is 0))
    ∷ (calls a CloseCall, answers (Close true))
    ∷ (calls a (put y), answers (put_closed (y ∷ [])))
    ∷ (calls a take, answers (take_is 1 x))
    ∷ (calls a take, answers (no_take Closed))
    ∷ [])

abbrev pub shut_before_spent : Scene
shut_before_spent = scene 2 2
    ((calls a (put x), answers (put_is 0))
    ∷ (calls a (put y), answers (put_is 1))
    ∷ (calls a ShutCall, answers (ShutAnswer true))
    ∷ (calls a take, answers (no_take Shut))
    ∷ [])

-- a put overtakes a shut, and a close a take
abbrev pub put_overtakes_shut : Scene
put_overtakes_shut = scene 2 7
    ((calls a (put x), answers (put_is 0))
    ∷ (begins a ShutCall 1, again 1)
    ∷ (calls b (put y), answers (put_is 1))
    ∷ (steps a 1, again 2)
    ∷ [])

abbrev pub close_overtakes_take : Scene
close_overtakes_take = scene 2 7
    ((calls a (put x), answers (put_is 0))
    ∷ (begins a take 2, again 2)
    ∷ (calls b CloseCall, answers (Close true))
    ∷ (steps a 1, again 3)
    ∷ (calls b CloseCall, answers (Close false))
    ∷ [])

-- how many steps folds of two values make alone
abbrev pub folds_alone : Scene
folds_alone = scene 3 15
    ((calls a (put x), answers (put_is 0))
    ∷ (calls a (put y), answers (put_is 1))
    ∷ (begins a fold 40, ended (fold_is 2 (y ∷ x ∷ [])) 7)
    ∷ (calls a (put x), answers (put_is 3))
    ∷ (calls a (put y), answers (put_is 4))
    ∷ (begins a reversed_fold 40, ended (fold_is 5 (x ∷ y ∷ [])) 11)
    ∷ [])
