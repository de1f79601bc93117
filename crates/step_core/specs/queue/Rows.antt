-- Worked scripts of the queue: the machine computes their replies and step counts.
use Rattle.std.specs.Prelude.{◌≡◌, true, false, [], ◌∷◌}
use Rattle.bounded_model.specs.declared.answers.TakeRefused.TheVariants.{Empty, Closed, Shut}
use Rattle.queue_machine.specs.declared.lines.Answer.TheVariants.{Close, Shut as ShutAnswer, Look}
use Rattle.queue_machine.specs.declared.lines.Call.TheVariants.{Close as CloseCall, Shut as ShutCall, Look as LookCall}
use Rattle.step_core.specs.Scripts.{calls, begins, steps, finish, answers, again, ended, rest}
use Rattle.step_core.specs.Letters.{a, b, x, y, z}
use Rattle.step_core.specs.queue.Cast.{Scene, scene, put, take, put_is, full, put_closed, take_is, no_take}

-- how many steps a put and a take make alone
abbrev pub alone : Scene
alone = scene 2 7
    ((begins a (put x) 13, again 13)
    ∷ (steps a 1, ended (put_is 0) 14)
    ∷ (begins a take 11, again 11)
    ∷ (steps a 1, ended (take_is 0 x) 12)
    ∷ [])

-- a full put, an empty take, look, close, shut
abbrev pub alone_refused : Scene
alone_refused = scene 1 15
    ((begins a take 40, ended (no_take Empty) 4)
    ∷ (calls a (put x), answers (put_is 0))
    ∷ (begins a (put y) 40, ended (full y) 4)
    ∷ (begins a LookCall 40, ended (Look false) 3)
    ∷ (begins a CloseCall 40, ended (Close true) 4)
    ∷ (begins a ShutCall 40, ended (ShutAnswer true) 2)
    ∷ [])

-- closed comes before full
abbrev pub closed_before_full : Scene
closed_before_full = scene 1 7
    ((calls a (put x), answers (put_is 0))
    ∷ (calls a CloseCall, answers (Close true))
    ∷ (calls a (put y), answers (put_closed y))
    ∷ (calls a take, answers (take_is 0 x))
    ∷ (calls a take, answers (no_take Closed))
    ∷ (calls a (put z), answers (put_closed z))
    ∷ (calls a CloseCall, answers (Close false))
    ∷ (finish, rest [])
    ∷ [])

-- a shut overtakes a take
abbrev pub shut_queue : Scene
shut_queue = scene 2 7
    ((calls a (put x), answers (put_is 0))
    ∷ (calls a (put y), answers (put_is 1))
    ∷ (begins b take 5, again 5)
    ∷ (calls a ShutCall, answers (ShutAnswer true))
    ∷ (steps b 1, again 6)
    ∷ (steps b 20, ended (no_take Shut) 7)
    ∷ (calls a LookCall, answers (Look false))
    ∷ (calls a ShutCall, answers (ShutAnswer false))
    ∷ (calls a (put z), answers (full z))
    ∷ (calls a CloseCall, answers (Close true))
    ∷ (calls a take, answers (no_take Shut))
    ∷ (calls a (put z), answers (put_closed z))
    ∷ (finish, rest (x ∷ y ∷ []))
    ∷ [])
