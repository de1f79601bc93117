-- Worked scripts of the ring: the machine computes their replies and step counts.
use Rattle.std.specs.Prelude.{true, false, [], ◌∷◌}
use Rattle.bounded_model.specs.declared.answers.TakeRefused.TheVariants.{Closed, Shut}
use Rattle.ring_machine.specs.declared.lines.Answer.TheVariants.{Close, Shut as ShutAnswer, Len}
use Rattle.ring_machine.specs.declared.lines.Call.TheVariants.{Close as CloseCall, Shut as ShutCall, Len as LenCall}
use Rattle.step_core.specs.Scripts.{calls, begins, steps, finish, answers, again, ended, rest}
use Rattle.step_core.specs.Letters.{a, b, c, x, y}
use Rattle.step_core.specs.ring.Cast.{Scene, scene, put, take, put_is, put_closed, take_is, no_take}

-- how many steps a put and a take make alone, and one more if `TAIL` and `HEAD` are one position behind
abbrev pub alone : Scene
alone = scene 2 2
    ((begins a (put x) 2, again 2)
    ∷ (steps a 1, ended (put_is 0) 3)
    ∷ (begins a take 3, again 3)
    ∷ (steps a 1, ended (take_is 0 x) 4)
    ∷ (begins a (put y) 20, ended (put_is 1) 4)
    ∷ (begins a take 20, ended (take_is 1 y) 5)
    ∷ [])

-- closed comes before full, and before empty
abbrev pub closed_before_full : Scene
closed_before_full = scene 1 2
    ((calls a (put x), answers (put_is 0))
    ∷ (calls b CloseCall, answers (Close true))
    ∷ (calls c (put y), answers (put_closed y))
    ∷ (calls a take, answers (take_is 0 x))
    ∷ (calls a take, answers (no_take Closed))
    ∷ (calls b CloseCall, answers (Close false))
    ∷ [])

-- and before spent
abbrev pub closed_before_spent : Scene
closed_before_spent = scene 1 1
    ((calls a (put x), answers (put_is 0))
    ∷ (calls a take, answers (take_is 0 x))
    ∷ (calls b CloseCall, answers (Close true))
    ∷ (calls a (put y), answers (put_closed y))
    ∷ [])

-- nothing is taken from a ring that is shut, and puts continue
abbrev pub shut_ring : Scene
shut_ring = scene 2 2
    ((calls a (put x), answers (put_is 0))
    ∷ (calls b ShutCall, answers (ShutAnswer true))
    ∷ (calls a take, answers (no_take Shut))
    ∷ (calls b ShutCall, answers (ShutAnswer false))
    ∷ (calls a (put y), answers (put_is 1))
    ∷ (finish, rest (x ∷ y ∷ []))
    ∷ [])

-- a count begins again if a value was taken meanwhile
abbrev pub counts : Scene
counts = scene 1 2
    ((begins a LenCall 2, again 2)
    ∷ (calls b (put x), answers (put_is 0))
    ∷ (calls b take, answers (take_is 0 x))
    ∷ (calls b (put y), answers (put_is 1))
    ∷ (steps a 40, ended (Len 1) 15)
    ∷ [])
