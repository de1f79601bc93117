-- The fact that a list of messages continues has at most one proof, so a struct can keep it.
use Rattle.std.specs.Prelude.{ℕ, ◌+◌, List, [], ◌∷◌}
use mathlib.Core.HLevel.{Unit-prop}
use Rattle.std.proofs.Props.{props}
use Rattle.relay.specs.declared.messages.Message.{Message}
use Rattle.relay.specs.Messages.{GoOnFrom}

pub GoOnFrom-prop : (sender seq : ℕ) (messages : List Message) → IsProp (GoOnFrom sender seq messages)
GoOnFrom-prop sender seq [] = Unit-prop
GoOnFrom-prop sender seq (m ∷ ms) =
    let rest = GoOnFrom-prop sender (seq + 1) ms in
    Prim.hlevel (props, rest)
