-- The numbering of messages.
use Rattle.std.specs.Prelude.{◌≡◌, ℕ, ◌+◌, List, [], ◌∷◌, Vec}
use Rattle.std.specs.declared.alloc.Global.{Global}
use Rattle.relay.specs.declared.messages.Message.{Message}

-- each number is one above the one before it, from the first on
abbrev pub CountsFrom : ℕ → List ℕ → Type 0
CountsFrom first [] = Unit {0}
CountsFrom first (n ∷ ns) = (n ≡ first) × CountsFrom (first + 1) ns

-- all messages are of one sender, and from this seq on
abbrev pub GoOnFrom : ℕ → ℕ → List Message → Type 0
GoOnFrom sender seq [] = Unit {0}
GoOnFrom sender seq (m ∷ ms) = (m.sender ≡ sender) × (m.seq ≡ seq) × GoOnFrom sender (seq + 1) ms

-- the input of a sender: its messages in order, with the seqs 0, 1, 2, ..
abbrev pub IsInput : ℕ → List Message → Type 0
IsInput sender messages = GoOnFrom sender 0 messages

-- the first list is that sender's, the next the next sender's, and so on
abbrev pub AreInputsFrom : ℕ → List (Vec Message Global) → Type 0
AreInputsFrom first [] = Unit {0}
AreInputsFrom first (messages ∷ more) = IsInput first messages.items × AreInputsFrom (first + 1) more
