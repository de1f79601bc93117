-- Whose messages they are.
use Rattle.std.specs.Prelude.{ℕ, ◌==◌, List, map, filter}
use Rattle.relay.specs.declared.messages.Message.{Message}
use Rattle.relay.specs.declared.outcome.Taken.{Taken}

-- the messages that this sender sent, in order
abbrev pub sent_by : ℕ → List Message → List Message
sent_by sender messages = filter (λ m. m.sender == sender) messages

-- the messages that were taken, in order
abbrev pub messages_of : List Taken → List Message
messages_of delivered = map (λ t. t.message) delivered
