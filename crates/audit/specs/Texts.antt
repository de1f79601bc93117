-- The audit and the list of an outcome.
use Rattle.std.specs.Prelude.{ℕ, ◌+◌, List, [], ◌∷◌, ◌++◌, flat_map, codes, decimal}
use Rattle.relay.specs.declared.messages.Message.{Message}
use Rattle.relay.specs.declared.outcome.Taken.{Taken}
use Rattle.relay.specs.declared.outcome.Relayed.{Relayed}
use Rattle.audit.specs.declared.message_file.TheConstants.{LINE_FEED}
use Rattle.audit.specs.declared.counts.Counts.{Counts}
use Rattle.audit.specs.Counting.{counts_from, total}

-- a line of the audit
abbrev pub counts_line : List ℕ → Counts → List ℕ
counts_line start c =
    start ++ codes " read " ++ decimal (c.delivered + c.left + c.unsent) ++ codes " delivered " ++ decimal c.delivered
    ++ codes " left " ++ decimal c.left ++ codes " unsent " ++ decimal c.unsent ++ LINE_FEED ∷ []

-- the lines of the senders from this one on
abbrev pub sender_lines : ℕ → List Counts → List ℕ
sender_lines sender [] = []
sender_lines sender (c ∷ more) = counts_line (codes "sender " ++ decimal sender) c ++ sender_lines (sender + 1) more

-- a line for each sender, and one for all
abbrev pub audit_text : Relayed → List ℕ
audit_text r =
    let counts = counts_from r 0 r.unsent.items in
    sender_lines 0 counts ++ counts_line (codes "total") (total counts)

-- a line of the list
abbrev pub message_line : List ℕ → Message → List ℕ
message_line start m =
    start ++ codes " sender " ++ decimal m.sender ++ codes " seq " ++ decimal m.seq ++ codes " " ++ m.text.items ++ LINE_FEED ∷ []

abbrev pub take_line : Taken → List ℕ
take_line t = message_line (codes "take " ++ decimal t.number) t.message

-- a line for each message: those delivered, those left, and those unsent, sender by sender
abbrev pub list_text : Relayed → List ℕ
list_text r =
    flat_map take_line r.delivered.items ++ flat_map (message_line (codes "left")) r.left.items
    ++ flat_map (λ messages. flat_map (message_line (codes "unsent")) messages.items) r.unsent.items
