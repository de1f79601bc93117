-- The audit of an outcome in which all was delivered.
use Rattle.std.specs.Prelude.{ℕ, List, [], ◌∷◌, ◌++◌, length, codes, Vec}
use Rattle.std.specs.declared.alloc.Global.{Global}
use Rattle.relay.specs.declared.messages.Message.{Message}
use Rattle.audit.specs.declared.counts.Counts.{Counts}
use Rattle.audit.specs.Counting.{total}
use Rattle.audit.specs.Texts.{counts_line, sender_lines}

-- all messages of each sender were delivered
abbrev pub all_delivered : List (Vec Message Global) → List Counts
all_delivered [] = []
all_delivered (input ∷ inputs) = record { delivered = length input.items; left = 0; unsent = 0 } ∷ all_delivered inputs

-- each line says that all messages read were delivered
abbrev pub full_audit : List (Vec Message Global) → List ℕ
full_audit inputs =
    let counts = all_delivered inputs in
    sender_lines 0 counts ++ counts_line (codes "total") (total counts)
