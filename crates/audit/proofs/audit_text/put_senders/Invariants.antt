-- The lines and the sums of the senders so far: with those of the rest they are the whole.
use Rattle.std.proofs.Common.{◌≡◌, ℕ, ◌*◌, ◌^◌, ◌≤◌, List, ◌++◌, drop}
use Rattle.audit.specs.Output.{Sends, sent}
use Rattle.audit.specs.Counting.{counts_from, sum_of, total, IsTallyOf}
use Rattle.audit.specs.Texts.{sender_lines}
use Rattle.audit.proofs.audit_text.put_senders.Given as goal

abbrev pub invariant-loop-sender : goal.invariant-loop-sender
invariant-loop-sender g l =
    let lists = l.relayed.unsent.items in
    let rest = counts_from l.relayed l.sender (drop l.sender lists) in
    (out : List ℕ) × (out ++ sender_lines l.sender rest ≡ sender_lines 0 (counts_from l.relayed 0 lists))
    × Sends out (sent (g.W.Write.contents l.initial.writer) l.initial.progress.written) (sent (g.W.Write.contents l.writer) l.progress.written)
    × (sum_of l.sums (total rest) ≡ total (counts_from l.relayed 0 lists))
    × IsTallyOf l.relayed l.tallies × (l.sums.delivered ≤ l.sender * 2 ^ 63) × (l.sums.left ≤ l.sender * 2 ^ 63) × (l.sums.unsent ≤ l.sender * 2 ^ 63)
