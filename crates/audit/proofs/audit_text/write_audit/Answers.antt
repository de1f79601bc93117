use Rattle.std.proofs.Common.{◌++◌, codes, sym, ap}
use Rattle.audit.specs.Counting.{counts_from}
use Rattle.audit.specs.Texts.{counts_line, sender_lines}
use Rattle.audit.proofs.Writing.{from-start, Writes-whole}
use Rattle.audit.proofs.audit_text.write_audit.Goals as goal

pub returns : goal.returns
returns g c =
    let lines = sender_lines 0 (counts_from c.args.relayed.now 0 c.args.relayed.now.unsent.items) in
    let sent = from-start c.new-progress.ensures c.in_ok-sums.ensures.text in
    Writes-whole _ _ _ _ lines _ _ (ap (λ s. lines ++ counts_line (codes "total") s) (sym c.in_ok-sums.ensures.sums)) sent c.put_counts.ensures
