use Rattle.std.proofs.Common.{◌∙◌}
use Rattle.audit.proofs.Texts.{counts_line-parts}
use Rattle.audit.proofs.audit_text.put_counts.Goals as goal

pub returns : goal.returns
returns g c =
    let parts = counts_line-parts c.args.name.now c.args.number.now _ _ _ _ c.args.counts
    (c.as_slice.ensures ∙ c.of-read.ensures) (c.as_slice-2.ensures ∙ c.of-delivered.ensures) (c.as_slice-3.ensures ∙ c.of-left.ensures) (c.as_slice-4.ensures ∙ c.of-unsent.ensures) in
    rw parts c.put_all.ensures
