use Rattle.std.proofs.Common.{◌∙◌}
use Rattle.audit.proofs.Texts.{message_line-parts}
use Rattle.audit.proofs.list_text.put_message.Goals as goal

pub returns : goal.returns
returns g c =
    let parts = message_line-parts c.args.word.now c.args.number.now _ _ _ c.args.message.now
    (c.as_slice.ensures ∙ c.of-sender.ensures) (c.as_slice-2.ensures ∙ c.of-seq.ensures) c.as_slice-text.ensures.value in
    rw parts c.put_all.ensures
