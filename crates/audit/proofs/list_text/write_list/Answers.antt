use Rattle.std.proofs.Common.{◌++◌, flat_map, codes, refl, sym, ◌∙◌, append_assoc}
use Rattle.std.proofs.lemmas.Result.{err_from_is_err_and}
use Rattle.audit.specs.Texts.{message_line, take_line}
use Rattle.audit.proofs.Texts.{list_text-parts}
use Rattle.audit.proofs.Writing.{from-start, Sends-trans, Writes-whole, Writes-stopped}
use Rattle.audit.proofs.list_text.write_list.Goals as goal

pub returns-in_err-put_messages : goal.returns-in_err-put_messages
returns-in_err-put_messages g c =
    let p = err_from_is_err_and c.from_residual-in_err-put_messages.result c.from_residual-in_err-put_messages.ensures.1 in
    let delivered = flat_map take_line c.deref.result.now in
    let sent = from-start c.new-progress.ensures c.in_ok-put_delivered.ensures in
    let parts = list_text-parts c.args.relayed.now c.deref.result.now c.deref-2.result.now c.args.relayed.now.unsent.items c.deref.ensures.value c.deref-2.ensures.value refl in
    rw (p.1, p.2) (Writes-stopped (Unit {0}) _ _ _ _ delivered _ _ c.in_err-put_messages.field-0.0 parts sent c.in_err-put_messages.ensures)

pub returns : goal.returns
returns g c =
    let delivered = flat_map take_line c.deref.result.now in
    let left = flat_map (message_line (codes "left")) c.deref-2.result.now in
    let first = from-start c.new-progress.ensures c.in_ok-put_delivered.ensures in
    let sent = Sends-trans _ _ _ delivered left first c.in_ok-put_messages.ensures in
    let parts = list_text-parts c.args.relayed.now c.deref.result.now c.deref-2.result.now c.deref-3.result.now c.deref.ensures.value c.deref-2.ensures.value c.deref-3.ensures.value in
    Writes-whole _ _ _ _ (delivered ++ left) _ _ (parts ∙ sym (append_assoc delivered left _)) sent c.put_unsent.ensures
