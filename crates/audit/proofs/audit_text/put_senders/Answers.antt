use Rattle.std.proofs.Common.{rules, ◌≡◌, ◌+◌, ◌++◌, ◌∷◌, codes, sym, ap, subst, ◌∙◌, append_assoc, drop, get_or, length, ◌<◌, arith}
use Rattle.std.proofs.lemmas.Result.{err_from_is_err_and}
use Rattle.audit.specs.declared.counts.Counts.{Counts}
use Rattle.audit.specs.Counting.{counts_of, counts_from, sum_of, total}
use Rattle.audit.specs.Texts.{counts_line, sender_lines}
use Rattle.audit.proofs.Texts.{counts_from-at, sum_of-assoc, total-cons}
use Rattle.audit.proofs.Writing.{Puts-stopped, Sends-trans}
use Rattle.audit.proofs.audit_text.put_senders.Goals as goal

pub returns-in_err-put_counts-clause-text : goal.returns-in_err-put_counts-clause-text
returns-in_err-put_counts-clause-text g c =
    let p = err_from_is_err_and c.from_residual.result c.from_residual.ensures.1 in
    let inv = c.loop-sender.invariant in
    let lists = c.args.relayed.now.unsent.items in
    let i = c.loop-sender.sender in
    let item : get_or lists i c.unsent-item.result ≡ c.unsent-item.result = search rules in
    let next : counts_from c.args.relayed.now i (drop i lists) ≡ c.of_sender-counts.result ∷ counts_from c.args.relayed.now (i + 1) (drop (i + 1) lists) =
    counts_from-at c.args.relayed.now lists i c.unsent-item.result (subst (λ l. i < length l) c.deref-unsent-items.ensures.value c.loop-sender-test.true)
    ∙ ap (λ v. counts_of c.args.relayed.now i v ∷ counts_from c.args.relayed.now (i + 1) (drop (i + 1) lists)) item
    ∙ ap (λ n. n ∷ counts_from c.args.relayed.now (i + 1) (drop (i + 1) lists)) (sym c.of_sender-counts.ensures.value) in
    let here : counts_line (codes "sender " ++ c.as_slice.result.now) c.of_sender-counts.result ++ sender_lines (i + 1) (counts_from c.args.relayed.now (i + 1) (drop (i + 1) lists)) ≡ sender_lines i (counts_from c.args.relayed.now i (drop i lists)) =
    rw (c.as_slice.ensures, c.of-number.ensures) (sym (ap (sender_lines i) next)) in
    rw (p.1, p.2) (Puts-stopped (Unit {0}) Counts _ _ _ _ inv.0 _ _ c.in_err-put_counts.field-0.0 (sym inv.1 ∙ ap (λ l. inv.0 ++ l) (sym here)) inv.2 c.in_err-put_counts.ensures)

pub loop-sender-preserved : goal.loop-sender-preserved
loop-sender-preserved g c =
    let inv = c.loop-sender.invariant in
    let lists = c.args.relayed.now.unsent.items in
    let i = c.loop-sender.sender in
    let line = counts_line (codes "sender " ++ c.as_slice.result.now) c.of_sender-counts.result in
    let item : get_or lists i c.unsent-item.result ≡ c.unsent-item.result = search rules in
    let next : counts_from c.args.relayed.now i (drop i lists) ≡ c.of_sender-counts.result ∷ counts_from c.args.relayed.now (i + 1) (drop (i + 1) lists) =
    counts_from-at c.args.relayed.now lists i c.unsent-item.result (subst (λ l. i < length l) c.deref-unsent-items.ensures.value c.loop-sender-test.true)
    ∙ ap (λ v. counts_of c.args.relayed.now i v ∷ counts_from c.args.relayed.now (i + 1) (drop (i + 1) lists)) item
    ∙ ap (λ n. n ∷ counts_from c.args.relayed.now (i + 1) (drop (i + 1) lists)) (sym c.of_sender-counts.ensures.value) in
    let here : counts_line (codes "sender " ++ c.as_slice.result.now) c.of_sender-counts.result ++ sender_lines (i + 1) (counts_from c.args.relayed.now (i + 1) (drop (i + 1) lists)) ≡ sender_lines i (counts_from c.args.relayed.now i (drop i lists)) =
    rw (c.as_slice.ensures, c.of-number.ensures) (sym (ap (sender_lines i) next)) in
    let rest = total (counts_from c.args.relayed.now (i + 1) (drop (i + 1) lists)) in (
      inv.0 ++ line,
      append_assoc inv.0 line _ ∙ ap (λ l. inv.0 ++ l) here ∙ inv.1,
      Sends-trans _ _ _ inv.0 line inv.2 c.in_ok-put_counts.ensures,
      ap (λ x. sum_of x rest) c.plus-sums.ensures ∙ sum_of-assoc c.loop-sender.sums c.of_sender-counts.result rest ∙ ap (sum_of c.loop-sender.sums) (sym (total-cons c.of_sender-counts.result (counts_from c.args.relayed.now (i + 1) (drop (i + 1) lists)))) ∙ ap (λ l. sum_of c.loop-sender.sums (total l)) (sym next) ∙ inv.3,
      c.of_sender-counts.ensures.of,
      omega (arith, ap (λ (x : Counts). x.delivered) c.plus-sums.ensures, c.of_sender-counts.ensures.small),
      omega (arith, ap (λ (x : Counts). x.left) c.plus-sums.ensures, c.of_sender-counts.ensures.small),
      omega (arith, ap (λ (x : Counts). x.unsent) c.plus-sums.ensures, c.of_sender-counts.ensures.small),
    )
