use Rattle.std.proofs.Common.{◌≡◌, ◌≤◌, ℕ, length, sym, ap, ◌∙◌, arith, Some, None}
use Rattle.std.specs.Mem.Slots.{slots_items, slots_len, slots_counts}
use mathlib.Core.Option.{some}
use lib.ListN.{get_elem?}
use Rattle.atomic_table.proofs.Lists.{at_index}
use Rattle.ms_queue.specs.code.Left.{cell_of}
use Rattle.std.specs.Prelude.{slice_index}
use Rattle.ms_queue.proofs.Leftover.{word_at, left_none, left_empty, left_next}
use Rattle.ms_queue.proofs.life.rest.RestLeaving.next.Goals as goal

pub returns-then-cell-count : goal.returns-then-cell-count
returns-then-cell-count g c =
    let r = c.args.self.now in
    let words = slots_items r.closed.words in
    let slots = slots_items r.closed.slots in
    let cell : cell_of words r.node ≡ c.word-cell.result = ap (λ (at : ℕ). slice_index words at) (sym c.cell.ensures) ∙ word_at words c.cell.result c.word-cell.result c.word-cell.ensures in
    let high : length slots ≤ cell_of words r.node = omega (arith, c.if-cell-count.true, c.slot_count-count.ensures, (slots_counts r.closed.slots).0, cell) in
    let e = left_none words slots r.node high in
    (e, e)

pub returns-in_err-value : goal.returns-in_err-value
returns-in_err-value g c =
    let r = c.args.self.now in
    let words = slots_items r.closed.words in
    let slots = slots_items r.closed.slots in
    let long : slots_len r.closed.slots ≡ length slots = (slots_counts r.closed.slots).0 in
    let cell : c.word-cell.result ≡ cell_of words r.node = sym (word_at words c.cell.result c.word-cell.result c.word-cell.ensures) ∙ ap (λ (at : ℕ). slice_index words at) c.cell.ensures in
    let at : get_elem? slots c.word-cell.result ≡ some c.get_mut.result.now = at_index slots c.word-cell.result c.get_mut.result.now (omega (arith, c.if-cell-count.false, c.slot_count-count.ensures, long)) c.get_mut.ensures.value in
    let found : get_elem? slots c.word-cell.result ≡ some None = at ∙ ap some (sym c.take.ensures.value ∙ c.in_err-value.was {u = tt}) in
    let e = left_empty words slots r.node c.word-cell.result c.take.new.self (omega (arith, c.if-self-count.false, c.slot_count-count.ensures, long)) cell found c.take.ensures.after in
    rw c.from_residual.ensures e

pub returns : goal.returns
returns g c =
    let r = c.args.self.now in
    let words = slots_items r.closed.words in
    let slots = slots_items r.closed.slots in
    let long : slots_len r.closed.slots ≡ length slots = (slots_counts r.closed.slots).0 in
    let cell : c.word-cell.result ≡ cell_of words r.node = sym (word_at words c.cell.result c.word-cell.result c.word-cell.ensures) ∙ ap (λ (at : ℕ). slice_index words at) c.cell.ensures in
    let at : get_elem? slots c.word-cell.result ≡ some c.get_mut.result.now = at_index slots c.word-cell.result c.get_mut.result.now (omega (arith, c.if-cell-count.false, c.slot_count-count.ensures, long)) c.get_mut.ensures.value in
    let found : get_elem? slots c.word-cell.result ≡ some (Some c.in_ok-value.value) = at ∙ ap some (sym c.take.ensures.value ∙ c.in_ok-value.was {u = tt}) in
    left_next words slots r.node c.in_ok-value.value c.take.new.self c.word-cell.result c.next.result c.index_at-self.result (omega (arith, c.if-self-count.false, c.slot_count-count.ensures, long)) cell c.next.ensures c.index_at-self.ensures found c.take.ensures.after
