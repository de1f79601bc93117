use Rattle.std.proofs.Common.{◌≡◌, ◌≤◌, ◌<◌, ◌-◌, ℕ, length, sym, ap, ◌∙◌, arith, rules, Some, None}
use Rattle.std.specs.Mem.Slots.{slots_items, slots_len, slots_counts}
use Rattle.std.specs.Prelude.{slice_index}
use mathlib.Core.Option.{some}
use lib.ListN.{get_elem?}
use Rattle.atomic_table.proofs.Lists.{at_index}
use Rattle.tagged_index.specs.Fields.{index_of}
use Rattle.ring_queue.specs.code.Left.{cell_at}
use Rattle.ring_queue.proofs.Leftover.{left_none, left_empty, left_next}
use Rattle.ring_queue.proofs.life.rest.RestLeaving.next.Goals as goal

pub returns-then-cell-slot_count : goal.returns-then-cell-slot_count
returns-then-cell-slot_count g c =
    let r = c.args.self.now in
    let words = slots_items r.closed.words in
    let slots = slots_items r.closed.slots in
    let cell : c.index-cell.result ≡ cell_at r.capacity words r.slot = c.index-cell.ensures.field ∙ ap index_of (c.word_at-word.ensures ∙ ap (λ (at : ℕ). slice_index words at) c.slot.ensures) in
    let past : length slots ≤ c.index-cell.result = omega (arith, c.if-cell-slot_count.true, c.slot_count.ensures, (slots_counts r.closed.slots).0) in
    let e = left_none r.capacity words slots r.slot c.index-cell.result cell r.left past in
    (e, e)

pub returns-in_err-value : goal.returns-in_err-value
returns-in_err-value g c =
    let r = c.args.self.now in
    let words = slots_items r.closed.words in
    let slots = slots_items r.closed.slots in
    let long : slots_len r.closed.slots ≡ length slots = (slots_counts r.closed.slots).0 in
    let cell : c.index-cell.result ≡ cell_at r.capacity words r.slot = c.index-cell.ensures.field ∙ ap index_of (c.word_at-word.ensures ∙ ap (λ (at : ℕ). slice_index words at) c.slot.ensures) in
    let at : get_elem? slots c.index-cell.result ≡ some c.get_mut.result.now = at_index slots c.index-cell.result c.get_mut.result.now (omega (arith, c.if-cell-slot_count.false, c.slot_count.ensures, long)) c.get_mut.ensures.value in
    let found : get_elem? slots c.index-cell.result ≡ some None = at ∙ ap some (sym c.take.ensures.value ∙ c.in_err-value.was {u = tt}) in
    let e = left_empty r.capacity words slots r.slot c.index-cell.result cell c.take.new.self c.take.ensures.after r.left found in
    rw c.from_residual.ensures e

pub returns : goal.returns
returns g c =
    let r = c.args.self.now in
    let words = slots_items r.closed.words in
    let slots = slots_items r.closed.slots in
    let long : slots_len r.closed.slots ≡ length slots = (slots_counts r.closed.slots).0 in
    let cell : c.index-cell.result ≡ cell_at r.capacity words r.slot = c.index-cell.ensures.field ∙ ap index_of (c.word_at-word.ensures ∙ ap (λ (at : ℕ). slice_index words at) c.slot.ensures) in
    let at : get_elem? slots c.index-cell.result ≡ some c.get_mut.result.now = at_index slots c.index-cell.result c.get_mut.result.now (omega (arith, c.if-cell-slot_count.false, c.slot_count.ensures, long)) c.get_mut.ensures.value in
    let found : get_elem? slots c.index-cell.result ≡ some (Some c.in_ok-value.value) = at ∙ ap some (sym c.take.ensures.value ∙ c.in_ok-value.was {u = tt}) in
    let some_left : 0 < r.left = search rules in
    left_next r.capacity words slots r.slot c.index-cell.result cell c.take.new.self c.take.ensures.after r.left (r.left - 1) c.behind.result.0 c.in_ok-value.value some_left (omega (arith, some_left)) c.behind.ensures.next found
