use Rattle.std.proofs.Common.{◌≡◌, length, rules, sym, ap, ◌∙◌}
use Rattle.std.specs.Prelude.{Some, None}
use Rattle.std.specs.Mem.Slots.{slots_items, slots_len, slots_counts}
use mathlib.Core.Option.{some}
use lib.ListN.{get_elem?}
use Rattle.atomic_table.proofs.Lists.{at_index}
use Rattle.treiber_stack.proofs.Leftover.{values_past, left_empty, left_next}
use Rattle.treiber_stack.proofs.life.rest.RestLeaving.next.Goals as goal

pub returns-then-at-slot_count : goal.returns-then-at-slot_count
returns-then-at-slot_count g c =
    let r = c.args.self.now in
    let long : slots_len r.closed.slots ≡ length (slots_items r.closed.slots) = (slots_counts r.closed.slots).0 in
    let e = values_past (slots_items r.closed.words) _ (slots_items r.closed.slots) r.index (search rules) in
    (e, e)

pub returns-in_err-value : goal.returns-in_err-value
returns-in_err-value g c =
    let r = c.args.self.now in
    let slots = slots_items r.closed.slots in
    let long : slots_len r.closed.slots ≡ length slots = (slots_counts r.closed.slots).0 in
    let at : get_elem? slots r.index ≡ some c.get_mut.result.now = at_index slots r.index c.get_mut.result.now (search rules) c.get_mut.ensures.value in
    let found : get_elem? slots r.index ≡ some None = at ∙ ap some (sym c.take.ensures.value ∙ c.in_err-value.was {u = tt}) in
    let e = left_empty (slots_items r.closed.words) slots r.index c.take.new.self found c.take.ensures.after in
    rw c.from_residual.ensures e

pub returns : goal.returns
returns g c =
    let r = c.args.self.now in
    let slots = slots_items r.closed.slots in
    let long : slots_len r.closed.slots ≡ length slots = (slots_counts r.closed.slots).0 in
    let at : get_elem? slots r.index ≡ some c.get_mut.result.now = at_index slots r.index c.get_mut.result.now (search rules) c.get_mut.ensures.value in
    let found : get_elem? slots r.index ≡ some (Some c.in_ok-value.value) = at ∙ ap some (sym c.take.ensures.value ∙ c.in_ok-value.was {u = tt}) in
    left_next (slots_items r.closed.words) slots r.index c.in_ok-value.value c.take.new.self c.index_at-self.result c.link.result found c.take.ensures.after c.link.ensures c.index_at-self.ensures
