use Rattle.std.proofs.Common.{◌≡◌, List, length, ◌≤◌, arith, refl, sym, subst, ◌∙◌}
use Rattle.std.specs.Mem.Slots.{slots_items, slots_len, slots_counts}
use Rattle.std.specs.Prelude.{slice_index}
use Rattle.tagged_index.specs.Fields.{index_of}
use Rattle.tagged_index.specs.declared.word.TheConstants.{NULL}
use Rattle.bounded_model.specs.Laws.{Leaves}
use Rattle.stack_table.specs.Layout.{top_at}
use Rattle.running.proofs.Ends.{runs_all}
use Rattle.treiber_stack.specs.code.Left.{left_in}
use Rattle.running.specs.Passes.{root_in}
use Rattle.treiber_stack.specs.Calls.{machine_with, shape_of, room_of, limit_of}
use Rattle.treiber_stack.proofs.Leftover.{leaves_all}
use Rattle.treiber_stack.proofs.life.stack.Stack.finish.Goals as goal

pub returns-clause-leaves : goal.returns-clause-leaves
returns-clause-leaves g c =
    let stack = c.args.self in
    let root = c.args.parent.root in
    let closed = c.close_with.result in
    let words = slots_items closed.words in
    let slots = slots_items closed.slots in
    let small = stack.table.shared.key.capacity_in_range in
    let long : slots_len closed.slots ≡ room_of stack = c.close_with.ensures.counts.1 ∙ stack.slots in
    let few : length slots ≤ NULL = omega (arith, small, long, (slots_counts closed.slots).0) in
    let left = leaves_all g.D.Tie.rule (room_of stack) (limit_of stack) root.seat.id root.seat.me.0 (root_in root) words slots (index_of (slice_index words top_at)) c.close_with.ensures.values.2 c.requires.on.view c.requires.on.sound few refl in
    subst (λ (vs : List _). Leaves (shape_of stack) (root_in root) vs) (sym c.of.ensures) left.0

pub returns-clause-run : goal.returns-clause-run
returns-clause-run g c =
    let stack = c.args.self in
    let root = c.args.parent.root in
    let closed = c.close_with.result in
    let words = slots_items closed.words in
    let slots = slots_items closed.slots in
    let small = stack.table.shared.key.capacity_in_range in
    let long : slots_len closed.slots ≡ room_of stack = c.close_with.ensures.counts.1 ∙ stack.slots in
    let few : length slots ≤ NULL = omega (arith, small, long, (slots_counts closed.slots).0) in
    let final = c.close_with.ensures.values.2 in
    let left = leaves_all g.D.Tie.rule (room_of stack) (limit_of stack) root.seat.id root.seat.me.0 (root_in root) words slots (index_of (slice_index words top_at)) final c.requires.on.view c.requires.on.sound few refl in
    (runs_all (machine_with g.D.Tie.rule stack) root.seat.id root.seat.me.0 (root_in root) words slots (left_in c.of.result) final c.requires.on.view c.requires.on.sound (c.of.ensures ∙ left.1)).run

pub returns-clause-all : goal.returns-clause-all
returns-clause-all g c =
    let stack = c.args.self in
    let root = c.args.parent.root in
    let closed = c.close_with.result in
    let words = slots_items closed.words in
    let slots = slots_items closed.slots in
    let small = stack.table.shared.key.capacity_in_range in
    let long : slots_len closed.slots ≡ room_of stack = c.close_with.ensures.counts.1 ∙ stack.slots in
    let few : length slots ≤ NULL = omega (arith, small, long, (slots_counts closed.slots).0) in
    let final = c.close_with.ensures.values.2 in
    let left = leaves_all g.D.Tie.rule (room_of stack) (limit_of stack) root.seat.id root.seat.me.0 (root_in root) words slots (index_of (slice_index words top_at)) final c.requires.on.view c.requires.on.sound few refl in
    runs_all (machine_with g.D.Tie.rule stack) root.seat.id root.seat.me.0 (root_in root) words slots (left_in c.of.result) final c.requires.on.view c.requires.on.sound (c.of.ensures ∙ left.1)
