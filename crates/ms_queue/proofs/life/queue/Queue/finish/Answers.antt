use Rattle.std.proofs.Common.{◌≡◌, List, length, arith, sym, subst, ◌∙◌}
use Rattle.std.specs.Mem.Slots.{slots_items, slots_len, slots_counts}
use Rattle.bounded_model.specs.Laws.{Leaves}
use Rattle.running.specs.Passes.{root_in}
use Rattle.running.proofs.Ends.{runs_all}
use Rattle.ms_queue.specs.code.Left.{left_in}
use Rattle.ms_queue.specs.Calls.{machine_with, shape_of, room_of, limit_of}
use Rattle.ms_queue.proofs.Leftover.{leaves_all}
use Rattle.ms_queue.proofs.life.queue.Queue.finish.Goals as goal

pub of-requires-clause-dummy : goal.of-requires-clause-dummy
of-requires-clause-dummy g c =
    let queue = c.args.self in
    let root = c.args.parent.root in
    let closed = c.close_with.result in
    let long : slots_len closed.slots ≡ room_of queue = c.close_with.ensures.counts.1 ∙ queue.slots in
    let items : length (slots_items closed.slots) ≡ room_of queue = sym (slots_counts closed.slots).0 ∙ long in
    let left = leaves_all g.D.Tie.rule (room_of queue) (limit_of queue) root.seat.id root.seat.me.0 (root_in root) (slots_items closed.words) (slots_items closed.slots) c.close_with.ensures.values.2 c.requires.on.view c.requires.on.sound items in
    omega (arith, left.0, long)

pub returns : goal.returns
returns g c =
    let queue = c.args.self in
    let root = c.args.parent.root in
    let closed = c.close_with.result in
    let long : slots_len closed.slots ≡ room_of queue = c.close_with.ensures.counts.1 ∙ queue.slots in
    let items : length (slots_items closed.slots) ≡ room_of queue = sym (slots_counts closed.slots).0 ∙ long in
    let final = c.close_with.ensures.values.2 in
    let left = leaves_all g.D.Tie.rule (room_of queue) (limit_of queue) root.seat.id root.seat.me.0 (root_in root) (slots_items closed.words) (slots_items closed.slots) final c.requires.on.view c.requires.on.sound items in
    let all = runs_all (machine_with g.D.Tie.rule queue) root.seat.id root.seat.me.0 (root_in root) (slots_items closed.words) (slots_items closed.slots) (left_in c.of.result) final c.requires.on.view c.requires.on.sound (c.of.ensures ∙ left.2) in
    record {
      leaves = subst (λ (vs : List _). Leaves (shape_of queue) (root_in root) vs) (sym c.of.ensures) left.1;
      run = all.run;
      all = all;
    }
