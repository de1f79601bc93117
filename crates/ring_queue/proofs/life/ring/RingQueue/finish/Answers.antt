use Rattle.std.proofs.Common.{ap, sym, subst, ◌∙◌}
use Rattle.std.specs.Mem.Slots.{slots_items}
use Rattle.tagged_index.specs.Limits.{capacity_of}
use Rattle.bounded_model.specs.Laws.{Leaves}
use Rattle.running.proofs.Ends.{runs_all}
use Rattle.running.specs.Passes.{root_in}
use Rattle.ring_queue.specs.code.Leaving.{left_in}
use Rattle.ring_queue.specs.Calls.{machine_with, shape_of, room_of, laps_of, passes_of}
use Rattle.ring_queue.proofs.Leftover.{leaves_all}
use Rattle.ring_queue.proofs.life.ring.RingQueue.finish.Goals as goal

pub of-requires-clause-taken : goal.of-requires-clause-taken
of-requires-clause-taken g c =
    let ring = c.args.self in
    let root = c.args.parent.root in
    let closed = c.close_with.result in
    let many = c.capacity-capacity.ensures ∙ sym (ap capacity_of ring.keyed) in
    let left = leaves_all g.D.Tie.rule (room_of ring) (laps_of ring) (passes_of ring) root.seat.id _ root.seat.me.0 (root_in root) (slots_items closed.words) (slots_items closed.slots) many c.close_with.ensures.values.2 c.requires.on.view c.requires.on.sound in
    (left.0, left.1)

pub returns : goal.returns
returns g c =
    let ring = c.args.self in
    let root = c.args.parent.root in
    let closed = c.close_with.result in
    let words = slots_items closed.words in
    let slots = slots_items closed.slots in
    let many = c.capacity-capacity.ensures ∙ sym (ap capacity_of ring.keyed) in
    let final = c.close_with.ensures.values.2 in
    let left = leaves_all g.D.Tie.rule (room_of ring) (laps_of ring) (passes_of ring) root.seat.id _ root.seat.me.0 (root_in root) words slots many final c.requires.on.view c.requires.on.sound in
    let are = left.2 c.of.result.slot c.of.ensures.low (c.of.ensures.front left.0 left.1) in
    let all = runs_all (machine_with g.D.Tie.rule ring) root.seat.id root.seat.me.0 (root_in root) words slots (left_in c.of.result) final c.requires.on.view c.requires.on.sound (c.of.ensures.left ∙ are.1) in
    record {
      leaves = subst (Leaves (shape_of ring) (root_in root)) (sym c.of.ensures.left) are.0;
      run = all.run;
      all = all;
    }
