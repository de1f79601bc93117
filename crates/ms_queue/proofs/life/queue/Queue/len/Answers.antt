use Rattle.std.proofs.Common.{◌≤◌, arith, refl}
use Rattle.bounded_model.proofs.Hands.{within_capacity}
use Rattle.bounded_model.proofs.Staying.{legal_before}
use Rattle.ms_queue.specs.Calls.{machine_with, room_of, shape_of}
use Rattle.running.proofs.Back.{new_call}
use Rattle.ms_queue.proofs.life.queue.Queue.len.Goals as goal

pub overflow_cast-result : goal.overflow_cast-result
overflow_cast-result g c =
    let q = c.args.self.now in
    let b = c.whole-pass.ensures.rested c.args.by c.requires c.first_step-first.ensures.ran in
    let gives = b.gives refl in
    let low : c.whole-pass.result.1 ≤ room_of q = omega (arith, gives.0.1.holds, within_capacity (shape_of q) gives.0.1.at (legal_before (shape_of q) gives.0.1.until b.ended.rests.legal)) in
    omega (arith, low, q.table.shared.key.capacity_in_range)

pub returns : goal.returns
returns g c =
    let q = c.args.self.now in
    let b = c.whole-pass.ensures.rested c.args.by c.requires c.first_step-first.ensures.ran in
    let gives = b.gives refl in
    record {
      of = b.of;
      gives = gives.0;
      answered = gives.1;
      ran = b.ran;
      new = new_call (machine_with g.D.Tie.rule q) q.table.shared.table_id c.args.by c.requires.on c.whole-pass.result.0 (c.whole-pass.ensures.new c.args.by.pass c.first_step-first.ensures.ran);
    }
