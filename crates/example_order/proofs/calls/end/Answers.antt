use Rattle.ring_queue.specs.code.Leaving.{left_in}
use Rattle.ring_queue.specs.Calls.{laps_of, passes_of, room_of, root_in}
use Rattle.running.specs.Kept.{acts_of_root}
use Rattle.example_order.proofs.Concluding.{some_slot}
use Rattle.example_order.proofs.calls.end.Goals as goal

pub returns-clause-run : goal.returns-clause-run
returns-clause-run c =
    let ring = c.args.ring in
    let root = c.args.root in
    (c.finish.ensures.all, c.ring_one_run.ensures (room_of ring) (laps_of ring) (passes_of ring) (some_slot ring) (acts_of_root root) (root_in root) (left_in c.finish.result) c.finish.ensures.all)
