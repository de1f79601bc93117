use Rattle.std.proofs.Common.{◌≤◌, ◌+◌}
use Rattle.running.specs.Passes.{Since, pass_in}
use Rattle.ring_queue.specs.code.Steps.{LookStands}
use Rattle.ring_queue.specs.code.Looking.{slot_loaded}
use Rattle.ring_queue.specs.Calls.{machine_with}
use Rattle.ring_queue.proofs.calls.looking.look_fast_walk.Given as goal

abbrev pub invariant-loop-gone : goal.invariant-loop-gone
invariant-loop-gone g l = LookStands g.D.Tie.rule l.fn.on l.pass (slot_loaded l.walk)
    × Since (machine_with g.D.Tie.rule l.fn.on) l.fn.by l.pass
    × ((pass_in l.pass).steps ≤ (pass_in l.fn.by).steps + l._gone)
