use Rattle.std.proofs.Common.{◌≤◌, ◌+◌}
use Rattle.running.specs.Passes.{Since, pass_in}
use Rattle.ring_queue.specs.Calls.{machine_with}
use Rattle.ring_queue.specs.code.Steps.{PutStands}
use Rattle.ring_queue.specs.declared.code.putting.PutAt.TheVariants.{Walking}
use Rattle.ring_queue.specs.declared.code.walking.WalkAt.TheVariants.{LoadSlot}
use Rattle.ring_queue.proofs.calls.putting.put_fast_walk.Given as goal

abbrev pub invariant-loop-gone : goal.invariant-loop-gone
invariant-loop-gone g l = PutStands g.D.Tie.rule l.fn.on l.fn.put l.pass (Walking l.shown (LoadSlot l.walk))
    × Since (machine_with g.D.Tie.rule l.fn.on) l.fn.by l.pass
    × ((pass_in l.pass).steps ≤ (pass_in l.fn.by).steps + l._gone)
