-- The call stays the same.
use Rattle.ring_tests.proofs.calls.call_for.Goals as goal

pub loop-preserved : goal.loop-preserved
loop-preserved g c = let i = c.loop.invariant in (i.0, (c.in-Again.ensures i.0 i.1).0)

pub loop-init : goal.loop-init
loop-init g c = (c.args.command, c.begin-op.ensures.call)
