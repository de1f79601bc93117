-- The call stays the same.
use Rattle.ring_tests.proofs.calls.call_to_the_end.Goals as goal

pub loop-preserved : goal.loop-preserved
loop-preserved g c = let i = c.loop.invariant in (i.0, (c.in-Again.ensures i.0 i.1).0)

pub returns-in-Done : goal.returns-in-Done
returns-in-Done g c = let i = c.loop.invariant in (c.in-Done.ensures i.0 i.1).0
