use Rattle.std.proofs.Common.{arith, rules}
use Rattle.ring_queue.proofs.FastPath.{put_after, put_goes_on, put_loops}
use Rattle.ring_queue.proofs.calls.putting.put_fast_walk.Goals as goal

pub returns-in_default-clause-ran : goal.returns-in_default-clause-ran
returns-in_default-clause-ran g c = put_after g.D.Tie.rule c.args.on.now c.args.put.now c.args.by c.loop-gone.pass c.any.result.0 c.loop-gone.invariant.1 _ c.any.ensures.ran

pub returns-in_default-walking-clause-ran : goal.returns-in_default-walking-clause-ran
returns-in_default-walking-clause-ran g c = put_goes_on g.D.Tie.rule c.args.on.now c.args.put.now c.args.by c.loop-gone.pass c.any.result.0 c.loop-gone.invariant.1 c.any.result.1 c.any.ensures.ran _ (search rules depth 5)

pub returns-in_default-at-clause-ran : goal.returns-in_default-at-clause-ran
returns-in_default-at-clause-ran g c = put_goes_on g.D.Tie.rule c.args.on.now c.args.put.now c.args.by c.loop-gone.pass c.any.result.0 c.loop-gone.invariant.1 c.any.result.1 c.any.ensures.ran _ (search rules depth 5)

pub loop-gone-preserved : goal.loop-gone-preserved
loop-gone-preserved g c = put_loops g.D.Tie.rule c.args.on.now c.args.put.now c.args.by c.loop-gone.pass c.any.result.0 c.loop-gone.invariant.1 c.any.result.1 _ (search rules depth 5) c.any.ensures.ran (omega (arith, c.any.ensures.took, c.loop-gone.invariant.2))
