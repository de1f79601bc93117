use Rattle.std.proofs.Common.{rules, arith}
use Rattle.ring_queue.proofs.FastPath.{take_after}
use Rattle.ring_queue.proofs.calls.taking.take_fast_walk.Goals as goal

pub returns-in_default-clause-ran : goal.returns-in_default-clause-ran
returns-in_default-clause-ran g c = take_after g.D.Tie.rule c.args.on.now c.args.take.now c.args.by c.loop-gone.pass c.any.result.0 c.loop-gone.invariant.1 _ c.any.ensures.ran

pub loop-gone-preserved : goal.loop-gone-preserved
loop-gone-preserved g c = (search rules, search rules, omega (arith, c.any.ensures.took, c.loop-gone.invariant.2))
