use Rattle.std.proofs.Common.{rules}
use Rattle.ring_queue.proofs.FastPath.{look_after}
use Rattle.ring_queue.proofs.calls.looking.look_fast.Goals as goal

pub returns-2-clause-ran : goal.returns-2-clause-ran
returns-2-clause-ran g c = look_after g.D.Tie.rule c.args.on.now c.args.look.now c.args.by.pass c.first_step.result.0 c.look_fast_walk.result.0 (let ran = c.first_step.ensures.ran in search rules depth 7) _ c.look_fast_walk.ensures.ran
