use Rattle.std.proofs.Common.{rules}
use Rattle.treiber_stack.proofs.FastPath.{put_after}
use Rattle.treiber_stack.proofs.calls.putting.put_fast_top.Goals as goal

pub returns-4-clause-ran : goal.returns-4-clause-ran
returns-4-clause-ran g c = put_after g.D.Tie.rule c.args.on.now c.args.put.now c.args.by c.any.result.0 c.any-2.result.0 (let ran = c.any.ensures.ran in search rules depth 7) _ c.any-2.ensures.ran

pub returns-5-clause-ran : goal.returns-5-clause-ran
returns-5-clause-ran g c = put_after g.D.Tie.rule c.args.on.now c.args.put.now c.args.by c.any.result.0 c.any-3.result.0 (let ran = c.any.ensures.ran in search rules depth 7) _ (put_after g.D.Tie.rule c.args.on.now c.args.put.now c.any.result.0 c.any-2.result.0 c.any-3.result.0 (let ran = c.any-2.ensures.ran in search rules depth 7) _ c.any-3.ensures.ran)
