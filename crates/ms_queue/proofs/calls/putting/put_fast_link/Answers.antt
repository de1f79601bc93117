use Rattle.std.proofs.Common.{rules}
use Rattle.ms_queue.proofs.FastPath.{put_after, put_stands}
use Rattle.ms_queue.proofs.calls.putting.put_fast_link.Goals as goal

pub returns-2-clause-ran : goal.returns-2-clause-ran
returns-2-clause-ran g c = put_after g.D.Tie.rule c.args.on.now c.args.put.now c.args.by c.any.result.0 c.any-2.result.0 (let ran = c.any.ensures.ran in search rules depth 7) _ c.any-2.ensures.ran

pub any-requires-2-clause-stands : goal.any-requires-2-clause-stands
any-requires-2-clause-stands g c = put_stands g.D.Tie.rule c.args.on.now c.args.put.now c.args.by c.any.result.0 c.any.result.0 c.any.result.1 _ (search rules depth 5) c.any.ensures.ran
