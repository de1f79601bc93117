use Rattle.std.proofs.Common.{rules}
use Rattle.treiber_stack.proofs.FastPath.{put_after, put_stands_so}
use Rattle.treiber_stack.proofs.calls.putting.put_fast.Goals as goal

pub returns-in-Refuse-clause-ran : goal.returns-in-Refuse-clause-ran
returns-in-Refuse-clause-ran g c = put_after g.D.Tie.rule c.args.on.now c.args.put.now c.args.by c.put_fast_node.result.0 c.put_fast_refuse.result.0 (let ran = c.put_fast_node.ensures.ran in search rules depth 7) _ c.put_fast_refuse.ensures.ran

pub returns-in_default-at-clause-ran : goal.returns-in_default-at-clause-ran
returns-in_default-at-clause-ran g c = put_after g.D.Tie.rule c.args.on.now c.args.put.now c.args.by c.put_fast_node.result.0 c.put_fast_top.result.0 (let ran = c.put_fast_node.ensures.ran in search rules depth 7) _ c.put_fast_top.ensures.ran

pub put_fast_refuse-requires : goal.put_fast_refuse-requires
put_fast_refuse-requires g c = record { stands = put_stands_so g.D.Tie.rule c.args.on.now c.args.put.now c.args.by c.put_fast_node.result.0 c.put_fast_node.result.0 c.put_fast_node.result.1 _ (search rules depth 5) c.put_fast_node.ensures.ran }

pub put_fast_top-requires : goal.put_fast_top-requires
put_fast_top-requires g c = record { stands = put_stands_so g.D.Tie.rule c.args.on.now c.args.put.now c.args.by c.put_fast_node.result.0 c.put_fast_node.result.0 c.put_fast_node.result.1 _ (search rules depth 5) c.put_fast_node.ensures.ran }
