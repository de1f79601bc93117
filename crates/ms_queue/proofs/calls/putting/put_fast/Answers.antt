use Rattle.std.proofs.Common.{rules}
use Rattle.ms_queue.proofs.FastPath.{put_after, put_stands_so}
use Rattle.ms_queue.proofs.calls.putting.put_fast.Goals as goal

pub returns-2-clause-ran : goal.returns-2-clause-ran
returns-2-clause-ran g c = put_after g.D.Tie.rule c.args.on.now c.args.put.now c.args.by.pass c.put_fast_cell.result.0 c.put_fast_node.result.0 (let ran = c.put_fast_cell.ensures.ran in search rules depth 7) _ c.put_fast_node.ensures.ran

pub returns-3-clause-ran : goal.returns-3-clause-ran
returns-3-clause-ran g c = put_after g.D.Tie.rule c.args.on.now c.args.put.now c.args.by.pass c.put_fast_cell.result.0 c.put_fast_prepare.result.0 (let ran = c.put_fast_cell.ensures.ran in search rules depth 7) _
    (put_after g.D.Tie.rule c.args.on.now c.args.put.now c.put_fast_cell.result.0 c.put_fast_node.result.0 c.put_fast_prepare.result.0 (let ran = c.put_fast_node.ensures.ran in search rules depth 7) _ c.put_fast_prepare.ensures.ran)

pub returns-4-clause-ran : goal.returns-4-clause-ran
returns-4-clause-ran g c = put_after g.D.Tie.rule c.args.on.now c.args.put.now c.args.by.pass c.put_fast_cell.result.0 c.put_fast_seek.result.0 (let ran = c.put_fast_cell.ensures.ran in search rules depth 7) _
    (put_after g.D.Tie.rule c.args.on.now c.args.put.now c.put_fast_cell.result.0 c.put_fast_node.result.0 c.put_fast_seek.result.0 (let ran = c.put_fast_node.ensures.ran in search rules depth 7) _
    (put_after g.D.Tie.rule c.args.on.now c.args.put.now c.put_fast_node.result.0 c.put_fast_prepare.result.0 c.put_fast_seek.result.0 (let ran = c.put_fast_prepare.ensures.ran in search rules depth 7) _ c.put_fast_seek.ensures.ran))

pub returns-5-clause-ran : goal.returns-5-clause-ran
returns-5-clause-ran g c = put_after g.D.Tie.rule c.args.on.now c.args.put.now c.args.by.pass c.put_fast_cell.result.0 c.put_fast_link.result.0 (let ran = c.put_fast_cell.ensures.ran in search rules depth 7) _
    (put_after g.D.Tie.rule c.args.on.now c.args.put.now c.put_fast_cell.result.0 c.put_fast_node.result.0 c.put_fast_link.result.0 (let ran = c.put_fast_node.ensures.ran in search rules depth 7) _
    (put_after g.D.Tie.rule c.args.on.now c.args.put.now c.put_fast_node.result.0 c.put_fast_prepare.result.0 c.put_fast_link.result.0 (let ran = c.put_fast_prepare.ensures.ran in search rules depth 7) _
    (put_after g.D.Tie.rule c.args.on.now c.args.put.now c.put_fast_prepare.result.0 c.put_fast_seek.result.0 c.put_fast_link.result.0 (let ran = c.put_fast_seek.ensures.ran in search rules depth 7) _ c.put_fast_link.ensures.ran)))

pub returns-in_default-at-clause-ran : goal.returns-in_default-at-clause-ran
returns-in_default-at-clause-ran g c = put_after g.D.Tie.rule c.args.on.now c.args.put.now c.args.by.pass c.put_fast_cell.result.0 c.put_fast_refuse.result.0 (let ran = c.put_fast_cell.ensures.ran in search rules depth 7) _ c.put_fast_refuse.ensures.ran

pub put_fast_refuse-requires : goal.put_fast_refuse-requires
put_fast_refuse-requires g c = record { stands = put_stands_so g.D.Tie.rule c.args.on.now c.args.put.now c.args.by.pass c.put_fast_cell.result.0 c.put_fast_cell.result.0 c.put_fast_cell.result.1 _ (search rules depth 5) c.put_fast_cell.ensures.ran }

pub put_fast_node-requires : goal.put_fast_node-requires
put_fast_node-requires g c = record { stands = put_stands_so g.D.Tie.rule c.args.on.now c.args.put.now c.args.by.pass c.put_fast_cell.result.0 c.put_fast_cell.result.0 c.put_fast_cell.result.1 _ (search rules depth 5) c.put_fast_cell.ensures.ran }

pub put_fast_prepare-requires : goal.put_fast_prepare-requires
put_fast_prepare-requires g c = record { stands = put_stands_so g.D.Tie.rule c.args.on.now c.args.put.now c.put_fast_cell.result.0 c.put_fast_node.result.0 c.put_fast_node.result.0 c.put_fast_node.result.1 _ (search rules depth 5) c.put_fast_node.ensures.ran }

pub put_fast_seek-requires : goal.put_fast_seek-requires
put_fast_seek-requires g c = record { stands = put_stands_so g.D.Tie.rule c.args.on.now c.args.put.now c.put_fast_node.result.0 c.put_fast_prepare.result.0 c.put_fast_prepare.result.0 c.put_fast_prepare.result.1 _ (search rules depth 5) c.put_fast_prepare.ensures.ran }

pub put_fast_link-requires : goal.put_fast_link-requires
put_fast_link-requires g c = record { stands = put_stands_so g.D.Tie.rule c.args.on.now c.args.put.now c.put_fast_prepare.result.0 c.put_fast_seek.result.0 c.put_fast_seek.result.0 c.put_fast_seek.result.1 _ (search rules depth 5) c.put_fast_seek.ensures.ran }
