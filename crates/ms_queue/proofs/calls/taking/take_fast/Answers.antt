use Rattle.std.proofs.Common.{rules}
use Rattle.ms_queue.proofs.FastPath.{take_after}
use Rattle.ms_queue.proofs.calls.taking.take_fast.Goals as goal

pub returns-2-clause-ran : goal.returns-2-clause-ran
returns-2-clause-ran g c = take_after g.D.Tie.rule c.args.on.now c.args.take.now c.args.by.pass c.take_fast_read.result.0 c.take_fast_head.result.0 (let ran = c.take_fast_read.ensures.ran in search rules depth 7) _ c.take_fast_head.ensures.ran

pub returns-3-clause-ran : goal.returns-3-clause-ran
returns-3-clause-ran g c = take_after g.D.Tie.rule c.args.on.now c.args.take.now c.args.by.pass c.take_fast_read.result.0 c.take_fast_node.result.0 (let ran = c.take_fast_read.ensures.ran in search rules depth 7) _
    (take_after g.D.Tie.rule c.args.on.now c.args.take.now c.take_fast_read.result.0 c.take_fast_head.result.0 c.take_fast_node.result.0 (let ran = c.take_fast_head.ensures.ran in search rules depth 7) _ c.take_fast_node.ensures.ran)

pub returns-4-clause-ran : goal.returns-4-clause-ran
returns-4-clause-ran g c = take_after g.D.Tie.rule c.args.on.now c.args.take.now c.args.by.pass c.take_fast_read.result.0 c.take_fast_cell.result.0 (let ran = c.take_fast_read.ensures.ran in search rules depth 7) _
    (take_after g.D.Tie.rule c.args.on.now c.args.take.now c.take_fast_read.result.0 c.take_fast_head.result.0 c.take_fast_cell.result.0 (let ran = c.take_fast_head.ensures.ran in search rules depth 7) _
    (take_after g.D.Tie.rule c.args.on.now c.args.take.now c.take_fast_head.result.0 c.take_fast_node.result.0 c.take_fast_cell.result.0 (let ran = c.take_fast_node.ensures.ran in search rules depth 7) _ c.take_fast_cell.ensures.ran))
