use Rattle.std.proofs.Common.{rules}
use Rattle.ms_queue.proofs.FastPath.{len_after}
use Rattle.ms_queue.proofs.calls.counting.len_fast.Goals as goal

pub returns-4-clause-ran : goal.returns-4-clause-ran
returns-4-clause-ran g c = len_after g.D.Tie.rule c.args.on.now c.args.len.now c.args.by.pass c.first_step.result.0 c.any.result.0 (let ran = c.first_step.ensures.ran in search rules depth 7) _ c.any.ensures.ran

pub returns-6-clause-ran : goal.returns-6-clause-ran
returns-6-clause-ran g c = len_after g.D.Tie.rule c.args.on.now c.args.len.now c.args.by.pass c.first_step.result.0 c.any-2.result.0 (let ran = c.first_step.ensures.ran in search rules depth 7) _
    (len_after g.D.Tie.rule c.args.on.now c.args.len.now c.first_step.result.0 c.any.result.0 c.any-2.result.0 (let ran = c.any.ensures.ran in search rules depth 7) _ c.any-2.ensures.ran)

pub returns-7-clause-ran : goal.returns-7-clause-ran
returns-7-clause-ran g c = len_after g.D.Tie.rule c.args.on.now c.args.len.now c.args.by.pass c.first_step.result.0 c.any-3.result.0 (let ran = c.first_step.ensures.ran in search rules depth 7) _
    (len_after g.D.Tie.rule c.args.on.now c.args.len.now c.first_step.result.0 c.any.result.0 c.any-3.result.0 (let ran = c.any.ensures.ran in search rules depth 7) _
    (len_after g.D.Tie.rule c.args.on.now c.args.len.now c.any.result.0 c.any-2.result.0 c.any-3.result.0 (let ran = c.any-2.ensures.ran in search rules depth 7) _ c.any-3.ensures.ran))
