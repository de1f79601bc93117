use Rattle.std.proofs.Common.{rules}
use Rattle.ms_queue.proofs.FastPath.{take_after}
use Rattle.ms_queue.proofs.calls.taking.take_fast_read.Goals as goal

pub returns-5-clause-ran : goal.returns-5-clause-ran
returns-5-clause-ran g c = take_after g.D.Tie.rule c.args.on.now c.args.take.now c.args.by.pass c.first_step.result.0 c.any-2.result.0 (let ran = c.first_step.ensures.ran in search rules depth 7) _
    (take_after g.D.Tie.rule c.args.on.now c.args.take.now c.first_step.result.0 c.any.result.0 c.any-2.result.0 (let ran = c.any.ensures.ran in search rules depth 7) _ c.any-2.ensures.ran)

pub returns-4-clause-ran : goal.returns-4-clause-ran
returns-4-clause-ran g c = take_after g.D.Tie.rule c.args.on.now c.args.take.now c.args.by.pass c.first_step.result.0 c.any.result.0 (let ran = c.first_step.ensures.ran in search rules depth 7) _ c.any.ensures.ran
