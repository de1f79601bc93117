use Rattle.std.proofs.Common.{rules}
use Rattle.ring_queue.proofs.FastPath.{take_after}
use Rattle.ring_queue.proofs.calls.taking.take_fast.Goals as goal

pub returns-in_default-take_fast_walk-clause-ran : goal.returns-in_default-take_fast_walk-clause-ran
returns-in_default-take_fast_walk-clause-ran g c = take_after g.D.Tie.rule c.args.on.now c.args.take.now c.args.by.pass c.first_step.result.0 c.take_fast_walk.result.0 (let ran = c.first_step.ensures.ran in search rules depth 7) _ c.take_fast_walk.ensures.ran

pub returns-3-clause-ran : goal.returns-3-clause-ran
returns-3-clause-ran g c = take_after g.D.Tie.rule c.args.on.now c.args.take.now c.args.by.pass c.first_step.result.0 c.take_fast_exchange.result.0 (let ran = c.first_step.ensures.ran in search rules depth 7) _
    (take_after g.D.Tie.rule c.args.on.now c.args.take.now c.first_step.result.0 c.take_fast_walk.result.0 c.take_fast_exchange.result.0 (let ran = c.take_fast_walk.ensures.ran in search rules depth 7) _ c.take_fast_exchange.ensures.ran)

pub returns-4-clause-ran : goal.returns-4-clause-ran
returns-4-clause-ran g c = take_after g.D.Tie.rule c.args.on.now c.args.take.now c.args.by.pass c.first_step.result.0 c.take_fast_pass.result.0 (let ran = c.first_step.ensures.ran in search rules depth 7) _
    (take_after g.D.Tie.rule c.args.on.now c.args.take.now c.first_step.result.0 c.take_fast_walk.result.0 c.take_fast_pass.result.0 (let ran = c.take_fast_walk.ensures.ran in search rules depth 7) _
    (take_after g.D.Tie.rule c.args.on.now c.args.take.now c.take_fast_walk.result.0 c.take_fast_exchange.result.0 c.take_fast_pass.result.0 (let ran = c.take_fast_exchange.ensures.ran in search rules depth 7) _ c.take_fast_pass.ensures.ran))

pub returns-5-clause-ran : goal.returns-5-clause-ran
returns-5-clause-ran g c = take_after g.D.Tie.rule c.args.on.now c.args.take.now c.args.by.pass c.first_step.result.0 c.any.result.0 (let ran = c.first_step.ensures.ran in search rules depth 7) _
    (take_after g.D.Tie.rule c.args.on.now c.args.take.now c.first_step.result.0 c.take_fast_walk.result.0 c.any.result.0 (let ran = c.take_fast_walk.ensures.ran in search rules depth 7) _
    (take_after g.D.Tie.rule c.args.on.now c.args.take.now c.take_fast_walk.result.0 c.take_fast_exchange.result.0 c.any.result.0 (let ran = c.take_fast_exchange.ensures.ran in search rules depth 7) _
    (take_after g.D.Tie.rule c.args.on.now c.args.take.now c.take_fast_exchange.result.0 c.take_fast_pass.result.0 c.any.result.0 (let ran = c.take_fast_pass.ensures.ran in search rules depth 7) _ c.any.ensures.ran)))
