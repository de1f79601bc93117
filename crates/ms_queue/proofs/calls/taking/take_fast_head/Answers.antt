use Rattle.std.proofs.Common.{rules}
use Rattle.ms_queue.proofs.FastPath.{take_after}
use Rattle.ms_queue.proofs.calls.taking.take_fast_head.Goals as goal

pub returns-4-clause-ran : goal.returns-4-clause-ran
returns-4-clause-ran g c = take_after g.D.Tie.rule c.args.on.now c.args.take.now c.args.by c.any.result.0 c.any-2.result.0 (let ran = c.any.ensures.ran in search rules depth 7) _ c.any-2.ensures.ran

pub returns-5-clause-ran : goal.returns-5-clause-ran
returns-5-clause-ran g c = take_after g.D.Tie.rule c.args.on.now c.args.take.now c.args.by c.any.result.0 c.any-3.result.0 (let ran = c.any.ensures.ran in search rules depth 7) _
    (take_after g.D.Tie.rule c.args.on.now c.args.take.now c.any.result.0 c.any-2.result.0 c.any-3.result.0 (let ran = c.any-2.ensures.ran in search rules depth 7) _ c.any-3.ensures.ran)

pub returns-clause-ran : goal.returns-clause-ran
returns-clause-ran g c = let ran = c.any.ensures.ran in search rules depth 7

pub any-requires-2-clause-stands : goal.any-requires-2-clause-stands
any-requires-2-clause-stands g c = let ran = c.any.ensures.ran in search rules depth 7
