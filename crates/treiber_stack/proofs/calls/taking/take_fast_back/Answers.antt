use Rattle.std.proofs.Common.{rules}
use Rattle.treiber_stack.proofs.FastPath.{take_after, take_goes_on}
use Rattle.treiber_stack.proofs.calls.taking.take_fast_back.Goals as goal

pub returns-3-clause-ran : goal.returns-3-clause-ran
returns-3-clause-ran g c = take_goes_on g.D.Tie.rule c.args.on.now c.args.take.now c.args.by c.any.result.0 c.any-2.result.0 (let ran = c.any.ensures.ran in search rules depth 7) c.any-2.result.1 c.any-2.ensures.ran _ (search rules depth 5)

pub returns-clause-ran : goal.returns-clause-ran
returns-clause-ran g c = let ran = c.any.ensures.ran in search rules depth 7

pub any-requires-2-clause-stands : goal.any-requires-2-clause-stands
any-requires-2-clause-stands g c = let ran = c.any.ensures.ran in search rules depth 7

pub returns-4-clause-ran : goal.returns-4-clause-ran
returns-4-clause-ran g c = take_after g.D.Tie.rule c.args.on.now c.args.take.now c.args.by c.any.result.0 c.any-2.result.0 (let ran = c.any.ensures.ran in search rules depth 7) _ c.any-2.ensures.ran

pub returns-5-clause-ran : goal.returns-5-clause-ran
returns-5-clause-ran g c = take_after g.D.Tie.rule c.args.on.now c.args.take.now c.args.by c.any.result.0 c.any-3.result.0 (let ran = c.any.ensures.ran in search rules depth 7) _ (take_after g.D.Tie.rule c.args.on.now c.args.take.now c.any.result.0 c.any-2.result.0 c.any-3.result.0 (let ran = c.any-2.ensures.ran in search rules depth 7) _ c.any-3.ensures.ran)
