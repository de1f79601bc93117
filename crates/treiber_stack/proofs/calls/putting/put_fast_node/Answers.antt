use Rattle.std.proofs.Common.{rules}
use Rattle.treiber_stack.proofs.FastPath.{put_after, put_goes_on, put_going, put_stands, put_starts}
use Rattle.treiber_stack.proofs.calls.putting.put_fast_node.Goals as goal

pub returns-3-clause-ran : goal.returns-3-clause-ran
returns-3-clause-ran g c = put_goes_on g.D.Tie.rule c.args.on.now c.args.put.now c.args.by c.first_step.result.0 c.any.result.0 (let ran = c.first_step.ensures.ran in search rules depth 7) c.any.result.1 c.any.ensures.ran _ (search rules depth 5)

pub returns-4-clause-ran : goal.returns-4-clause-ran
returns-4-clause-ran g c = put_after g.D.Tie.rule c.args.on.now c.args.put.now c.args.by c.first_step.result.0 c.any.result.0 (let ran = c.first_step.ensures.ran in search rules depth 7) _ c.any.ensures.ran

pub returns-5-clause-ran : goal.returns-5-clause-ran
returns-5-clause-ran g c = put_after g.D.Tie.rule c.args.on.now c.args.put.now c.args.by c.first_step.result.0 c.any-2.result.0 (let ran = c.first_step.ensures.ran in search rules depth 7) _ (put_after g.D.Tie.rule c.args.on.now c.args.put.now c.first_step.result.0 c.any.result.0 c.any-2.result.0 (let ran = c.any.ensures.ran in search rules depth 7) _ c.any-2.ensures.ran)

pub first_step-requires-clause-stands : goal.first_step-requires-clause-stands
first_step-requires-clause-stands g c = put_starts g.D.Tie.rule g.D.Tie.is_tie c.args.on.now c.args.value c.args.by c.requires.pass c.requires.deal

pub any-requires-clause-stands : goal.any-requires-clause-stands
any-requires-clause-stands g c = put_stands g.D.Tie.rule c.args.on.now c.args.put.now c.args.by c.first_step.result.0 c.first_step.result.0 c.first_step.result.1 _ (search rules depth 5) c.first_step.ensures.ran

pub any-requires-2-clause-stands : goal.any-requires-2-clause-stands
any-requires-2-clause-stands g c = put_stands g.D.Tie.rule c.args.on.now c.args.put.now c.first_step.result.0 c.any.result.0 c.any.result.0 c.any.result.1 _ (search rules depth 5) c.any.ensures.ran

pub returns-clause-ran : goal.returns-clause-ran
returns-clause-ran g c = put_going g.D.Tie.rule c.args.on.now c.args.put.now c.args.by c.first_step.result.0 c.first_step.result.0 c.first_step.result.1 _ (search rules depth 5) c.first_step.ensures.ran
