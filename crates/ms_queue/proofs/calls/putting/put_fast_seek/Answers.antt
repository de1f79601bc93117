use Rattle.std.proofs.Common.{refl, rules, subst}
use Rattle.ms_queue.specs.declared.code.putting.PutAt.{PutAt}
use Rattle.ms_queue.specs.code.Steps.{PutStands}
use Rattle.ms_queue.proofs.FastPath.{put_after, put_stands}
use Rattle.ms_queue.proofs.calls.putting.put_fast_seek.Goals as goal

pub returns-2-clause-ran : goal.returns-2-clause-ran
returns-2-clause-ran g c = put_after g.D.Tie.rule c.args.on.now c.args.put.now c.args.by c.any.result.0 c.any-2.result.0 (let ran = c.any.ensures.ran in search rules depth 7) _ c.any-2.ensures.ran

pub returns-3-clause-ran : goal.returns-3-clause-ran
returns-3-clause-ran g c = put_after g.D.Tie.rule c.args.on.now c.args.put.now c.args.by c.any.result.0 c.any-3.result.0 (let ran = c.any.ensures.ran in search rules depth 7) _
    (put_after g.D.Tie.rule c.args.on.now c.args.put.now c.any.result.0 c.any-2.result.0 c.any-3.result.0 (let ran = c.any-2.ensures.ran in search rules depth 7) _ c.any-3.ensures.ran)

pub returns-in_default-clause-ran : goal.returns-in_default-clause-ran
returns-in_default-clause-ran g c =
    let stands = subst (λ (at : PutAt _). PutStands g.D.Tie.rule c.args.on.now c.args.put.now c.args.by at) {y = c.in_default.prepared} (search rules depth 5) c.requires.stands in
    (stands.1, stands.0, (refl, λ w n. n))

pub any-requires-2-clause-stands : goal.any-requires-2-clause-stands
any-requires-2-clause-stands g c = put_stands g.D.Tie.rule c.args.on.now c.args.put.now c.args.by c.any.result.0 c.any.result.0 c.any.result.1 _ (search rules depth 5) c.any.ensures.ran

pub any-requires-3-clause-stands : goal.any-requires-3-clause-stands
any-requires-3-clause-stands g c = put_stands g.D.Tie.rule c.args.on.now c.args.put.now c.any.result.0 c.any-2.result.0 c.any-2.result.0 c.any-2.result.1 _ (search rules depth 5) c.any-2.ensures.ran
