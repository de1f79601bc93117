use Rattle.std.proofs.Common.{rules}
use Rattle.ring_queue.proofs.FastPath.{put_after, put_going, put_stands_so}
use Rattle.ring_queue.proofs.calls.putting.put_fast.Goals as goal

pub returns-3-clause-ran : goal.returns-3-clause-ran
returns-3-clause-ran g c = put_after g.D.Tie.rule c.args.on.now c.args.put.now c.args.by.pass c.first_step.result.0 c.put_fast_walk.result.0 (let ran = c.first_step.ensures.ran in search rules depth 7) _ c.put_fast_walk.ensures.ran

pub returns-in_default-put_fast_end-clause-ran : goal.returns-in_default-put_fast_end-clause-ran
returns-in_default-put_fast_end-clause-ran g c = put_after g.D.Tie.rule c.args.on.now c.args.put.now c.args.by.pass c.first_step.result.0 c.put_fast_end.result.0 (let ran = c.first_step.ensures.ran in search rules depth 7) _
    (put_after g.D.Tie.rule c.args.on.now c.args.put.now c.first_step.result.0 c.put_fast_walk.result.0 c.put_fast_end.result.0 (let ran = c.put_fast_walk.ensures.ran in search rules depth 7) _ c.put_fast_end.ensures.ran)

pub returns-4-clause-ran : goal.returns-4-clause-ran
returns-4-clause-ran g c = put_after g.D.Tie.rule c.args.on.now c.args.put.now c.args.by.pass c.first_step.result.0 c.put_fast_pass.result.0 (let ran = c.first_step.ensures.ran in search rules depth 7) _
    (put_after g.D.Tie.rule c.args.on.now c.args.put.now c.first_step.result.0 c.put_fast_walk.result.0 c.put_fast_pass.result.0 (let ran = c.put_fast_walk.ensures.ran in search rules depth 7) _
    (put_after g.D.Tie.rule c.args.on.now c.args.put.now c.put_fast_walk.result.0 c.put_fast_end.result.0 c.put_fast_pass.result.0 (let ran = c.put_fast_end.ensures.ran in search rules depth 7) _ c.put_fast_pass.ensures.ran))

pub put_fast_walk-requires : goal.put_fast_walk-requires
put_fast_walk-requires g c = record { stands = put_stands_so g.D.Tie.rule c.args.on.now c.args.put.now c.args.by.pass c.first_step.result.0 c.first_step.result.0 c.first_step.result.1 _ (search rules depth 5) c.first_step.ensures.ran }

pub put_fast_end-requires : goal.put_fast_end-requires
put_fast_end-requires g c = record { stands = put_stands_so g.D.Tie.rule c.args.on.now c.args.put.now c.first_step.result.0 c.put_fast_walk.result.0 c.put_fast_walk.result.0 c.put_fast_walk.result.1 _ (search rules depth 5) c.put_fast_walk.ensures.ran }

pub put_fast_pass-requires : goal.put_fast_pass-requires
put_fast_pass-requires g c = record { stands = put_stands_so g.D.Tie.rule c.args.on.now c.args.put.now c.put_fast_walk.result.0 c.put_fast_end.result.0 c.put_fast_end.result.0 c.put_fast_end.result.1 _ (search rules depth 5) c.put_fast_end.ensures.ran }

pub returns-clause-ran : goal.returns-clause-ran
returns-clause-ran g c = put_going g.D.Tie.rule c.args.on.now c.args.put.now c.args.by.pass c.first_step.result.0 c.first_step.result.0 c.first_step.result.1 _ (search rules depth 5) c.first_step.ensures.ran

pub returns-in_default-walking-clause-ran : goal.returns-in_default-walking-clause-ran
returns-in_default-walking-clause-ran g c = put_going g.D.Tie.rule c.args.on.now c.args.put.now c.args.by.pass c.first_step.result.0 c.first_step.result.0 c.first_step.result.1 _ (search rules depth 5) c.first_step.ensures.ran
