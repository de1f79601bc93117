use Rattle.std.proofs.Common.{rules}
use Rattle.ms_queue.proofs.FastPath.{take_after}
use Rattle.ms_queue.proofs.calls.taking.take_fast_cell.Goals as goal
use Rattle.ms_queue.proofs.calls.taking.take_fast_cell.Goals.{in_default-via-in-GiveBack+in_default, in_default-via-in_default}

pub returns-2-clause-ran : goal.returns-2-clause-ran
returns-2-clause-ran g c = take_after g.D.Tie.rule c.args.on.now c.args.take.now c.args.by c.any.result.0 c.any-2.result.0 (let ran = c.any.ensures.ran in search rules depth 7) _ c.any-2.ensures.ran

pub returns-3-clause-ran : goal.returns-3-clause-ran
returns-3-clause-ran g c = take_after g.D.Tie.rule c.args.on.now c.args.take.now c.args.by c.any.result.0 c.any-3.result.0 (let ran = c.any.ensures.ran in search rules depth 7) _
    (take_after g.D.Tie.rule c.args.on.now c.args.take.now c.any.result.0 c.any-2.result.0 c.any-3.result.0 (let ran = c.any-2.ensures.ran in search rules depth 7) _ c.any-3.ensures.ran)

pub any-requires-2-clause-stands : goal.any-requires-2-clause-stands
any-requires-2-clause-stands g c = let ran = c.any.ensures.ran in search rules depth 7

pub returns-in_default-clause-ran : goal.returns-in_default-clause-ran
returns-in_default-clause-ran g c = elim c.in_default.branch [
  | in_default-via-in-GiveBack+in_default w ↦ (let is = w.given-is in search rules depth 7)
  | in_default-via-in_default w ↦ (let is = w.given-is in search rules depth 7)
]
