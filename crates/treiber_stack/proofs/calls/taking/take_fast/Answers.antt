use Rattle.std.proofs.Common.{rules}
use Rattle.treiber_stack.proofs.FastPath.{take_after}
use Rattle.treiber_stack.proofs.calls.taking.take_fast.Goals as goal

pub returns-2-clause-ran : goal.returns-2-clause-ran
returns-2-clause-ran g c = take_after g.D.Tie.rule c.args.on.now c.args.take.now c.args.by c.take_fast_top.result.0 c.take_fast_back.result.0 (let ran = c.take_fast_top.ensures.ran in search rules depth 7) _ c.take_fast_back.ensures.ran
