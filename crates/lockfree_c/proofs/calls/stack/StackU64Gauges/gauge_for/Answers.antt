use Rattle.std.proofs.Common.{◌≡◌, ◌+◌, arith, refl}
use Rattle.treiber_stack.specs.Calls.{pass_in}
use Rattle.lockfree_c.proofs.calls.stack.StackU64Gauges.gauge_for.Goals as goal

pub returns-clause-gives : goal.returns-clause-gives
returns-clause-gives c =
    let line = c.gauge-by.ensures.line in
    let one : (pass_in c.gauge-by.result.0).steps ≡ (pass_in c.args.by).steps + 1 = line.1.steps in
    ((c.gauge-by.ensures.of, c.gauge-by.ensures.gives, c.gauge-by.ensures.answered, (c.args.by, refl, line)), omega (arith, one))
