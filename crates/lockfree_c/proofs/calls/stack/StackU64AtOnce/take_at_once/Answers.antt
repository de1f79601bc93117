use Rattle.std.proofs.Common.{◌≤◌, ◌+◌, ℕ, sym, subst}
use Rattle.running.specs.Passes.{pass_in as pass_now}
use Rattle.running.specs.declared.passes.Pass.{Pass}
use Rattle.stack_machine.specs.declared.lines.Line.{Line}
use Rattle.treiber_stack.specs.Calls.{pass_in}
use Rattle.lockfree_c.proofs.calls.stack.StackU64AtOnce.take_at_once.Goals as goal

pub returns-in-Again-clause-most : goal.returns-in-Again-clause-most
returns-in-Again-clause-most c = subst (λ (p : Pass ℕ (Line ℕ)). (pass_now p).steps ≤ (pass_in c.args.by).steps + 6) (sym c.of_take.ensures.same) c.in-Again.ensures.took

pub returns-in-Done-clause-tried : goal.returns-in-Done-clause-tried
returns-in-Done-clause-tried c =
    let gives = c.in-Done.ensures.gives in
    (gives.0, gives.1, record { operation = gives.2.operation; call = gives.2.call; ran = gives.2.ran })
