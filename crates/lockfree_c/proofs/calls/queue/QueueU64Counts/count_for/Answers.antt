use Rattle.std.proofs.Common.{subst, arith}
use Rattle.running.specs.Passes.{pass_in as pass_now}
use Rattle.ms_queue.specs.Calls.{pass_in}
use Rattle.lockfree_c.specs.Queues.{CountTried, count_steps, working}
use Rattle.lockfree_c.proofs.Shared.{worked_after}
use Rattle.lockfree_c.proofs.calls.queue.QueueU64Counts.count_for.Goals as goal

pub returns-in-Again-clause-gives : goal.returns-in-Again-clause-gives
returns-in-Again-clause-gives c =
    let made = c.count_on.result in
    let first = c.in-Again.ensures in (
      subst (λ v. CountTried c.args.self.now v made) first.gives.1 c.count_on.ensures.tried,
      worked_after working pass_in 4 (count_steps c.args.tries) (pass_in c.args.by) (pass_now c.in-Again.op.pass) first.took made c.count_on.ensures.took,
    )

pub returns-in-Done-clause-gives : goal.returns-in-Done-clause-gives
returns-in-Done-clause-gives c = let took = c.in-Done.ensures.took in (c.in-Done.ensures.gives, omega (arith, took))
