use Rattle.std.proofs.Common.{subst}
use Rattle.running.specs.Kept.{pass_in}
use Rattle.lockfree_c.specs.Stacks.{CopyTried, RangeWorkedAtMost, bulk_steps}
use Rattle.lockfree_c.proofs.Ranges.{at_once, most_at_once, took_from}
use Rattle.lockfree_c.proofs.bulk.copy.Goals as goal

pub copy_on-requires : goal.copy_on-requires
copy_on-requires c = c.in-Again.ensures.0.0

pub returns-in-Again : goal.returns-in-Again
returns-in-Again c =
    let stack = c.args.stack.now in
    let values = c.args.values.now in
    let starts = c.in-Again.ensures in (
      subst (λ v. CopyTried stack values v c.copy_on.result) starts.0.1 c.copy_on.ensures.0,
      took_from stack values c.in-Again.op starts.0.0 (pass_in c.args.by) starts.0.1 starts.2 (bulk_steps c.args.tries) starts.1 c.copy_on.result c.copy_on.ensures.1,
      subst (λ v. RangeWorkedAtMost (bulk_steps c.args.tries) values v c.copy_on.result) starts.2 c.copy_on.ensures.2,
    )

pub returns-in-Done : goal.returns-in-Done
returns-in-Done c =
    let n = bulk_steps c.args.tries in (
      c.in-Done.ensures.0,
      at_once n (pass_in c.args.by) c.in-Done.by c.in-Done.said c.in-Done.ensures.2,
      most_at_once n c.args.values.now (pass_in c.args.by) c.in-Done.by c.in-Done.said c.in-Done.ensures.2,
    )
