use Rattle.std.proofs.Common.{subst}
use Rattle.running.specs.declared.code.Next.TheVariants.{On, Lost, Done}
use Rattle.ms_queue.specs.declared.code.seeking.End.{End}
use Rattle.ms_queue.proofs.Closes.{Closing, marking, sought_close}
use Rattle.ms_queue.proofs.code.closing.CloseAtCodeQueueLineOperationQueuedAnsweredBool2.next.Goals as goal

pub returns-in-On-clause-leads : goal.returns-in-On-clause-leads
returns-in-On-clause-leads g c = let a = c.args in sought_close a.on.now c.in-Seeking.is a.outcome a._seat.now.me.1 c.requires.came (On c.in-On.at) c.in-On.ensures

pub returns-in-Lost-clause-leads : goal.returns-in-Lost-clause-leads
returns-in-Lost-clause-leads g c = let a = c.args in sought_close a.on.now c.in-Seeking.is a.outcome a._seat.now.me.1 c.requires.came (Lost c.in-Lost.at) c.in-Lost.ensures

pub returns-in-Closed-clause-leads : goal.returns-in-Closed-clause-leads
returns-in-Closed-clause-leads g c =
    let a = c.args in
    subst (λ (e : End). Closing a.on.now a.self a.outcome a._seat.now.me.1 (marking (Done e))) c.in-Closed.is
    (sought_close a.on.now c.in-Seeking.is a.outcome a._seat.now.me.1 c.requires.came (Done c.in-Done.end) c.in-Done.ensures)

pub returns-in-Open-clause-leads : goal.returns-in-Open-clause-leads
returns-in-Open-clause-leads g c =
    let a = c.args in
    subst (λ (e : End). Closing a.on.now a.self a.outcome a._seat.now.me.1 (marking (Done e))) c.in-Open.is
    (sought_close a.on.now c.in-Seeking.is a.outcome a._seat.now.me.1 c.requires.came (Done c.in-Done.end) c.in-Done.ensures)
