use Rattle.std.proofs.Common.{ap}
use Rattle.running.specs.declared.code.Next.TheVariants.{On, Lost, Done}
use Rattle.ms_queue.proofs.Takes.{gave_take, won_head}
use Rattle.ms_queue.proofs.code.taking.TakeAtCodeQueueLineOperationQueuedAnsweredAnswer2.next.Goals as goal

pub returns-in-On-clause-leads : goal.returns-in-On-clause-leads
returns-in-On-clause-leads g c = let a = c.args in gave_take a.on.now c.in-GiveBack.is c.requires.knows a.outcome a.seat.now.me.1 (On c.in-On.at) c.in-On.ensures

pub returns-in-Lost-clause-leads : goal.returns-in-Lost-clause-leads
returns-in-Lost-clause-leads g c = let a = c.args in gave_take a.on.now c.in-GiveBack.is c.requires.knows a.outcome a.seat.now.me.1 (Lost c.in-Lost.at) c.in-Lost.ensures

pub returns-in-Done-clause-leads : goal.returns-in-Done-clause-leads
returns-in-Done-clause-leads g c = let a = c.args in gave_take a.on.now c.in-GiveBack.is c.requires.knows a.outcome a.seat.now.me.1 (Done tt) c.in-Done.ensures

pub returns-else-not-outcome-clause-leads : goal.returns-else-not-outcome-clause-leads
returns-else-not-outcome-clause-leads g c =
    let a = c.args in
    let v = c.move_out-value in
    won_head a.on.now c.in-TakeHead.is a.outcome a.seat.now.me.1 v.new.seat.me.1 c.if-not-outcome.false c.requires.knows c.requires.came v.result c.tag.result c.index-in-TakeHead.result v.ensures.value (ap (λ m. m.1) v.ensures.out) c.tag.ensures.field c.index-in-TakeHead.ensures.field
