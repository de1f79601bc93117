use Rattle.running.specs.declared.code.Next.TheVariants.{On, Lost, Done}
use Rattle.treiber_stack.proofs.Every.{put_every, take_every, mark_every, mark_said}
use Rattle.treiber_stack.proofs.code.every.StackAtCodeStackLineOperationStackedAnsweredReply2.next.Goals as goal

pub returns-in-On-clause-leads : goal.returns-in-On-clause-leads
returns-in-On-clause-leads g c = let a = c.args in put_every a.on.now a.outcome a.seat.now.me.1 _ c.in-Put.at c.in-Put.is (On c.in-On.at) c.in-On.ensures.leads

pub returns-in-Lost-clause-leads : goal.returns-in-Lost-clause-leads
returns-in-Lost-clause-leads g c = let a = c.args in put_every a.on.now a.outcome a.seat.now.me.1 _ c.in-Put.at c.in-Put.is (Lost c.in-Lost.at) c.in-Lost.ensures.leads

pub returns-in-Done-clause-leads : goal.returns-in-Done-clause-leads
returns-in-Done-clause-leads g c = let a = c.args in put_every a.on.now a.outcome a.seat.now.me.1 _ c.in-Put.at c.in-Put.is (Done c.in-Done.answer) c.in-Done.ensures.leads

pub returns-in-On-next-clause-leads : goal.returns-in-On-next-clause-leads
returns-in-On-next-clause-leads g c = let a = c.args in take_every a.on.now a.outcome a.seat.now.me.1 _ c.in-Take.at c.in-Take.is (On c.in-On-next.at) c.in-On-next.ensures.leads

pub returns-in-Lost-next-clause-leads : goal.returns-in-Lost-next-clause-leads
returns-in-Lost-next-clause-leads g c = let a = c.args in take_every a.on.now a.outcome a.seat.now.me.1 _ c.in-Take.at c.in-Take.is (Lost c.in-Lost-next.at) c.in-Lost-next.ensures.leads

pub returns-in-Done-next-clause-leads : goal.returns-in-Done-next-clause-leads
returns-in-Done-next-clause-leads g c = let a = c.args in take_every a.on.now a.outcome a.seat.now.me.1 _ c.in-Take.at c.in-Take.is (Done c.in-Done-next.answer) c.in-Done-next.ensures.leads

pub returns-in-On-next-2-clause-leads : goal.returns-in-On-next-2-clause-leads
returns-in-On-next-2-clause-leads g c = let a = c.args in mark_every a.on.now a.outcome a.seat.now.me.1 _ c.in-Mark.at c.in-Mark.is (On c.in-On-next-2.at) c.in-On-next-2.ensures.leads

pub returns-in-Lost-next-2-clause-leads : goal.returns-in-Lost-next-2-clause-leads
returns-in-Lost-next-2-clause-leads g c = let a = c.args in mark_every a.on.now a.outcome a.seat.now.me.1 _ c.in-Mark.at c.in-Mark.is (Lost c.in-Lost-next-2.at) c.in-Lost-next-2.ensures.leads

pub returns-in-Done-next-2-clause-leads : goal.returns-in-Done-next-2-clause-leads
returns-in-Done-next-2-clause-leads g c = let a = c.args in mark_said a.on.now a.outcome a.seat.now.me.1 _ c.in-Mark.at c.in-Mark.is c.in-Done-next-2.answer c.mark-mark.result c.said.result c.mark-mark.ensures c.said.ensures c.in-Done-next-2.ensures.leads
