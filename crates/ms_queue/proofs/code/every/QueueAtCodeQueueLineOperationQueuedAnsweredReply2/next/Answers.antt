use Rattle.running.specs.declared.code.Next.TheVariants.{On, Lost, Done}
use Rattle.ms_queue.proofs.Every.{put_every, take_every, close_every, shut_every}
use Rattle.ms_queue.proofs.code.every.QueueAtCodeQueueLineOperationQueuedAnsweredReply2.next.Goals as goal

pub returns-in-On-clause-leads : goal.returns-in-On-clause-leads
returns-in-On-clause-leads g c = let a = c.args in put_every a.on.now a.outcome a.seat.now.me.1 _ c.in-Put.at c.in-Put.is (On c.in-On.at) c.in-On.ensures.leads

pub returns-in-Lost-clause-leads : goal.returns-in-Lost-clause-leads
returns-in-Lost-clause-leads g c = let a = c.args in put_every a.on.now a.outcome a.seat.now.me.1 _ c.in-Put.at c.in-Put.is (Lost c.in-Lost.at) c.in-Lost.ensures.leads

pub returns-in-Done-clause-leads : goal.returns-in-Done-clause-leads
returns-in-Done-clause-leads g c = let a = c.args in put_every a.on.now a.outcome a.seat.now.me.1 _ c.in-Put.at c.in-Put.is (Done c.in-Done.answer) c.in-Done.ensures.leads

pub returns-in-On-next-clause-leads : goal.returns-in-On-next-clause-leads
returns-in-On-next-clause-leads g c = let a = c.args in take_every a.on.now a.outcome a.seat.now.me.1 _ c.in-Take.at c.in-Take.is (On c.in-On-next.at) c.in-On-next.ensures.leads

pub returns-in-Lost-next-clause-leads : goal.returns-in-Lost-next-clause-leads
returns-in-Lost-next-clause-leads g c = let a = c.args in take_every a.on.now a.outcome a.seat.now.me.1 _ c.in-Take.at c.in-Take.is (Lost c.in-Lost-next.at) c.in-Lost-next.ensures.leads

pub returns-in-Done-next-clause-leads : goal.returns-in-Done-next-clause-leads
returns-in-Done-next-clause-leads g c = let a = c.args in take_every a.on.now a.outcome a.seat.now.me.1 _ c.in-Take.at c.in-Take.is (Done c.in-Done-next.answer) c.in-Done-next.ensures.leads

pub returns-in-On-next-2-clause-leads : goal.returns-in-On-next-2-clause-leads
returns-in-On-next-2-clause-leads g c = let a = c.args in close_every a.on.now a.outcome a.seat.now.me.1 _ c.in-Close.at c.in-Close.is (On c.in-On-next-2.at) c.in-On-next-2.ensures.leads

pub returns-in-Lost-next-2-clause-leads : goal.returns-in-Lost-next-2-clause-leads
returns-in-Lost-next-2-clause-leads g c = let a = c.args in close_every a.on.now a.outcome a.seat.now.me.1 _ c.in-Close.at c.in-Close.is (Lost c.in-Lost-next-2.at) c.in-Lost-next-2.ensures.leads

pub returns-in-Done-next-2-clause-leads : goal.returns-in-Done-next-2-clause-leads
returns-in-Done-next-2-clause-leads g c = let a = c.args in close_every a.on.now a.outcome a.seat.now.me.1 _ c.in-Close.at c.in-Close.is (Done c.in-Done-next-2.answer) c.in-Done-next-2.ensures.leads

pub returns-in-On-next-3-clause-leads : goal.returns-in-On-next-3-clause-leads
returns-in-On-next-3-clause-leads g c = let a = c.args in shut_every a.on.now a.outcome a.seat.now.me.1 _ c.in-Shut.at c.in-Shut.is (On c.in-On-next-3.at) c.in-On-next-3.ensures.leads

pub returns-in-Lost-next-3-clause-leads : goal.returns-in-Lost-next-3-clause-leads
returns-in-Lost-next-3-clause-leads g c = let a = c.args in shut_every a.on.now a.outcome a.seat.now.me.1 _ c.in-Shut.at c.in-Shut.is (Lost c.in-Lost-next-3.at) c.in-Lost-next-3.ensures.leads

pub returns-in-Done-next-3-clause-leads : goal.returns-in-Done-next-3-clause-leads
returns-in-Done-next-3-clause-leads g c = let a = c.args in shut_every a.on.now a.outcome a.seat.now.me.1 _ c.in-Shut.at c.in-Shut.is (Done c.in-Done-next-3.answer) c.in-Done-next-3.ensures.leads
