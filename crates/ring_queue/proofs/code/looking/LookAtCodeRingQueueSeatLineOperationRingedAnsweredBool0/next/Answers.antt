use Rattle.std.proofs.Common.{[], refl}
use Rattle.ring_machine.specs.declared.lines.Front.TheVariants.{ToLook}
use Rattle.ring_queue.specs.code.Walking.{to_front}
use Rattle.ring_queue.proofs.Looks.{look_goes, look_ends}
use Rattle.ring_queue.proofs.code.looking.LookAtCodeRingQueueSeatLineOperationRingedAnsweredBool0.next.Goals as goal

pub returns-in-On-clause-leads : goal.returns-in-On-clause-leads
returns-in-On-clause-leads g c = let a = c.args in look_goes a.on.now a.self a.outcome a._seat.now.me.1 c.requires.came c.in-On.at (c.in-On.ensures (to_front ToLook) [] a._seat.now.me.1 refl)

pub returns-in-Lost-clause-leads : goal.returns-in-Lost-clause-leads
returns-in-Lost-clause-leads g c = let a = c.args in look_goes a.on.now a.self a.outcome a._seat.now.me.1 c.requires.came c.in-Lost.at (c.in-Lost.ensures (to_front ToLook) [] a._seat.now.me.1 refl)

pub returns-in-Done-clause-leads : goal.returns-in-Done-clause-leads
returns-in-Done-clause-leads g c = let a = c.args in look_ends a.on.now a.self a.outcome a._seat.now.me.1 c.requires.came c.in-Done.end (c.in-Done.ensures (to_front ToLook) [] a._seat.now.me.1 refl) c.tag.result c.tag-in-Done.result c.tag.ensures.field c.tag-in-Done.ensures.field
