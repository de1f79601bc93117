use Rattle.std.proofs.Common.{[], refl, sym, ◌∙◌}
use Rattle.ring_machine.specs.declared.lines.Front.TheVariants.{ToTake}
use Rattle.ring_queue.specs.code.Walking.{to_front}
use Rattle.ring_queue.proofs.Takes.{take_goes, take_meets, take_refused}
use Rattle.ring_queue.proofs.code.taking.TakeAtCodeRingQueueSeatLineOperationRingedAnsweredAnswer0.next.Goals as goal

pub returns-in-On-clause-leads : goal.returns-in-On-clause-leads
returns-in-On-clause-leads g c = let a = c.args in take_goes a.on.now c.in-Walking.is a.outcome a.seat.now.me.1 c.requires.came c.in-On.at (c.in-On.ensures (to_front ToTake) [] a.seat.now.me.1 refl)

pub returns-in-Lost-clause-leads : goal.returns-in-Lost-clause-leads
returns-in-Lost-clause-leads g c = let a = c.args in take_goes a.on.now c.in-Walking.is a.outcome a.seat.now.me.1 c.requires.came c.in-Lost.at (c.in-Lost.ensures (to_front ToTake) [] a.seat.now.me.1 refl)

pub returns-in-None-clause-leads : goal.returns-in-None-clause-leads
returns-in-None-clause-leads g c = let a = c.args in take_meets a.on.now c.in-Walking.is a.outcome a.seat.now.me.1 c.requires.came c.in-Done.end (c.in-Done.ensures (to_front ToTake) [] a.seat.now.me.1 refl) (sym c.refusal.ensures ∙ c.in-None.is)

pub returns-in-Some-clause-leads : goal.returns-in-Some-clause-leads
returns-in-Some-clause-leads g c = let a = c.args in take_refused a.on.now c.in-Walking.is a.outcome a.seat.now.me.1 c.requires.came c.in-Done.end (c.in-Done.ensures (to_front ToTake) [] a.seat.now.me.1 refl) c.in-Some.why (sym c.refusal.ensures ∙ c.in-Some.is)
