use Rattle.std.proofs.Common.{[], refl}
use Rattle.tagged_index.specs.Fields.{fields_of}
use Rattle.ring_machine.specs.declared.lines.Back.TheVariants.{ToCount}
use Rattle.ring_machine.specs.declared.lines.Front.TheVariants.{ToCount as ToCountFrom}
use Rattle.ring_queue.specs.code.Walking.{to_back, to_front}
use Rattle.ring_queue.proofs.Counts.{front_goes, front_ends, back_goes, back_ends}
use Rattle.ring_queue.proofs.code.counting.LenAtCodeRingQueueSeatLineOperationRingedAnsweredU640.next.Goals as goal

pub returns-in-On-clause-leads : goal.returns-in-On-clause-leads
returns-in-On-clause-leads g c = let a = c.args in front_goes a.on.now a.self c.in-ToFront.at a.outcome a._seat.now.me.1 c.requires.came c.in-ToFront.is c.in-On.at (c.in-On.ensures (to_front ToCountFrom) [] a._seat.now.me.1 refl)

pub returns-in-Lost-clause-leads : goal.returns-in-Lost-clause-leads
returns-in-Lost-clause-leads g c = let a = c.args in front_goes a.on.now a.self c.in-ToFront.at a.outcome a._seat.now.me.1 c.requires.came c.in-ToFront.is c.in-Lost.at (c.in-Lost.ensures (to_front ToCountFrom) [] a._seat.now.me.1 refl)

pub returns-in-Done-clause-leads : goal.returns-in-Done-clause-leads
returns-in-Done-clause-leads g c = let a = c.args in front_ends a.on.now a.self c.in-ToFront.at a.outcome a._seat.now.me.1 c.requires.came c.in-ToFront.is c.in-Done.end (c.in-Done.ensures (to_front ToCountFrom) [] a._seat.now.me.1 refl)

pub returns-in-On-walk_on-clause-leads : goal.returns-in-On-walk_on-clause-leads
returns-in-On-walk_on-clause-leads g c = let a = c.args in back_goes a.on.now a.self c.in-ToBack.at a.outcome a._seat.now.me.1 c.requires.came c.in-ToBack.front c.in-ToBack.is c.requires.knows c.in-On-walk_on.at (c.in-On-walk_on.ensures (to_back (ToCount (fields_of c.in-ToBack.front))) [] a._seat.now.me.1 refl)

pub returns-in-Lost-walk_on-clause-leads : goal.returns-in-Lost-walk_on-clause-leads
returns-in-Lost-walk_on-clause-leads g c = let a = c.args in back_goes a.on.now a.self c.in-ToBack.at a.outcome a._seat.now.me.1 c.requires.came c.in-ToBack.front c.in-ToBack.is c.requires.knows c.in-Lost-walk_on.at (c.in-Lost-walk_on.ensures (to_back (ToCount (fields_of c.in-ToBack.front))) [] a._seat.now.me.1 refl)

pub returns-in-Done-walk_on-clause-leads : goal.returns-in-Done-walk_on-clause-leads
returns-in-Done-walk_on-clause-leads g c = let a = c.args in back_ends a.on.now a.self c.in-ToBack.at a.outcome a._seat.now.me.1 c.requires.came c.in-ToBack.front c.in-ToBack.is c.requires.knows c.in-Done-walk_on.end (c.in-Done-walk_on.ensures (to_back (ToCount (fields_of c.in-ToBack.front))) [] a._seat.now.me.1 refl)
