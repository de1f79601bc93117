use Rattle.std.proofs.Common.{[], refl}
use Rattle.ring_machine.specs.declared.lines.Back.TheVariants.{ToGauge}
use Rattle.ring_queue.specs.code.Walking.{to_back}
use Rattle.ring_queue.proofs.Gauges.{gauge_goes, gauge_ends}
use Rattle.ring_queue.proofs.code.gauging.GaugeAtCodeRingQueueSeatLineOperationRingedAnsweredGauge0.next.Goals as goal

pub returns-in-On-clause-leads : goal.returns-in-On-clause-leads
returns-in-On-clause-leads g c = let a = c.args in gauge_goes a.on.now a.self a.outcome a._seat.now.me.1 c.requires.came c.in-On.at (c.in-On.ensures (to_back ToGauge) [] a._seat.now.me.1 refl)

pub returns-in-Lost-clause-leads : goal.returns-in-Lost-clause-leads
returns-in-Lost-clause-leads g c = let a = c.args in gauge_goes a.on.now a.self a.outcome a._seat.now.me.1 c.requires.came c.in-Lost.at (c.in-Lost.ensures (to_back ToGauge) [] a._seat.now.me.1 refl)

pub returns-in-Done-clause-leads : goal.returns-in-Done-clause-leads
returns-in-Done-clause-leads g c = let a = c.args in gauge_ends a.on.now a.self a.outcome a._seat.now.me.1 c.requires.came c.in-Done.end (c.in-Done.ensures (to_back ToGauge) [] a._seat.now.me.1 refl) c.is_marked.result c.place_of.result c.is_marked.ensures c.place_of.ensures
