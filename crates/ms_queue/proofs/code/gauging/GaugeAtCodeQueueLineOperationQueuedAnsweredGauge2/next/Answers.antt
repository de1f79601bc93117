use Rattle.std.proofs.Common.{true, sym, ap, ◌∙◌, subst}
use Rattle.running.specs.declared.code.Next.{Next}
use Rattle.running.specs.declared.code.Next.TheVariants.{On, Lost, Done}
use Rattle.ms_queue.specs.declared.calls.gauging.Gauge.{Gauge}
use Rattle.ms_queue.specs.declared.code.gauging.GaugeAt.{GaugeAt}
use Rattle.ms_queue.specs.declared.code.seeking.End.{End}
use Rattle.ms_queue.specs.code.Machine.{Answered}
use Rattle.ms_queue.proofs.Gauges.{Gauging, gauging, sought_gauge}
use Rattle.ms_queue.proofs.code.gauging.GaugeAtCodeQueueLineOperationQueuedAnsweredGauge2.next.Goals as goal

pub returns-in-On-clause-leads : goal.returns-in-On-clause-leads
returns-in-On-clause-leads g c = let a = c.args in sought_gauge a.on.now c.in-Seeking.is a.outcome a._seat.now.me.1 c.requires.came (On c.in-On.at) c.in-On.ensures

pub returns-in-Lost-clause-leads : goal.returns-in-Lost-clause-leads
returns-in-Lost-clause-leads g c = let a = c.args in sought_gauge a.on.now c.in-Seeking.is a.outcome a._seat.now.me.1 c.requires.came (Lost c.in-Lost.at) c.in-Lost.ensures

pub returns-in-Closed-clause-leads : goal.returns-in-Closed-clause-leads
returns-in-Closed-clause-leads g c =
    let a = c.args in
    let found = sought_gauge a.on.now c.in-Seeking.is a.outcome a._seat.now.me.1 c.requires.came (Done c.in-Done.end) c.in-Done.ensures in
    subst (λ (to : Next GaugeAt (Answered Gauge)). Gauging a.on.now a.self a.outcome a._seat.now.me.1 to)
    (ap (λ (e : End). gauging (Done e)) c.in-Closed.is ∙ ap (λ tag. Done (record { kept = tt; reply = record { closed = true; used = tag } })) (sym c.tag.ensures.field)) found

pub returns-in-Open-clause-leads : goal.returns-in-Open-clause-leads
returns-in-Open-clause-leads g c =
    let a = c.args in
    subst (λ (e : End). Gauging a.on.now a.self a.outcome a._seat.now.me.1 (gauging (Done e))) c.in-Open.is
    (sought_gauge a.on.now c.in-Seeking.is a.outcome a._seat.now.me.1 c.requires.came (Done c.in-Done.end) c.in-Done.ensures)
