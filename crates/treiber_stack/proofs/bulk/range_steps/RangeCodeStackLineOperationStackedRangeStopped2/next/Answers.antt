use Rattle.std.proofs.Common.{sym, subst, arith}
use Rattle.running.specs.declared.code.Next.TheVariants.{On, Lost, Done}
use Rattle.treiber_stack.specs.declared.bulk.range_steps.RangeAt.{RangeAt}
use Rattle.treiber_stack.specs.declared.bulk.range_steps.RangeAt.TheVariants.{Load, Refuse, GiveBack}
use Rattle.treiber_stack.specs.declared.bulk.range_steps.RangeEnd.TheVariants.{Spent as IsSpent, GaveBack}
use Rattle.treiber_stack.specs.declared.bulk.range_steps.RangeStop.TheVariants.{Over}
use Rattle.treiber_stack.specs.code.Begun.{put_begun}
use Rattle.treiber_stack.specs.code.Ranging.{HasRead, refused}
use Rattle.treiber_stack.specs.code.Refusing.{RefusesNode}
use Rattle.treiber_stack.specs.Calls.{limit_of}
use Rattle.treiber_stack.proofs.RangeSteps.{LeadingRange, goes_to_top, goes_to_refuse, is_spent, gave_range}
use Rattle.treiber_stack.proofs.bulk.range_steps.RangeCodeStackLineOperationStackedRangeStopped2.next.Goals as goal

pub returns-then-held-gt0-clause-leads : goal.returns-then-held-gt0-clause-leads
returns-then-held-gt0-clause-leads g c =
    let a = c.args in
    let s = a.self in
    let nodes = subst (HasRead a.on.now (put_begun s.begun) s.held) c.in-LoadFree.is c.requires.knows in
    subst (λ (at : RangeAt). LeadingRange a.on.now (record { begun = s.begun; held = s.held; at = at }) a.outcome a._seat.now.me.1 (On (record { begun = s.begun; held = s.held; at = Load }))) (sym c.in-LoadFree.is)
    (goes_to_top a.on.now s.begun s.held a.outcome a._seat.now.me.1 c.from_word-free.result c.from_word-free.ensures nodes c.in-Some.why c.in-Some.ensures c.if-held-gt0.true)

pub returns-in-NoneFree-clause-leads : goal.returns-in-NoneFree-clause-leads
returns-in-NoneFree-clause-leads g c =
    let a = c.args in
    let s = a.self in
    let flat = c.if-held-gt0.false in
    let nodes = subst (HasRead a.on.now (put_begun s.begun) s.held) c.in-LoadFree.is c.requires.knows in
    let why = subst (RefusesNode (limit_of a.on.now) c.from_word-free.result) c.in-NoneFree.is c.in-Some.ensures in
    subst (λ (at : RangeAt). LeadingRange a.on.now (record { begun = s.begun; held = s.held; at = at }) a.outcome a._seat.now.me.1 (On (record { begun = s.begun; held = s.held; at = Refuse }))) (sym c.in-LoadFree.is)
    (goes_to_refuse a.on.now s.begun s.held a.outcome a._seat.now.me.1 c.from_word-free.result c.from_word-free.ensures nodes (omega arith) why)

pub returns-in-Spent-clause-leads : goal.returns-in-Spent-clause-leads
returns-in-Spent-clause-leads g c =
    let a = c.args in
    let s = a.self in
    let flat = c.if-held-gt0.false in
    let nodes = subst (HasRead a.on.now (put_begun s.begun) s.held) c.in-LoadFree.is c.requires.knows in
    let why = subst (RefusesNode (limit_of a.on.now) c.from_word-free.result) c.in-Spent.is c.in-Some.ensures in
    subst (λ (at : RangeAt). LeadingRange a.on.now (record { begun = s.begun; held = s.held; at = at }) a.outcome a._seat.now.me.1 (Done (record { begun = s.begun; stop = Over (IsSpent c.in-Spent.tag) }))) (sym c.in-LoadFree.is)
    (is_spent a.on.now s.begun s.held a.outcome a._seat.now.me.1 c.from_word-free.result c.from_word-free.ensures nodes (omega arith) c.in-Spent.tag why)

pub returns-in-On-clause-leads : goal.returns-in-On-clause-leads
returns-in-On-clause-leads g c =
    let a = c.args in
    let s = a.self in
    let are = subst (HasRead a.on.now (put_begun s.begun) s.held) c.in-GiveBack.is c.requires.knows in
    subst (λ (at : RangeAt). LeadingRange a.on.now (record { begun = s.begun; held = s.held; at = at }) a.outcome a._seat.now.me.1 (On (record { begun = s.begun; held = s.held; at = GiveBack c.in-GiveBack.why c.in-On.at }))) (sym c.in-GiveBack.is)
    (gave_range a.on.now s.begun s.held a.outcome a._seat.now.me.1 0 c.in-GiveBack.why c.in-GiveBack.at are (On c.in-On.at) (c.in-On.ensures (refused (put_begun s.begun) c.in-GiveBack.why) a._seat.now.me.1))

pub returns-in-Lost-clause-leads : goal.returns-in-Lost-clause-leads
returns-in-Lost-clause-leads g c =
    let a = c.args in
    let s = a.self in
    let are = subst (HasRead a.on.now (put_begun s.begun) s.held) c.in-GiveBack.is c.requires.knows in
    subst (λ (at : RangeAt). LeadingRange a.on.now (record { begun = s.begun; held = s.held; at = at }) a.outcome a._seat.now.me.1 (Lost (record { begun = s.begun; held = s.held; at = GiveBack c.in-GiveBack.why c.in-Lost.at }))) (sym c.in-GiveBack.is)
    (gave_range a.on.now s.begun s.held a.outcome a._seat.now.me.1 0 c.in-GiveBack.why c.in-GiveBack.at are (Lost c.in-Lost.at) (c.in-Lost.ensures (refused (put_begun s.begun) c.in-GiveBack.why) a._seat.now.me.1))

pub returns-in-Done-clause-leads : goal.returns-in-Done-clause-leads
returns-in-Done-clause-leads g c =
    let a = c.args in
    let s = a.self in
    let are = subst (HasRead a.on.now (put_begun s.begun) s.held) c.in-GiveBack.is c.requires.knows in
    subst (λ (at : RangeAt). LeadingRange a.on.now (record { begun = s.begun; held = s.held; at = at }) a.outcome a._seat.now.me.1 (Done (record { begun = s.begun; stop = Over (GaveBack c.in-GiveBack.why) }))) (sym c.in-GiveBack.is)
    (gave_range a.on.now s.begun s.held a.outcome a._seat.now.me.1 0 c.in-GiveBack.why c.in-GiveBack.at are (Done tt) (c.in-Done.ensures (refused (put_begun s.begun) c.in-GiveBack.why) a._seat.now.me.1))
