use Rattle.std.proofs.Common.{refl, ap, subst}
use Rattle.running.specs.declared.code.Next.TheVariants.{On, Lost, Done}
use Rattle.ms_queue.specs.declared.code.seeking.End.{End}
use Rattle.ms_queue.proofs.Puts.{Putting, barred, sought_refusal, sought_on, sought_lost, sought_end, sought_mark, gave_put}
use Rattle.ms_queue.proofs.code.putting.PutAtCodeQueueLineOperationQueuedAnsweredAnswer2.next.Goals as goal

pub returns-in-On-clause-leads : goal.returns-in-On-clause-leads
returns-in-On-clause-leads g c =
    let a = c.args in
    sought_refusal a.on.now c.in-Refusing.value c.in-Refusing.is a.outcome a.seat.now.me.1 c.requires.came (On c.in-On.at) c.in-On.ensures

pub returns-in-Lost-clause-leads : goal.returns-in-Lost-clause-leads
returns-in-Lost-clause-leads g c =
    let a = c.args in
    sought_refusal a.on.now c.in-Refusing.value c.in-Refusing.is a.outcome a.seat.now.me.1 c.requires.came (Lost c.in-Lost.at) c.in-Lost.ensures

pub returns-in-Closed-clause-leads : goal.returns-in-Closed-clause-leads
returns-in-Closed-clause-leads g c =
    let a = c.args in
    subst (λ (e : End). Putting a.on.now a.self a.outcome a.seat.now.me.1 a.seat.now.me.1 (barred a.on.now c.in-Refusing.value (Done e))) c.in-Closed.is
    (sought_refusal a.on.now c.in-Refusing.value c.in-Refusing.is a.outcome a.seat.now.me.1 c.requires.came (Done c.in-Done.end) c.in-Done.ensures)

pub returns-in-Refusing-clause-leads : goal.returns-in-Refusing-clause-leads
returns-in-Refusing-clause-leads g c =
    let a = c.args in
    subst (λ (e : End). Putting a.on.now a.self a.outcome a.seat.now.me.1 a.seat.now.me.1 (barred a.on.now c.in-Refusing.value (Done e))) c.in-Open.is
    (sought_refusal a.on.now c.in-Refusing.value c.in-Refusing.is a.outcome a.seat.now.me.1 c.requires.came (Done c.in-Done.end) c.in-Done.ensures)

pub returns-in-On-seek_on-clause-leads : goal.returns-in-On-seek_on-clause-leads
returns-in-On-seek_on-clause-leads g c =
    let a = c.args in
    sought_on a.on.now c.in-Seeking.is a.outcome a.seat.now.me.1 a.seat.now.me.1 c.requires.knows c.requires.came (On c.in-On-seek_on.at) c.in-On-seek_on.ensures c.in-On-seek_on.at refl refl

pub returns-in-Lost-seek_on-clause-leads : goal.returns-in-Lost-seek_on-clause-leads
returns-in-Lost-seek_on-clause-leads g c =
    let a = c.args in
    sought_lost a.on.now c.in-Seeking.is a.outcome a.seat.now.me.1 a.seat.now.me.1 c.requires.knows c.requires.came (Lost c.in-Lost-seek_on.at) c.in-Lost-seek_on.ensures c.in-Lost-seek_on.at refl refl

pub returns-in-Closed-end-clause-leads : goal.returns-in-Closed-end-clause-leads
returns-in-Closed-end-clause-leads g c =
    let a = c.args in
    let v = c.move_out-value-in-Closed-end in
    sought_mark a.on.now c.in-Seeking.is a.outcome a.seat.now.me.1 v.new.seat.me.1 c.requires.knows c.requires.came (Done c.in-Done-seek_on.end) c.in-Done-seek_on.ensures v.result (ap Done c.in-Closed-end.is) v.ensures.value (ap (λ m. m.1) v.ensures.out)

pub returns-in-Seeking-clause-leads : goal.returns-in-Seeking-clause-leads
returns-in-Seeking-clause-leads g c =
    let a = c.args in
    sought_end a.on.now c.in-Seeking.is a.outcome a.seat.now.me.1 a.seat.now.me.1 c.requires.knows c.requires.came (Done c.in-Done-seek_on.end) c.in-Done-seek_on.ensures c.in-Open-end.tail c.in-Open-end.link (ap Done c.in-Open-end.is) refl

pub returns-in-On-give_next-clause-leads : goal.returns-in-On-give_next-clause-leads
returns-in-On-give_next-clause-leads g c =
    let a = c.args in
    gave_put a.on.now c.in-GiveBack.why c.in-GiveBack.held c.in-GiveBack.is c.requires.knows a.outcome a.seat.now.me.1 (On c.in-On-give_next.at) c.in-On-give_next.ensures

pub returns-in-Lost-give_next-clause-leads : goal.returns-in-Lost-give_next-clause-leads
returns-in-Lost-give_next-clause-leads g c =
    let a = c.args in
    gave_put a.on.now c.in-GiveBack.why c.in-GiveBack.held c.in-GiveBack.is c.requires.knows a.outcome a.seat.now.me.1 (Lost c.in-Lost-give_next.at) c.in-Lost-give_next.ensures

pub returns-clause-leads : goal.returns-clause-leads
returns-clause-leads g c =
    let a = c.args in
    gave_put a.on.now c.in-GiveBack.why c.in-GiveBack.held c.in-GiveBack.is c.requires.knows a.outcome a.seat.now.me.1 (Done tt) c.in-Done-give_next.ensures
