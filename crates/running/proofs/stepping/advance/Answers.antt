use Rattle.std.proofs.Common.{sym, ◌∙◌, subst}
use Rattle.running.specs.Going.{Found, begun_in}
use Rattle.running.specs.Code.{FoundBy, Leads}
use Rattle.running.specs.Steps.{Made}
use Rattle.running.proofs.Leading.{gave, tells, shows}
use Rattle.running.proofs.stepping.advance.Goals as goal

pub next-next-requires-clause-came : goal.next-next-requires-clause-came
next-next-requires-clause-came g c =
    let a = c.args in
    let key = g.C.OnTable.key a.on.now in
    let id = g.C.OnTable.id a.on.now in
    let s = g.S.Code.account key in
    let m = g.M.Machine.machine key in
    let is = c.requires.stands in
    let r = c.make-outcome in
    let made = subst (λ k. Made (g.M.Machine.machine k) a.operation.now ((g.S.Code.account k).line a.at) a.by.seat.me r.new.seat.me r.result) c.requires.table.0 r.ensures.made in
    let told = (subst (λ o. Found m o a.by.seat.me.0 r.new.seat.me.0 made.found made.came) c.requires.named made.steps (begun_in m a.by.seat.me.0) (s.line a.at) is.at.at.going).1 in
    tells m.core (s.line a.at) r.result (s.slots a.at) r.new.seat.me.1 made.found made.came (m.core.access (s.line a.at))
    (subst (λ had. FoundBy m.core (m.core.access (s.line a.at)) (s.line a.at) r.result had r.new.seat.me.1 made.found made.came) is.at.at.has made.is) told

pub returns-clause-gives : goal.returns-clause-gives
returns-clause-gives g c =
    let a = c.args in
    let key = g.C.OnTable.key a.on.now in
    let id = g.C.OnTable.id a.on.now in
    let s = g.S.Code.account key in
    let m = g.M.Machine.machine key in
    let is = c.requires.stands in
    let r = c.make-outcome in
    let made = subst (λ k. Made (g.M.Machine.machine k) a.operation.now ((g.S.Code.account k).line a.at) a.by.seat.me r.new.seat.me r.result) c.requires.table.0 r.ensures.made in
    let steps = subst (λ o. Found m o a.by.seat.me.0 r.new.seat.me.0 made.found made.came) c.requires.named made.steps in
    let found = subst (λ had. FoundBy m.core (m.core.access (s.line a.at)) (s.line a.at) r.result had r.new.seat.me.1 made.found made.came) is.at.at.has made.is in
    let seat = c.next-next.ensures.seat in
    gave m s id a.by (record a.by { seat = c.next-next.new.seat }) a.at is (seat.0 ∙ r.ensures.table)
    made.found made.came (subst (λ v. Found m (s.operation a.at) a.by.seat.me.0 v made.found made.came) (sym seat.1) steps)
    c.next-next.result
    (shows m.core (s.line a.at) r.result (s.slots a.at) r.new.seat.me.1 made.found made.came
    (λ n zs. Leads g.M.Machine.names s a.at (m.core.next (s.line a.at) n zs) c.next-next.new.seat.me.1 c.next-next.result)
    (m.core.access (s.line a.at)) found c.next-next.ensures.leads)
