use Rattle.std.proofs.Common.{◌∙◌, refl}
use Rattle.running.proofs.Back.{has_returned, has_returned_by}
use Rattle.running.proofs.Ways.{begun_is}
use Rattle.running.proofs.whole_calls.leave.Goals as goal

pub returns-in-Again-clause-rested : goal.returns-in-Again-clause-rested
returns-in-Again-clause-rested g c = λ by is ran.
    let key = g.C.OnTable.key c.args.on.now in
    let e = c.in-Again.ensures.ran by.pass ran in
    (refl, record { named = e.1; stands = e.0 }, e.2.0 ∙ begun_is (g.M.Machine.machine key) (g.C.OnTable.id c.args.on.now) by.pass is.on)

pub returns-in-Again-clause-began : goal.returns-in-Again-clause-began
returns-in-Again-clause-began g c = λ by ran.
    let e = c.in-Again.ensures.ran by ran in
    (refl, record { named = e.1; stands = e.0 }, e.2.0)

pub returns-in-Done-clause-rested : goal.returns-in-Done-clause-rested
returns-in-Done-clause-rested g c = λ by is ran.
    let key = g.C.OnTable.key c.args.on.now in
    has_returned (g.M.Machine.machine key) (g.S.Code.account key) g.C.Keeping.keeps (g.C.OnTable.id c.args.on.now) (g.S.Replies.gives key) (g.met.S.Replies.idle key) (g.met.S.Replies.given key) (g.met.S.Replies.kept key) c.args.operation by is c.in-Done.pass c.in-Done.answer (c.in-Done.ensures.ran by.pass ran)

pub returns-in-Done-clause-began : goal.returns-in-Done-clause-began
returns-in-Done-clause-began g c = λ by ran.
    let key = g.C.OnTable.key c.args.on.now in
    has_returned_by (g.M.Machine.machine key) (g.S.Code.account key) g.C.Keeping.keeps (g.C.OnTable.id c.args.on.now) (g.S.Replies.gives key) (g.met.S.Replies.idle key) (g.met.S.Replies.given key) (g.met.S.Replies.kept key) c.args.operation by c.in-Done.pass c.in-Done.answer (c.in-Done.ensures.ran by ran)
