use Rattle.running.proofs.Leading.{ran, one_at_most}
use Rattle.running.proofs.stepping.any.Goals as goal

pub returns-clause-ran : goal.returns-clause-ran
returns-clause-ran g c =
    let a = c.args in
    let key = g.C.OnTable.key a.on.now in
    let id = g.C.OnTable.id a.on.now in
    let s = g.S.Code.account key in
    ran (g.M.Machine.machine key) s id a.operation.now a.by c.step.result.0 a.at c.requires.named c.step.result.1 c.step.ensures.gives

pub returns-clause-took : goal.returns-clause-took
returns-clause-took g c =
    let a = c.args in
    let key = g.C.OnTable.key a.on.now in
    let id = g.C.OnTable.id a.on.now in
    let s = g.S.Code.account key in
    one_at_most (g.M.Machine.machine key) s id a.by c.step.result.0 a.at c.step.result.1 c.step.ensures.gives
