use Rattle.std.proofs.Common.{sym, subst}
use Rattle.running.specs.Code.{IsAccess}
use Rattle.running.proofs.Making.{plain_access}
use Rattle.running.proofs.stepping.single_step.Goals as goal

pub advance_single-requires-clause-access : goal.advance_single-requires-clause-access
advance_single-requires-clause-access g c =
    let a = c.args in
    let key = g.C.OnTable.key a.on.now in
    let id = g.C.OnTable.id a.on.now in
    let s = g.S.Code.account key in
    let core = (g.M.Machine.machine key).core in
    let lists = g.M.ListMachine.lists in
    subst (IsAccess core lists _ id.words (s.line a.at) (s.slots a.at)) (sym c.plain-single.ensures)
    (plain_access core lists _ id.words (s.line a.at) (s.slots a.at) c.access.result c.access.ensures)
