use Rattle.running.proofs.Back.{has_returned, has_returned_by}
use Rattle.running.proofs.whole_calls.whole.Goals as goal

pub returns-clause-rested : goal.returns-clause-rested
returns-clause-rested g c = λ by is ran.
    let key = g.C.OnTable.key c.args.on.now in
    has_returned (g.M.Machine.machine key) (g.S.Code.account key) g.C.Keeping.keeps (g.C.OnTable.id c.args.on.now) (g.S.Replies.gives key) (g.met.S.Replies.idle key) (g.met.S.Replies.given key) (g.met.S.Replies.kept key) c.args.operation by is c.to_the_end-pass.result.0 c.to_the_end-pass.result.1 (c.to_the_end-pass.ensures.stops by.pass ran, c.to_the_end-pass.ensures.new by.pass ran)

pub returns-clause-began : goal.returns-clause-began
returns-clause-began g c = λ by ran.
    let key = g.C.OnTable.key c.args.on.now in
    has_returned_by (g.M.Machine.machine key) (g.S.Code.account key) g.C.Keeping.keeps (g.C.OnTable.id c.args.on.now) (g.S.Replies.gives key) (g.met.S.Replies.idle key) (g.met.S.Replies.given key) (g.met.S.Replies.kept key) c.args.operation by c.to_the_end-pass.result.0 c.to_the_end-pass.result.1 (c.to_the_end-pass.ensures.stops by ran, c.to_the_end-pass.ensures.new by ran)
