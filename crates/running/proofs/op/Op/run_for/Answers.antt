use Rattle.running.specs.Passes.{begun_of}
use Rattle.running.proofs.Back.{returned}
use Rattle.running.proofs.Leading.{ended, since_none}
use Rattle.running.proofs.op.Op.run_for.Goals as goal

pub returns-in-Done : goal.returns-in-Done
returns-in-Done g c =
    let op = c.args.self in
    let key = g.C.OnTable.key c.args.on.now in
    let id = g.C.OnTable.id c.args.on.now in
    let s = g.S.Code.account key in
    let m = g.M.Machine.machine key in
    let begun = begun_of m op.pass in
    let back = c.in-Done.pass in
    let answer = c.in-Done.answer in
    let e = c.in-Done.ensures in
    let ran = e.ran op.pass (c.requires.stands, c.requires.named, since_none m s id op.pass) in
    let stops = ended m s id op.operation begun back answer (g.met.S.Replies.idle key op.operation answer) ran.0 in
    (returned m s g.C.Keeping.keeps id (g.S.Replies.gives key) (g.met.S.Replies.idle key) (g.met.S.Replies.given key) (g.met.S.Replies.kept key) op.operation begun back answer stops.0 stops.1, e.took)
