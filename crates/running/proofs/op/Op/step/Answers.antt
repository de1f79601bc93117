use Rattle.std.proofs.Common.{sym, subst}
use Rattle.running.specs.Going.{Ended, IsLine}
use Rattle.running.specs.Passes.{begun_of}
use Rattle.running.proofs.Back.{returned}
use Rattle.running.proofs.Leading.{ended}
use Rattle.running.proofs.op.Op.step.Goals as goal

pub returns-in-Done : goal.returns-in-Done
returns-in-Done g c =
    let op = c.args.self in
    let key = g.C.OnTable.key c.args.on.now in
    let id = g.C.OnTable.id c.args.on.now in
    let s = g.S.Code.account key in
    let m = g.M.Machine.machine key in
    let begun = begun_of m op.pass in
    let back = c.in-Done.pass in
    let answer = c.in-Done.answer in
    let e = c.in-Done.ensures in
    let stops = ended m s id (s.operation op.at) begun back answer (g.met.S.Replies.idle key (s.operation op.at) answer) e.0 in
    let end : Ended m op.operation back.seat.me.0 begun (s.answer op.operation answer) = subst (λ o. Ended m o back.seat.me.0 begun (s.answer o answer)) (sym c.requires.named) stops.1 in (
      returned m s g.C.Keeping.keeps id (g.S.Replies.gives key) (g.met.S.Replies.idle key) (g.met.S.Replies.given key) (g.met.S.Replies.kept key) op.operation begun back answer stops.0 end,
      e.1.1,
      subst (λ o. IsLine m op.pass.seat.me.0 back.seat.me.0 (s.line op.at) (s.answer o answer)) (sym c.requires.named) e.1.0,
    )
