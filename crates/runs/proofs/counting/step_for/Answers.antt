use Rattle.std.proofs.Common.{◌+◌, ℕ, ◌∙◌, subst, arith}
use Rattle.running.specs.Kept.{Returned}
use Rattle.running.specs.Passes.{begun_of}
use Rattle.runs.specs.Made.{HasMade}
use Rattle.runs.proofs.Made.{made_after}
use Rattle.runs.proofs.counting.step_for.Goals as goal

pub loop-done-preserved : goal.loop-done-preserved
loop-done-preserved g c =
    let key = g.C.OnTable.key c.args.on.now in
    let id = g.C.OnTable.id c.args.on.now in
    let account = g.S.Code.account key in
    let m = g.M.Machine.machine key in
    let names = g.M.Machine.names in
    let first = c.args.op in
    let op = c.loop-done.op in
    let next = c.in-Again.next in
    let before = c.loop-done.invariant in
    let e = c.in-Again.ensures in
    let done = c.loop-done._done in (
      e.0,
      e.2 ∙ before.1,
      e.1.begun ∙ before.2,
      λ k made. subst (λ (n : ℕ). HasMade names next.operation next.pass.seat.me.0 n) (omega arith)
          (made_after m account id op next before.0 e.0 e.1 e.2 e.3 (k + done) (before.3 k made)),
    )

pub returns-in-Done : goal.returns-in-Done
returns-in-Done g c = λ k made.
    let key = g.C.OnTable.key c.args.on.now in
    let id = g.C.OnTable.id c.args.on.now in
    let account = g.S.Code.account key in
    let m = g.M.Machine.machine key in
    let back = c.in-Done.back in
    let reply = c.in-Done.reply in
    let op = c.loop-done.op in
    let before = c.loop-done.invariant in
    subst (λ o. Returned m account g.C.Keeping.keeps id (g.S.Replies.gives key) o (begun_of m c.args.op.pass) back reply) before.1
    (subst (λ v. Returned m account g.C.Keeping.keeps id (g.S.Replies.gives key) op.operation v back reply) before.2 c.in-Done.ensures.0)
