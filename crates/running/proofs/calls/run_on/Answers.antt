use Rattle.std.proofs.Common.{rules, subst}
use Rattle.running.specs.Steps.{Ran}
use Rattle.running.specs.declared.code.Next.{Next}
use Rattle.running.proofs.Leading.{ran_on, new_on, tells_on}
use Rattle.running.proofs.calls.run_on.Goals as goal

pub returns-in_default-Done-clause-new : goal.returns-in_default-Done-clause-new
returns-in_default-Done-clause-new g c =
    let key = g.C.OnTable.key c.args.on.now in
    let id = g.C.OnTable.id c.args.on.now in
    let s = g.S.Code.account key in
    let m = g.M.Machine.machine key in
    let ran = subst (λ (n : Next _ _). Ran m s id c.args.operation.now c.loop.pass c.any.result.0 n) c.in_default-Done.is-1 c.any.ensures.ran in
    new_on m s id c.args.by c.loop.pass c.any.result.0 c.loop.invariant.4 ran.1

pub loop-preserved-in_default-On : goal.loop-preserved-in_default-On
loop-preserved-in_default-On g c =
    let key = g.C.OnTable.key c.args.on.now in
    let id = g.C.OnTable.id c.args.on.now in
    let s = g.S.Code.account key in
    let m = g.M.Machine.machine key in
    let i = c.loop.invariant in
    let ran = ran_on m s id c.args.operation.now c.args.by c.loop.pass c.any.result.0 i.4 c.any.result.1 c.any.ensures.ran in
    let told = tells_on s.told c.args.under_way c.loop.at i.5 c.any.result.1 c.any.ensures.told in
    search rules depth 7

pub loop-preserved : goal.loop-preserved
loop-preserved g c =
    let key = g.C.OnTable.key c.args.on.now in
    let id = g.C.OnTable.id c.args.on.now in
    let s = g.S.Code.account key in
    let m = g.M.Machine.machine key in
    let i = c.loop.invariant in
    let ran = ran_on m s id c.args.operation.now c.args.by c.loop.pass c.any.result.0 i.4 c.any.result.1 c.any.ensures.ran in
    let told = tells_on s.told c.args.under_way c.loop.at i.5 c.any.result.1 c.any.ensures.told in
    search rules depth 7
