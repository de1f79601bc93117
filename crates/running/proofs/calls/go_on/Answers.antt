use Rattle.std.proofs.Common.{subst}
use Rattle.running.specs.Steps.{Ran}
use Rattle.running.specs.declared.code.Next.{Next}
use Rattle.running.proofs.Leading.{new_on}
use Rattle.running.proofs.calls.go_on.Goals as goal

pub returns-in_default-On-clause-new : goal.returns-in_default-On-clause-new
returns-in_default-On-clause-new g c = λ by ran.
    let key = g.C.OnTable.key c.args.on.now in
    let id = g.C.OnTable.id c.args.on.now in
    let s = g.S.Code.account key in
    let m = g.M.Machine.machine key in
    let r = subst (λ (n : Next _ _). Ran m s id c.args.operation.now by c.args.first.0 n) c.in_default-On.is-1 ran in
    new_on m s id by c.args.first.0 c.run_on.result.0 r.2 c.run_on.ensures.new

pub returns-in_default-Lost-clause-new : goal.returns-in_default-Lost-clause-new
returns-in_default-Lost-clause-new g c = λ by ran.
    let key = g.C.OnTable.key c.args.on.now in
    let id = g.C.OnTable.id c.args.on.now in
    let s = g.S.Code.account key in
    let m = g.M.Machine.machine key in
    let r = subst (λ (n : Next _ _). Ran m s id c.args.operation.now by c.args.first.0 n) c.in_default-Lost.is-1 ran in
    new_on m s id by c.args.first.0 c.run_on-in_default-Lost.result.0 r.2 c.run_on-in_default-Lost.ensures.new
