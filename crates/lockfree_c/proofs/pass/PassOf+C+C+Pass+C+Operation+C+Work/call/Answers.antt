use Rattle.std.proofs.Common.{ap, arith, subst}
use Rattle.std.specs.Prelude.{◌≡◌, ◌≤◌, ◌+◌}
use Rattle.lockfree_c.specs.Calls.{Begins}
use Rattle.lockfree_c.proofs.Shared.{tried_on}
use Rattle.lockfree_c.proofs.pass.PassOf+C+C+Pass+C+Operation+C+Work.call.Goals as goal

pub try_on-requires-clause-made : goal.try_on-requires-clause-made
try_on-requires-clause-made g c =
    let b = g.C.Handled in
    let begins = subst (λ on. Begins (b.reading on) c.in-Some.by c.args.command c.begin-operation.result) c.deref.ensures c.begin-operation.ensures in
    (c.args.command, begins.makes)

pub returns-in-Some-clause-gives : goal.returns-in-Some-clause-gives
returns-in-Some-clause-gives g c =
    let b = g.C.Handled in
    let p = c.args.self.now in
    let r = b.reading p.container.value in
    let by = c.in-Some.by in
    let op = c.begin-operation.result in
    let begins = subst (λ on. Begins (b.reading on) by c.args.command op) c.deref.ensures c.begin-operation.ensures in
    let e : (r.making op).now.steps ≡ (r.pass by).steps = ap (λ u. u.now.steps) begins.begun in
    let least : (r.pass by).steps ≤ (r.making op).now.steps = omega (arith, e) in
    let most : (r.making op).now.steps ≤ (r.pass by).steps + r.at_once c.args.command = omega (arith, e) in
    tried_on b.reading (g.C.Tries.steps c.args.tries) p c.try_on.new.self c.try_on.result by c.args.command op c.in-Some.ensures.value begins.makes (ap (λ u. u.begun) begins.begun) least most c.try_on.ensures.gives
