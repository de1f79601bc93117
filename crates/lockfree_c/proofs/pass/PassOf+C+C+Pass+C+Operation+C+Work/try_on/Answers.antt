use Rattle.std.proofs.Common.{refl, subst}
use Rattle.lockfree_c.specs.Calls.{TookFor, Tried}
use Rattle.lockfree_c.proofs.Stays.{tries_on}
use Rattle.lockfree_c.proofs.pass.PassOf+C+C+Pass+C+Operation+C+Work.try_on.Goals as goal

pub returns-clause-of : goal.returns-clause-of
returns-clause-of g c =
    let b = g.C.Handled in
    let p = c.args.self.now in
    let op = c.args.operation in
    let made = c.try_on-made.result in
    let tried = subst (λ on. Tried (b.reading on) op made) c.deref.ensures c.try_on-made.ensures.tried in
    tries_on (b.reading p.container.value) op made c.leave.new.self c.leave.result c.requires.made tried c.leave.ensures

pub returns-clause-gives : goal.returns-clause-gives
returns-clause-gives g c =
    let b = g.C.Handled in
    let op = c.args.operation in
    let made = c.try_on-made.result in
    let n = g.C.Tries.steps c.args.tries in
    let tried = subst (λ on. Tried (b.reading on) op made) c.deref.ensures c.try_on-made.ensures.tried in
    let took = subst (λ on. TookFor (b.reading on) n op made) c.deref.ensures c.try_on-made.ensures.took in
    (refl, (made, tried, took, c.leave.ensures))
