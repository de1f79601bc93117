use Rattle.std.proofs.Common.{refl, subst}
use Rattle.lockfree_c.specs.Passes.{GoesOn}
use Rattle.lockfree_c.proofs.pass.PassOf+C+C+Pass+C+Operation+C+Work.go_on.Goals as goal

pub returns-in-Work-clause-gives : goal.returns-in-Work-clause-gives
returns-in-Work-clause-gives g c =
    let b = g.C.Handled in
    let p = c.args.self.now in
    let n = g.C.Tries.steps c.args.tries in
    let made = c.work_on-made in
    let gives = subst (λ on. (b.reading on).works_on c.args.tries c.in-Work.work made.result) c.deref.ensures made.ensures.gives in
    subst (λ u. GoesOn b.reading u c.args.tries n p (record p { stage = c.settle.new.self }) c.settle.result) c.in-Work.ensures.value (refl, (made.result, gives, c.settle.ensures))
