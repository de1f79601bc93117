use Rattle.std.proofs.Common.{refl, subst}
use Rattle.lockfree_c.proofs.Shared.{began}
use Rattle.lockfree_c.proofs.pass.PassOf+C+C+Pass+C+Operation+C+Work.count.Goals as goal

pub returns-in-Some-clause-gives : goal.returns-in-Some-clause-gives
returns-in-Some-clause-gives g c =
    let b = g.C.Handled in
    let p = c.args.self.now in
    let made = c.count_for-made in
    let gives = subst (λ on. g.C.Counts.counts on c.args.tries ((b.reading on).pass c.in-Some.by) made.result) c.deref.ensures made.ensures.gives in
    began b.reading (g.C.Counts.counts p.container.value c.args.tries) p (record p { stage = c.settle.new.self }) c.settle.result c.in-Some.by c.in-Some.ensures.value refl (made.result, gives, c.settle.ensures)
