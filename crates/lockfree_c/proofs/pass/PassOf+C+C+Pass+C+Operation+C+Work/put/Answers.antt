use Rattle.std.proofs.Common.{refl, subst}
use Rattle.bounded_model.specs.declared.answers.Stepped.TheVariants.{Again, Done}
use Rattle.bounded_model.specs.declared.commands.Command.TheVariants.{Put}
use Rattle.lockfree_c.specs.Calls.{TookAtLeast, TookAtMost, TriedFrom}
use Rattle.lockfree_c.specs.Passes.{GoesOn}
use Rattle.lockfree_c.specs.declared.work.UnderWay.TheVariants.{Call}
use Rattle.lockfree_c.proofs.Shared.{at_least, ended, tried_on}
use Rattle.lockfree_c.proofs.Stays.{is_in}
use Rattle.lockfree_c.proofs.pass.PassOf+C+C+Pass+C+Operation+C+Work.put.Goals as goal

pub returns-in-Done-clause-gives : goal.returns-in-Done-clause-gives
returns-in-Done-clause-gives g c =
    let b = g.C.Handled in
    let p = c.args.self.now in
    let by = c.in-Some.by in
    let made = Done c.in-Done.by c.in-Done.said in
    let tried = subst (λ on. TriedFrom (b.reading on) ((b.reading on).pass by) (Put c.args.value) made) c.deref.ensures c.in-Done.ensures.tried in
    let most = subst (λ on. TookAtMost (b.reading on) ((b.reading on).at_once (Put c.args.value)) ((b.reading on).pass by) made) c.deref.ensures c.in-Done.ensures.most in
    ended b.reading (g.C.Tries.steps c.args.tries) p (record p { stage = c.rest.new.self }) c.rest.result by (Put c.args.value) c.in-Done.by c.in-Done.said c.in-Some.ensures.value refl tried most c.rest.ensures

pub go_on-requires : goal.go_on-requires
go_on-requires g c =
    let b = g.C.Handled in
    let by = c.in-Some.by in
    let made = Again c.in-Again.operation in
    let tried = subst (λ on. TriedFrom (b.reading on) ((b.reading on).pass by) (Put c.args.value) made) c.deref.ensures c.in-Again.ensures.tried in
    is_in (b.reading c.args.self.now.container.value) (record c.args.self.now.stage { resting = c.take.new.self; under_way = c.replace.new.dest }) (Call c.in-Again.operation) (c.take.ensures.after, c.replace.ensures.after) ((Put c.args.value), tried.0)

pub returns-in-Again-clause-gives : goal.returns-in-Again-clause-gives
returns-in-Again-clause-gives g c =
    let b = g.C.Handled in
    let by = c.in-Some.by in
    let made = Again c.in-Again.operation in
    let tried = subst (λ on. TriedFrom (b.reading on) ((b.reading on).pass by) (Put c.args.value) made) c.deref.ensures c.in-Again.ensures.tried in
    let took = subst (λ on. TookAtLeast (b.reading on) 0 ((b.reading on).pass by) made) c.deref.ensures c.in-Again.ensures.took in
    let most = subst (λ on. TookAtMost (b.reading on) ((b.reading on).at_once (Put c.args.value)) ((b.reading on).pass by) made) c.deref.ensures c.in-Again.ensures.most in
    let n = g.C.Tries.steps c.args.tries in
    let p = c.args.self.now in
    let went = subst (λ u. GoesOn b.reading u c.args.tries n (record p { stage = record p.stage { resting = c.take.new.self; under_way = c.replace.new.dest } }) c.go_on.new.self c.go_on.result) c.replace.ensures.after c.go_on.ensures.gives in
    tried_on b.reading (g.C.Tries.steps c.args.tries) c.args.self.now c.go_on.new.self c.go_on.result by (Put c.args.value) c.in-Again.operation c.in-Some.ensures.value tried.0 tried.1 (at_least _ _ took) most went
