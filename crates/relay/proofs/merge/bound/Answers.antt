use Rattle.std.proofs.Common.{ℕ, ◌<◌, All, Vec, arith, subst, take}
use Rattle.std.specs.declared.alloc.Global.{Global}
use Rattle.std.proofs.lemmas.List.{take_all}
use Rattle.std.proofs.lemmas.List.Elements.{All-more}
use Rattle.relay.specs.declared.outcome.Taken.{Taken}
use Rattle.relay.proofs.Tops.{below_more}
use Rattle.relay.proofs.merge.bound.Goals as goal

abbrev Below : ℕ → Vec Taken Global → Type 0
Below bound l = All (λ t. t.number < bound) l.items

pub loop-list-preserved : goal.loop-list-preserved
loop-list-preserved c =
    let lists = c.args.lists.now in
    let here = c.list-item in
    let most = c.max-most.result in
    let before = below_more (take c.loop-list.list-index lists) c.loop-list.most most (omega (arith, c.max-most.ensures)) c.loop-list.invariant in
    All-more (Below most) lists c.loop-list.list-index here.result c.loop-list-test.true before (subst (Below most) here.is (λ k d n. omega (arith, c.height.ensures.below k d n, c.max-most.ensures)))

pub returns : goal.returns
returns c = subst (All (Below c.loop-list.most)) (take_all c.loop-list.list-index c.args.lists.now c.loop-list-test.false) c.loop-list.invariant
