use Rattle.std.proofs.Common.{◌≡◌, ℕ, List, [], ap, refl, sym, subst}
use Rattle.bounded_model.specs.Stepping.{Underway, no_step}
use Rattle.index_list.specs.declared.front.Front.{Front}
use Rattle.running.specs.Ops.{underway_of}
use Rattle.running.specs.Kept.{pass_in}
use Rattle.running.specs.Passes.{pass_in as pass_now}
use Rattle.treiber_stack.specs.Bulk.{IsFolding}
use Rattle.treiber_stack.specs.Calls.{begun_of, machine_of}
use Rattle.lockfree_c.specs.Bulk.{front_from}
use Rattle.lockfree_c.specs.Stacks.{FoldTried, Folded, WorkedAtMost, bulk_steps, stack_reading}
use Rattle.lockfree_c.proofs.Shared.{began}
use Rattle.lockfree_c.proofs.Stays.{settles}
use Rattle.lockfree_c.proofs.Works.{fold_worked}
use Rattle.lockfree_c.proofs.bulk.StackPass.fold.Goals as goal

pub fold_on-made-requires : goal.fold_on-made-requires
fold_on-made-requires c =
    let front = front_from c.args.reversed in
    let begun = subst (λ on. IsFolding on front [] c.first-op.result) c.deref.ensures c.first-op.ensures.0 in
    (front, [], subst (λ on. IsFolding on front [] c.first-op.result) (sym c.deref-in-Some.ensures) begun)

-- it makes no step before it is tried
begun_now : (c : goal.After-settle) → pass_now c.first-op.result.pass ≡ pass_in c.in-Some.by
begun_now c = ap (λ (u : Underway _). u.now) c.first-op.ensures.1

-- what it came to, from what the pass had seen, and in how many steps
tried : (c : goal.After-settle) → FoldTried c.args.self.now.container.value (front_from c.args.reversed) [] (pass_in c.in-Some.by) c.fold_on-made.result
tried c =
    let front = front_from c.args.reversed in
    let stack = c.args.self.now.container.value in
    let op = c.first-op.result in
    let made = c.fold_on-made.result in
    let begun = subst (λ on. IsFolding on front [] op × (underway_of (machine_of on) op.pass ≡ no_step (pass_in c.in-Some.by))) c.deref.ensures c.first-op.ensures in
    let went = subst (λ on. (from : Front) (values : List ℕ) → IsFolding on from values op → FoldTried on from values (begun_of on op.pass) made) c.deref-in-Some.ensures c.fold_on-made.ensures.tried in
    subst (λ v. FoldTried stack front [] v made) (ap (λ (u : Underway _). u.begun) begun.1) (went front [] begun.0)

took : (c : goal.After-settle) → WorkedAtMost (bulk_steps c.args.tries) (pass_in c.in-Some.by) c.fold_on-made.result
took c = subst (λ v. WorkedAtMost (bulk_steps c.args.tries) v c.fold_on-made.result) (begun_now c) c.fold_on-made.ensures.took

pub returns-in-Some-clause-of : goal.returns-in-Some-clause-of
returns-in-Some-clause-of c =
    let stack = c.args.self.now.container.value in
    settles (stack_reading stack) c.fold_on-made.result c.settle.new.self c.settle.result
    (fold_worked stack [] (pass_in c.in-Some.by) (front_from c.args.reversed) c.fold_on-made.result (tried c)) c.settle.ensures

pub returns-in-Some-clause-gives : goal.returns-in-Some-clause-gives
returns-in-Some-clause-gives c =
    let p = c.args.self.now in
    began stack_reading (Folded p.container.value c.args.tries (front_from c.args.reversed)) p (record p { stage = c.settle.new.self }) c.settle.result c.in-Some.by c.in-Some.ensures.value refl
    (c.fold_on-made.result, (tried c, took c), c.settle.ensures)
