use Rattle.std.proofs.Common.{◌≡◌, ℕ, ◌+◌, ◌-◌, ◌≤◌, List, refl, sym, ap, ◌∙◌, subst, arith}
use Rattle.std.specs.Prelude.{Option as Slot}
use Rattle.machine.specs.Seats.{pass_of}
use Rattle.machine.specs.declared.seats.View.{View}
use Rattle.running.specs.Passes.{pass_in}
use Rattle.running.specs.declared.passes.Pass.{Pass}
use Rattle.treiber_stack.specs.code.Ranging.{IsRestoring}
use Rattle.treiber_stack.specs.Calls.{begun_with}
use Rattle.treiber_stack.proofs.Restoring.{restore_start, restore_full, restore_low, value, came_out, restore_last, restore_next, restore_done}
use Rattle.treiber_stack.proofs.bulk.loading.restore.Goals.{then-place-gt0, else-place-gt0}
use Rattle.treiber_stack.proofs.bulk.loading.restore.Goals as goal

-- a value that comes out is no step
none_more : {T L : Type 0} (p q : Pass T L) (slots : List (ℕ × Slot T)) → q.seat.me ≡ (p.seat.me.0, slots) → (pass_in q).steps ≡ (pass_in p).steps
none_more {T} {L} p q slots e = ap (λ (me : View T L × List (ℕ × Slot T)). (pass_of me.0).steps) e

pub loop-moved-init : goal.loop-moved-init
loop-moved-init g c = ((λ o vs why f left. (restore_start g.D.Tie.rule c.args.on.now o vs c.args.held why c.args.by f, (c.args.held.count, omega arith, left), refl)), omega arith, refl)

pub take_out-value-requires-clause-table : goal.take_out-value-requires-clause-table
take_out-value-requires-clause-table g c =
    let r = c.requires in
    (c.loop-moved.invariant.0 r.0 r.1 r.2 r.3 r.4).0.at.table

pub take_out-value-requires-clause-full : goal.take_out-value-requires-clause-full
take_out-value-requires-clause-full g c =
    let stack = c.args.on.now in
    let r = c.requires in
    let i = c.loop-moved.invariant.0 r.0 r.1 r.2 r.3 r.4 in
    let here = c.loop-moved-test.true in
    let place : ℕ = c.args.held.count - 1 - c.loop-moved.moved in
    let is : place + (1 + c.loop-moved.moved) ≡ c.args.held.count = omega arith in
    (value g.D.Tie.rule stack r.0 r.1 c.args.held r.2 c.loop-moved.pass c.loop-moved.moved c.loop-moved.index i.0 here place is, restore_full g.D.Tie.rule stack r.0 r.1 c.args.held r.2 c.loop-moved.pass c.loop-moved.moved c.loop-moved.index i.0 here place is)

pub put_back-requires : goal.put_back-requires
put_back-requires g c =
    let r = c.requires in
    let i = c.loop-moved.invariant.0 r.0 r.1 r.2 r.3 r.4 in
    let here = c.loop-moved-test.true in
    let place : ℕ = c.args.held.count - 1 - c.loop-moved.moved in
    let is : place + (1 + c.loop-moved.moved) ≡ c.args.held.count = omega arith in
    let all = i.1.1 in
    let one : i.1.0 ≡ place + 1 = omega arith in
    let t = c.take_out-value in (
      r.1,
      came_out g.D.Tie.rule c.args.on.now r.0 r.1 c.args.held r.2 c.loop-moved.pass c.loop-moved.moved c.loop-moved.index i.0 here place is t.new.by t.result t.ensures.table t.ensures.value t.ensures.out,
      subst (λ (k : ℕ). g.V.Source.left c.loop-moved.values r.1 k) one i.1.2,
    )

pub read_again-index-requires : goal.read_again-index-requires
read_again-index-requires g c =
    let r = c.requires in
    let i = c.loop-moved.invariant.0 r.0 r.1 r.2 r.3 r.4 in
    let here = c.loop-moved-test.true in
    let place : ℕ = c.args.held.count - 1 - c.loop-moved.moved in
    let is : place + (1 + c.loop-moved.moved) ≡ c.args.held.count = omega arith in
    (c.take_out-value.ensures.table ∙ i.0.at.table, restore_low g.D.Tie.rule c.args.on.now r.0 r.1 c.args.held r.2 c.loop-moved.pass c.loop-moved.moved c.loop-moved.index i.0 here place is)

pub loop-moved-preserved : goal.loop-moved-preserved
loop-moved-preserved g c = (
  λ o vs why first left.
      let stack = c.args.on.now in
      let held = c.args.held in
      let p = c.loop-moved.pass in
      let i = c.loop-moved.invariant.0 o vs why first left in
      let here = c.loop-moved-test.true in
      let moved : ℕ = c.loop-moved.moved in
      let index : ℕ = c.loop-moved.index in
      let place : ℕ = held.count - 1 - moved in
      let is : place + (1 + moved) ≡ held.count = omega arith in
      let all = i.1.1 in
      let one : i.1.0 ≡ place + 1 = omega arith in
      let t = c.take_out-value in
      let q = t.new.by in
      let x = t.result in
      let back = c.put_back.ensures.back vs (came_out g.D.Tie.rule stack o vs held why p moved index i.0 here place is q x t.ensures.table t.ensures.value t.ensures.out) (subst (λ (k : ℕ). g.V.Source.left c.loop-moved.values vs k) one i.1.2) in
      let Goes : Pass _ _ → ℕ → Type 0 = λ s e. IsRestoring g.D.Tie.rule stack o s vs held why (moved + 1) e × (begun_with g.D.Tie.rule stack s ≡ begun_with g.D.Tie.rule stack c.args.by) in
      let goes : Goes c.if-place-gt0.pass c.if-place-gt0.index = elim c.if-place-gt0.branch [
        | then-place-gt0 w ↦
            let r = w.read_again-index in
            let f = restore_next g.D.Tie.rule stack o vs held why p moved index i.0 here place is q x t.ensures.table t.ensures.value t.ensures.out w.if-place-gt0.true r.result r.new.by r.ensures.seat.0 r.ensures.seat.1 r.ensures.looks r.ensures.link in
            subst (λ s. Goes s c.if-place-gt0.index) (sym w.pass-is) (subst (λ e. Goes r.new.by e) (sym w.index-is) (f.0, f.1 ∙ i.2))
        | else-place-gt0 w ↦
            let flat = w.if-place-gt0.false in
            let f = restore_last g.D.Tie.rule stack o vs held why p moved index i.0 here place is q x t.ensures.table t.ensures.value t.ensures.out (omega arith) in
            subst (λ s. Goes s c.if-place-gt0.index) (sym w.pass-is) (subst (λ e. Goes q e) (sym w.index-is) (f.0, f.1 ∙ i.2))
      ] in
      (goes.0, (place, omega arith, back), goes.1),
  let here = c.loop-moved-test.true in
      let so_far = c.loop-moved.invariant.1 in
      let t = c.take_out-value in
      let same = none_more c.loop-moved.pass t.new.by _ t.ensures.out in
      let Few : Pass _ _ → Type 0 = λ s. (pass_in s).steps ≤ (pass_in c.args.by).steps + (c.loop-moved.moved + 1) in
      elim c.if-place-gt0.branch [
        | then-place-gt0 w ↦
            let r = w.read_again-index in
            let one = r.ensures.took in
            subst Few (sym w.pass-is) (omega (arith, so_far, same, one))
        | else-place-gt0 w ↦ subst Few (sym w.pass-is) (omega (arith, so_far, same))
      ],
  c.put_back.ensures.same ∙ c.loop-moved.invariant.2,
)

pub returns-clause-restored : goal.returns-clause-restored
returns-clause-restored g c o vs why first left =
    let i = c.loop-moved.invariant.0 o vs why first left in
    let past = c.loop-moved-test.false in
    let most = c.loop-moved.auto.moved-end in
    let all : c.loop-moved.moved ≡ c.args.held.count = omega arith in
    let sum = i.1.1 in
    let none : i.1.0 ≡ 0 = omega arith in (
      record {
        chain = i.0.chain;
        has = i.0.has;
        back = restore_done g.D.Tie.rule c.args.on.now o vs c.args.held why c.loop-moved.pass c.loop-moved.moved c.loop-moved.index i.0 all first.some_node;
        begun = i.2;
      },
      subst (λ (k : ℕ). g.V.Source.left c.loop-moved.values vs k) none i.1.2,
    )
