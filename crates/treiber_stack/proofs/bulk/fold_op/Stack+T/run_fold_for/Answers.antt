use Rattle.std.proofs.Common.{refl, sym, ap, ◌∙◌, subst}
use Rattle.stack_table.specs.declared.operation.Operation.{Operation}
use Rattle.stack_table.specs.declared.operation.Operation.TheVariants.{Fold as FoldFirst}
use Rattle.running.specs.Steps.{Stops}
use Rattle.treiber_stack.specs.code.Folding.{fold_account}
use Rattle.treiber_stack.specs.code.Machine.{no_rule}
use Rattle.treiber_stack.specs.Calls.{machine_of, begun_of}
use Rattle.treiber_stack.proofs.Folds.{hands_on, all_gone, none_taken, same_gone, front_same}
use Rattle.treiber_stack.proofs.bulk.fold_op.Stack+T.run_fold_for.Goals as goal

pub try_for-requires-clause-ran : goal.try_for-requires-clause-ran
try_for-requires-clause-ran g c = let is = c.requires.2.under_way in (c.args.fold.pass, (is.stands, is.named, (refl, λ w n. n)))

pub returns-in-Again-clause-tried : goal.returns-in-Again-clause-tried
returns-in-Again-clause-tried g c = λ front values is.
    let stack = c.args.self.now in
    let op = c.args.fold in
    let e = c.in-Again.ensures in
    let r = e.ran op.pass (is.under_way.stands, is.under_way.named, (refl, λ w n. n)) in (
      record {
        under_way = record { named = r.1; stands = r.0 };
        from = front_same _ _ (sym r.1 ∙ is.under_way.named) ∙ is.from;
        handed = same_gone stack op.at c.in-Again.at r.0.knows (e.told op.at (λ a t. t)) ∙ is.handed;
      },
      r.2.0,
    )

pub returns-in-Yields-clause-tried : goal.returns-in-Yields-clause-tried
returns-in-Yields-clause-tried g c = λ front values is.
    let stack = c.args.self.now in
    let op = c.args.fold in
    let e = c.in-Done.ensures in
    let stops = subst (λ (o : Operation _). Stops (machine_of stack) (fold_account stack.table.shared.key) stack.table.shared.table_id o (begun_of stack op.pass) c.in-Done.pass c.in-Done.stop) (is.under_way.named ∙ ap FoldFirst is.from) (e.ran op.pass (is.under_way.stands, is.under_way.named, (refl, λ w n. n))).0 in
    hands_on no_rule stack front values op is c.in-Done.pass c.in-Done.stop stops (e.told op.at (λ a t. t)) c.in-Yields.value c.in-Yields.at c.in-Yields.is

pub returns-in-Ended-clause-tried : goal.returns-in-Ended-clause-tried
returns-in-Ended-clause-tried g c = λ front values is.
    let stack = c.args.self.now in
    let op = c.args.fold in
    let e = c.in-Done.ensures in
    let stops = subst (λ (o : Operation _). Stops (machine_of stack) (fold_account stack.table.shared.key) stack.table.shared.table_id o (begun_of stack op.pass) c.in-Done.pass c.in-Done.stop) (is.under_way.named ∙ ap FoldFirst is.from) (e.ran op.pass (is.under_way.stands, is.under_way.named, (refl, λ w n. n))).0 in
    all_gone no_rule stack front values op is c.in-Done.pass c.in-Done.stop stops (e.told op.at (λ a t. t)) c.in-Ended.batch c.in-Ended.count c.in-Ended.is

pub returns-in-Refused-clause-tried : goal.returns-in-Refused-clause-tried
returns-in-Refused-clause-tried g c = λ front values is.
    let stack = c.args.self.now in
    let op = c.args.fold in
    let e = c.in-Done.ensures in
    let stops = subst (λ (o : Operation _). Stops (machine_of stack) (fold_account stack.table.shared.key) stack.table.shared.table_id o (begun_of stack op.pass) c.in-Done.pass c.in-Done.stop) (is.under_way.named ∙ ap FoldFirst is.from) (e.ran op.pass (is.under_way.stands, is.under_way.named, (refl, λ w n. n))).0 in
    none_taken no_rule stack front values op is c.in-Done.pass c.in-Done.stop stops (e.told op.at (λ a t. t)) c.in-Refused.why c.in-Refused.is

pub returns-in-Again-clause-took : goal.returns-in-Again-clause-took
returns-in-Again-clause-took g c = c.in-Again.ensures.took

pub returns-in-Yields-clause-took : goal.returns-in-Yields-clause-took
returns-in-Yields-clause-took g c = c.in-Done.ensures.took

pub returns-in-Ended-clause-took : goal.returns-in-Ended-clause-took
returns-in-Ended-clause-took g c = c.in-Done.ensures.took

pub returns-in-Refused-clause-took : goal.returns-in-Refused-clause-took
returns-in-Refused-clause-took g c = c.in-Done.ensures.took
