use Rattle.std.proofs.Common.{[], ◌∷◌, ◌++◌, ◌+◌, length, length-append, refl, sym, ap, ◌∙◌, subst, arith}
use Rattle.tagged_index.specs.Limits.{capacity_of}
use Rattle.bounded_model.specs.declared.views.PassView.{PassView}
use Rattle.bounded_model.specs.Bulk.{FoldAnswers}
use Rattle.bounded_model.specs.Laws.{TakesNothing, FoldGives}
use Rattle.running.proofs.Ways.{started, begun_is}
use Rattle.stack_table.specs.Lines.{direction}
use Rattle.stack_table.proofs.Laws.{lawful}
use Rattle.stack_table.specs.declared.operation.Operation.TheVariants.{Fold as FoldFirst}
use Rattle.std.specs.Prelude.{Ok, Err}
use Rattle.stack_machine.specs.Deeds.{in_order}
use Rattle.stack_machine.specs.declared.lines.Answer.TheVariants.{Fold as AnswerFold}
use Rattle.treiber_stack.specs.Calls.{WasRunWith, WasFoldedWith, machine_with, room_of, limit_of, shape_of, pass_in}
use Rattle.treiber_stack.specs.code.Steps.{as_pass}
use Rattle.treiber_stack.proofs.Folds.{Folds_more, folds_same, hands_on, all_gone, all_answered, none_answered, all_ran, none_ran, none_taken, gone_few}
use Rattle.treiber_stack.proofs.bulk.folding.fold.Goals as goal

pub loop-done-init : goal.loop-done-init
loop-done-init g c =
    let stack = c.args.on.now in
    let id = stack.table.shared.table_id in (
      [],
      record {
        under_way = record { named = refl; stands = record { at = started (lawful (room_of stack) (limit_of stack) g.D.Tie.rule g.D.Tie.is_tie) id (FoldFirst c.args.front) c.args.by.pass c.requires.pass.on c.requires.deal; knows = tt } };
        from = refl;
        handed = refl;
      },
      refl,
      begun_is (machine_with g.D.Tie.rule stack) id c.args.by.pass c.requires.pass.on,
      refl,
    )

pub any-first-requires-clause-named : goal.any-first-requires-clause-named
any-first-requires-clause-named g c = c.loop-done.invariant.1.under_way.named

pub any-first-requires-clause-stands : goal.any-first-requires-clause-stands
any-first-requires-clause-stands g c = c.loop-done.invariant.1.under_way.stands

pub to_the_end-back-requires-clause-ran : goal.to_the_end-back-requires-clause-ran
to_the_end-back-requires-clause-ran g c = (c.loop-done.pass, c.any-first.ensures.ran)

pub loop-done-preserved : goal.loop-done-preserved
loop-done-preserved g c =
    let l = c.loop-done in
    let i = l.invariant in
    let e = c.to_the_end-back.ensures in
    let y = c.in-Yields in
    let on = hands_on g.D.Tie.rule c.args.on.now c.args.front i.0 (record { pass = l.pass; operation = FoldFirst c.args.front; at = l.at }) i.1 c.to_the_end-back.result.0 c.to_the_end-back.result.1 (e.stops l.pass c.any-first.ensures.ran) (e.told l.at c.any-first.ensures.told) y.value y.next y.is in
    (i.0 ++ y.value ∷ [], on.0, length-append i.0 (y.value ∷ []) ∙ ap (λ k. k + 1) i.2, on.1 ∙ i.3, Folds_more _ _ i.0 _ _ y.value i.4 c.f-folded.ensures)

pub returns-in-Ended-clause-of : goal.returns-in-Ended-clause-of
returns-in-Ended-clause-of g c =
    let l = c.loop-done in
    let e = c.to_the_end-back.ensures in
    (all_gone g.D.Tie.rule c.args.on.now c.args.front l.invariant.0 (record { pass = l.pass; operation = FoldFirst c.args.front; at = l.at }) l.invariant.1 c.to_the_end-back.result.0 c.to_the_end-back.result.1 (e.stops l.pass c.any-first.ensures.ran) (e.told l.at c.any-first.ensures.told) c.in-Ended.batch c.in-Ended.count c.in-Ended.is).0

pub returns-in-Ended-clause-gives : goal.returns-in-Ended-clause-gives
returns-in-Ended-clause-gives g c =
    let l = c.loop-done in
    let i = l.invariant in
    let e = c.to_the_end-back.ensures in
    let back = c.to_the_end-back.result.0 in
    let b = c.in-Ended.batch in
    let all = (all_gone g.D.Tie.rule c.args.on.now c.args.front i.0 (record { pass = l.pass; operation = FoldFirst c.args.front; at = l.at }) i.1 back c.to_the_end-back.result.1 (e.stops l.pass c.any-first.ensures.ran) (e.told l.at c.any-first.ensures.told) b c.in-Ended.count c.in-Ended.is).1 in
    (all.0, subst (λ (v : PassView _). FoldGives v (pass_in (as_pass back)) all.0 b.number) i.3 all.1, all.2, folds_same _ _ _ _ _ all.3 i.4)

pub returns-in-Ended-clause-ran : goal.returns-in-Ended-clause-ran
returns-in-Ended-clause-ran g c =
    let stack = c.args.on.now in
    let l = c.loop-done in
    let i = l.invariant in
    let e = c.to_the_end-back.ensures in
    let back = c.to_the_end-back.result.0 in
    let b = c.in-Ended.batch in
    let ran = all_ran g.D.Tie.rule stack c.args.front i.0 (record { pass = l.pass; operation = FoldFirst c.args.front; at = l.at }) i.1 back c.to_the_end-back.result.1 (e.stops l.pass c.any-first.ensures.ran) (e.told l.at c.any-first.ensures.told) b c.in-Ended.count c.in-Ended.is in
    subst (λ (v : PassView _). WasFoldedWith g.D.Tie.rule stack (FoldFirst c.args.front) v (as_pass back) c.args.front (Ok (record { number = b.number; count = c.in-Ended.count }))) i.3 ran

pub returns-in-Refused-clause-of : goal.returns-in-Refused-clause-of
returns-in-Refused-clause-of g c =
    let l = c.loop-done in
    let e = c.to_the_end-back.ensures in
    (none_taken g.D.Tie.rule c.args.on.now c.args.front l.invariant.0 (record { pass = l.pass; operation = FoldFirst c.args.front; at = l.at }) l.invariant.1 c.to_the_end-back.result.0 c.to_the_end-back.result.1 (e.stops l.pass c.any-first.ensures.ran) (e.told l.at c.any-first.ensures.told) c.in-Refused.why c.in-Refused.is).0

pub returns-in-Refused-clause-gives : goal.returns-in-Refused-clause-gives
returns-in-Refused-clause-gives g c =
    let stack = c.args.on.now in
    let l = c.loop-done in
    let i = l.invariant in
    let e = c.to_the_end-back.ensures in
    let back = c.to_the_end-back.result.0 in
    let none = (none_taken g.D.Tie.rule stack c.args.front i.0 (record { pass = l.pass; operation = FoldFirst c.args.front; at = l.at }) i.1 back c.to_the_end-back.result.1 (e.stops l.pass c.any-first.ensures.ran) (e.told l.at c.any-first.ensures.told) c.in-Refused.why c.in-Refused.is).1 in
    (subst (λ (v : PassView _). TakesNothing (shape_of stack) v (pass_in (as_pass back)) c.in-Refused.why) i.3 none.0, sym (folds_same _ _ _ [] _ none.1 i.4))

pub returns-in-Ended-clause-answered : goal.returns-in-Ended-clause-answered
returns-in-Ended-clause-answered g c =
    let stack = c.args.on.now in
    let l = c.loop-done in
    let i = l.invariant in
    let e = c.to_the_end-back.ensures in
    let back = c.to_the_end-back.result.0 in
    let b = c.in-Ended.batch in
    let answers = all_answered g.D.Tie.rule stack c.args.front i.0 (record { pass = l.pass; operation = FoldFirst c.args.front; at = l.at }) i.1 back c.to_the_end-back.result.1 (e.stops l.pass c.any-first.ensures.ran) (e.told l.at c.any-first.ensures.told) b c.in-Ended.count c.in-Ended.is in
    subst (λ (v : PassView _). FoldAnswers (in_order (direction c.args.front)) (Ok (record { number = b.number; count = c.in-Ended.count })) v (pass_in (as_pass back))) i.3 answers

pub returns-in-Refused-clause-answered : goal.returns-in-Refused-clause-answered
returns-in-Refused-clause-answered g c =
    let stack = c.args.on.now in
    let l = c.loop-done in
    let i = l.invariant in
    let e = c.to_the_end-back.ensures in
    let back = c.to_the_end-back.result.0 in
    let answers = none_answered g.D.Tie.rule stack c.args.front i.0 (record { pass = l.pass; operation = FoldFirst c.args.front; at = l.at }) i.1 back c.to_the_end-back.result.1 (e.stops l.pass c.any-first.ensures.ran) (e.told l.at c.any-first.ensures.told) c.in-Refused.why c.in-Refused.is in
    subst (λ (v : PassView _). FoldAnswers (in_order (direction c.args.front)) (Err c.in-Refused.why) v (pass_in (as_pass back))) i.3 answers

pub returns-in-Refused-clause-ran : goal.returns-in-Refused-clause-ran
returns-in-Refused-clause-ran g c =
    let stack = c.args.on.now in
    let l = c.loop-done in
    let i = l.invariant in
    let e = c.to_the_end-back.ensures in
    let back = c.to_the_end-back.result.0 in
    let ran = none_ran g.D.Tie.rule stack c.args.front i.0 (record { pass = l.pass; operation = FoldFirst c.args.front; at = l.at }) i.1 back c.to_the_end-back.result.1 (e.stops l.pass c.any-first.ensures.ran) (e.told l.at c.any-first.ensures.told) c.in-Refused.why c.in-Refused.is in
    subst (λ (v : PassView _). WasRunWith g.D.Tie.rule stack (FoldFirst c.args.front) v (as_pass back) (AnswerFold (Err c.in-Refused.why))) i.3 ran

pub unreachable-requires : goal.unreachable-requires
unreachable-requires g c =
    let i = c.loop-done.invariant in
    let few = gone_few c.args.on.now c.loop-done.at i.1.under_way.stands.knows in
    let long = ap length i.1.handed ∙ i.2 in
    let high = c.loop-done-test.false in
    let most = c.capacity-done-end.ensures in
    let same = ap capacity_of c.args.on.now.keyed in
    absurd (omega arith)
