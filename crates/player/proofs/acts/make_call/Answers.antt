use Rattle.std.proofs.Common.{◌≡◌, refl, ◌∙◌, arith}
use Rattle.bounded_model.specs.declared.answers.Stepped.TheVariants.{Again, Done}
use Rattle.player.specs.Shows.{StepOf, reading_of}
use Rattle.player.specs.Traces.{number_of}
use Rattle.player.proofs.Lines.{number_is, step_joined}
use Rattle.player.proofs.Showing.{since_none}
use Rattle.player.proofs.Tracing.{traces_more, traces_nothing}
use Rattle.player.proofs.acts.make_call.Goals as goal

pub loop-init : goal.loop-init
loop-init g c =
    let r = reading_of g.C.Container g.C.Stepwise c.args.container.now in
    let begun = c.begin-operation.ensures.begun in
    record {
      can = tt;
      finite = tt;
      making = c.begin-operation.ensures.call;
      begun = rw begun refl;
      counted = rw begun (since_none (r.pass c.args.by));
      later = rw begun (omega arith);
      traced = traces_nothing _ _ (c.begin-operation.result, c.begin-operation.ensures.call, begun, refl);
    }

pub loop-preserved : goal.loop-preserved
loop-preserved g c =
    let r = reading_of g.C.Container g.C.Stepwise c.args.container.now in
    let is_step = g.C.Named.is_step in
    let i = c.loop.invariant in
    let was = c.loop.operation in
    let now = c.in-Again.next in
    let step : StepOf r c.args.command was (Again now) = rw c.in-Again.is at c.in_ok-next.ensures.gives c.args.command i.making in
    let counted : c.saturating_add-made.result ≡ number_of r was (Again now) = number_is r c.args.command was (Again now) (r.made was).begun (r.made was).now c.loop.made 0 _ step refl (omega arith) i.counted i.later c.saturating_add-made.ensures in
    record {
      can = tt;
      finite = tt;
      making = step.0;
      begun = step.1.begun ∙ i.begun;
      counted = rw step.1.begun counted;
      later = rw step.1.begun (omega (arith, i.later, step.1.step.steps));
      traced = traces_more _ _ _ _ _ _ i.traced (rw c.in-Again.is at c.in_ok-next.ensures.traced)
          (λ xs ys first new. (first.0, first.1, first.2, step_joined r is_step _ _ c.args.command _ was (Again now) _ xs ys i.traced.pass counted step first.3 new));
    }

pub returns-in-Done-clause-traced : goal.returns-in-Done-clause-traced
returns-in-Done-clause-traced g c =
    let r = reading_of g.C.Container g.C.Stepwise c.args.container.now in
    let is_step = g.C.Named.is_step in
    let i = c.loop.invariant in
    let was = c.loop.operation in
    let end = Done c.in-Done.pass c.in-Done.reply in
    let step : StepOf r c.args.command was end = rw c.in-Done.is at c.in_ok-next.ensures.gives c.args.command i.making in
    let counted : c.saturating_add-made.result ≡ number_of r was end = number_is r c.args.command was end (r.made was).begun (r.made was).now c.loop.made 0 _ step refl (omega arith) i.counted i.later c.saturating_add-made.ensures in
    traces_more _ _ _ _ _ _ i.traced (rw c.in-Done.is at c.in_ok-next.ensures.traced)
    (λ xs ys first new. record {
      operation = first.0;
      making = first.1;
      begun = first.2;
      steps = step_joined r is_step _ _ c.args.command _ was end _ xs ys i.traced.pass counted step first.3 new;
    })
