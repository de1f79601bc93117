use Rattle.std.proofs.Common.{◌≡◌, ℕ, ◌+◌, ◌≤◌, List, refl, sym, ap, subst, ◌∙◌, arith}
use Rattle.bounded_model.specs.declared.answers.Stepped.TheVariants.{Again, Done}
use Rattle.bounded_model.specs.declared.views.PassView.{PassView}
use Rattle.bounded_model.specs.Calls.{CallGives}
use Rattle.bounded_model.specs.Stepping.{Underway}
use Rattle.player.specs.Plays.{Resting, Acting, MakesSteps, steps_since}
use Rattle.player.specs.Shows.{StepOf, reading_of}
use Rattle.player.proofs.Lines.{number_is, step_joined}
use Rattle.player.proofs.Showing.{makes_more, since_more}
use Rattle.player.proofs.Tracing.{traces_more}
use Rattle.player.proofs.acts.make_steps.Goals as goal

pub loop-made-preserved : goal.loop-made-preserved
loop-made-preserved g c =
    let r = reading_of g.C.Container g.C.Stepwise c.args.container.now in
    let is_step = g.C.Named.is_step in
    let i = c.loop-made.invariant in
    let one = rw c.in-Again.is at c.in_ok-next.ensures.gives i.some.0 i.some.1 in
    record {
      few = omega arith;
      some = (i.some.0, one.0);
      same = λ call was. (rw c.in-Again.is at c.in_ok-next.ensures.gives call (i.same call was)).0;
      begun = one.1.begun ∙ i.begun;
      makes = makes_more _ _ _ _ i.makes one.1.step;
      traced = λ start. traces_more _ _ _ _ _ _ (i.traced start) (rw c.in-Again.is at c.in_ok-next.ensures.traced)
          (λ xs ys so_far new call making.
          let step : StepOf r call c.loop-made.operation (Again c.in-Again.next) = rw c.in-Again.is at c.in_ok-next.ensures.gives call (i.same call making) in
          let counted = number_is r call c.loop-made.operation (Again c.in-Again.next) (r.made c.args.begun.operation).begun (r.made c.args.begun.operation).now c.args.begun.steps c.loop-made.made _ step i.begun i.makes.steps start.0 start.1 c.saturating_add-number.ensures in
          step_joined r is_step _ _ call _ c.loop-made.operation (Again c.in-Again.next) _ xs ys (i.traced start).pass counted step (so_far call making) new);
    }

pub returns-in-Done-clause-told : goal.returns-in-Done-clause-told
returns-in-Done-clause-told g c call u shows =
    let r = reading_of g.C.Container g.C.Stepwise c.args.container.now in
    let i = c.loop-made.invariant in
    let done = rw c.in-Done.is at c.in_ok-next.ensures.gives call (i.same call shows.0) in
    let w = r.pass c.in-Done.pass in
    let makes : MakesSteps (c.loop-made.made + 1) u.now w = rw shows.1 (makes_more _ _ _ _ i.makes done.1) in
    let begun : (r.made c.loop-made.operation).begun ≡ u.begun = i.begun ∙ ap (λ (v : Underway (List ℕ)). v.begun) (sym shows.1) in
    let gives : CallGives r.shape u.begun call w c.in-Done.reply = subst (λ (v : PassView (List ℕ)). CallGives r.shape v call w c.in-Done.reply) begun done.2 in (
      Resting w,
      (done.0, refl),
      (
        record { made = c.loop-made.made + 1; some = omega arith; at_most = omega arith; makes = makes },
        gives,
        since_more _ (c.loop-made.made + 1) u.begun u.now w _ shows.2 shows.3 makes.steps c.saturating_add-number.ensures,
      ),
    )

pub returns-clause-told : goal.returns-clause-told
returns-clause-told g c call u shows =
    let r = reading_of g.C.Container g.C.Stepwise c.args.container.now in
    let i = c.loop-made.invariant in
    let all : c.loop-made.made ≡ c.args.count = omega arith in
    let w = r.made c.loop-made.operation in
    let makes : MakesSteps c.loop-made.made u.now w.now = rw shows.1 i.makes in
    let begun : w.begun ≡ u.begun = i.begun ∙ ap (λ (v : Underway (List ℕ)). v.begun) (sym shows.1) in
    let told : c.saturating_add-steps.result ≡ steps_since w.begun w.now = rw begun (since_more _ c.loop-made.made u.begun u.now w.now _ shows.2 shows.3 makes.steps c.saturating_add-steps.ensures) in
    let later : w.begun.steps ≤ w.now.steps = rw begun (omega (arith, makes.steps, shows.3)) in
    (Acting call w, (i.same call shows.0, refl, told, later), (refl, begun, rw (sym all) makes, told))

pub returns-in-Done-clause-traced : goal.returns-in-Done-clause-traced
returns-in-Done-clause-traced g c start =
    let r = reading_of g.C.Container g.C.Stepwise c.args.container.now in
    let i = c.loop-made.invariant in
    let end = Done c.in-Done.pass c.in-Done.reply in
    traces_more _ _ _ _ _ _ (i.traced start) (rw c.in-Done.is at c.in_ok-next.ensures.traced)
    (λ xs ys so_far new call making.
    let step : StepOf r call c.loop-made.operation end = rw c.in-Done.is at c.in_ok-next.ensures.gives call (i.same call making) in
    let counted = number_is r call c.loop-made.operation end (r.made c.args.begun.operation).begun (r.made c.args.begun.operation).now c.args.begun.steps c.loop-made.made _ step i.begun i.makes.steps start.0 start.1 c.saturating_add-number.ensures in
    step_joined r g.C.Named.is_step _ _ call _ c.loop-made.operation end _ xs ys (i.traced start).pass counted step (so_far call making) new)
