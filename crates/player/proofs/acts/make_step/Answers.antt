use Rattle.std.proofs.Common.{refl}
use Rattle.player.specs.Shows.{reading_of}
use Rattle.player.proofs.Tracing.{traces_line}
use Rattle.player.specs.Traces.{IsNextName}
use Rattle.player.proofs.acts.make_step.Goals.{in-Again, in-Done}
use Rattle.player.proofs.acts.make_step.Goals as goal

pub returns-clause-traced : goal.returns-clause-traced
returns-clause-traced g c =
    let r = reading_of g.C.Container g.C.Stepwise c.args.container.now in
    let is_step = g.C.Named.is_step in
    let came = c.step-stepped.result in
    let next = c.match-stepped.next in
    let follows : IsNextName r is_step came next = elim c.match-stepped.branch [
      | in-Again w ↦ rw (w.in-Again.is, w.next-is) w.step_name.ensures
      | in-Done w ↦ rw (w.in-Done.is, w.next-is) tt
    ] in
    traces_line _ _ _ _ c.add_step.ensures.pass c.in_ok-add_step.ensures.lines (
      _,
      refl,
      record {
        name = c.step_name-name.result;
        next = next;
        outcome = c.outcome-outcome.result;
        named = c.step_name-name.ensures;
        named_next = follows;
        told = c.outcome-outcome.ensures;
        is = refl;
      },
    )
