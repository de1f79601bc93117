use Rattle.std.proofs.Common.{length, refl, sym, ◌∙◌, subst, arith}
use Rattle.running.specs.Passes.{pass_in}
use Rattle.treiber_stack.specs.code.RangeTrying.{MadeAtMost}
use Rattle.treiber_stack.specs.Calls.{begun_with}
use Rattle.treiber_stack.proofs.RangeTook.{comes, goes, ends, most}
use Rattle.treiber_stack.proofs.bulk.range_trying.run_for.Goals as goal

pub loop-round-preserved : goal.loop-round-preserved
loop-round-preserved g c =
    let stack = c.args.on.now in
    let r = c.loop-round.range in
    let back = c.in-Done in
    let next = c.in-Again-after_stop in
    let was = c.requires in
    let now = c.loop-round.invariant.0 was.0 was.1 was.2 in (
      (λ vs is left.
          let i = c.loop-round.invariant.0 vs is left in
          let came = next.ensures.came (begun_with g.D.Tie.rule stack r.pass) vs r.at.at (back.ensures.ran vs i.0.at) i.0.of i.1 in
          (came.0.0, came.1, came.0.1 ∙ i.2)),
      comes c.args.steps c.args.op c.loop-round.round r c.loop-round.invariant.1 back.back back.ensures.took next.next
          (next.ensures.stopped (begun_with g.D.Tie.rule stack r.pass) was.0 r.at.at (back.ensures.ran was.0 now.0.at) now.1),
      next.ensures.same ∙ c.loop-round.invariant.2,
    )

pub returns-in-Again-clause-took : goal.returns-in-Again-clause-took
returns-in-Again-clause-took g c =
    let was = c.requires in
    let now = c.loop-round.invariant.0 was.0 was.1 was.2 in
    let ran = c.in-Again.ensures.ran was.0 now.0.at in
    let r = c.loop-round.range in
    goes c.args.steps c.args.op c.loop-round.round r c.loop-round.invariant.1 (record { pass = c.in-Again.pass; operation = r.operation; at = record { held = r.at.held; at = c.in-Again.at } }) ran.2 refl c.in-Again.ensures.took

pub returns-in-Done-after_stop-clause-took : goal.returns-in-Done-after_stop-clause-took
returns-in-Done-after_stop-clause-took g c =
    let r = c.loop-round.range in
    let back = c.in-Done in
    let done = c.in-Done-after_stop in
    let was = c.requires in
    let now = c.loop-round.invariant.0 was.0 was.1 was.2 in
    let s = done.ensures.stopped (begun_with g.D.Tie.rule c.args.on.now r.pass) was.0 r.at.at (back.ensures.ran was.0 now.0.at) now.1 in
    ends c.args.steps c.args.op c.loop-round.round r c.loop-round.invariant.1 back.back back.ensures.took done.pass s.0 done.answer s.1

pub returns-in-Again-clause-most : goal.returns-in-Again-clause-most
returns-in-Again-clause-most g c vs is left =
    let r = c.loop-round.range in
    let now = c.loop-round.invariant.0 vs is left in
    let took = c.in-Again.ensures.took in
    most c.args.steps c.args.op c.loop-round.round r (length vs) c.loop-round.invariant.1 now.0.at.has.few (pass_in c.in-Again.pass) (omega (arith, took))

pub returns-in-Done-after_stop-clause-most : goal.returns-in-Done-after_stop-clause-most
returns-in-Done-after_stop-clause-most g c vs is left =
    let r = c.loop-round.range in
    let back = c.in-Done in
    let done = c.in-Done-after_stop in
    let now = c.loop-round.invariant.0 vs is left in
    let s = done.ensures.stopped (begun_with g.D.Tie.rule c.args.on.now r.pass) vs r.at.at (back.ensures.ran vs now.0.at) now.1 in
    subst (λ p. MadeAtMost c.args.steps (length vs) (pass_in c.args.op.pass) (pass_in p)) (sym s.0)
    (most c.args.steps c.args.op c.loop-round.round r (length vs) c.loop-round.invariant.1 now.0.at.has.few (pass_in back.back) back.ensures.took)

pub returns-clause-most : goal.returns-clause-most
returns-clause-most g c vs is left =
    let r = c.loop-round.range in
    let now = c.loop-round.invariant.0 vs is left in
    most c.args.steps c.args.op c.loop-round.round r (length vs) c.loop-round.invariant.1 now.0.at.has.few (pass_in r.pass) (omega arith)
