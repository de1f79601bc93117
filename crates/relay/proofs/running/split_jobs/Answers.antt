use Rattle.std.proofs.Common.{arith, refl, ap, sym, ◌∙◌, ◌+◌}
use Rattle.relay.specs.Passes.{new_pass, IsNewJob}
use Rattle.relay.proofs.Zips.{So_more}
use Rattle.relay.proofs.Lists.{EachFrom_more}
use Rattle.relay.proofs.Splitting.{gave_more_from, pass_of_split}
use Rattle.relay.proofs.running.split_jobs.Goals as goal

pub loop-list-preserved : goal.loop-list-preserved
loop-list-preserved g c =
    let C = g.C.Container in
    let first = (C.root c.args.root.now).given in
    let old = c.loop-list.invariant in
    let steps = c.in-Some.ensures.steps in
    let pushed = c.push_reserved.ensures in
    let split = c.in-Some-split.ensures.gives in
    record {
      root = c.split.ensures.root;
      given = gave_more_from first _ _ old.given pushed.len split.1;
      room = omega (arith, steps.1, pushed.len, pushed.capacity, old.room);
      long = omega (arith, steps.1, pushed.len, old.long);
      new = rw pushed.items (EachFrom_more (IsNewJob (C.is_pass c.args.container.now) C.pass first) 0 c.len-place.result c.loop-list.jobs.items _ (omega (arith, c.len-place.ensures, c.loop-list.jobs.ok.0)) old.new
          (record { of = split.0; pass = pass_of_split old.given split.1 ∙ ap (λ n. new_pass (first + n)) (sym c.len-place.ensures); number = refl }));
      so = rw pushed.items (So_more _ _ c.in-Some.list _ _ _ (rw steps.0 at old.so) refl);
    }
