use Rattle.std.proofs.Common.{arith, sym, ◌∙◌}
use Rattle.relay.proofs.Zips.{So_more, So_all, is_nil}
use Rattle.relay.proofs.threads.join_each.Goals as goal

pub loop-child-preserved : goal.loop-child-preserved
loop-child-preserved g c =
    let steps = c.in-Some.ensures.steps in
    record {
      room = omega (arith, steps.1, c.push_reserved.ensures.len, c.push_reserved.ensures.capacity, c.loop-child.invariant.room);
      so = rw c.push_reserved.ensures.items (So_more _ _ c.in-Some.child _ _ c.join.result (rw steps.0 at c.loop-child.invariant.so) c.join.ensures);
    }

pub returns : goal.returns
returns g c =
    let joined = So_all _ _ _ _ c.loop-child.invariant.so (is_nil _ (sym c.loop-child.child-iterator.rest.ok.0 ∙ c.in-None.ensures.steps.0)) in
    rw c.into_iter-child-iterator.ensures.into_iter_gives.0 at joined
