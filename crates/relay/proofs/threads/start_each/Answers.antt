use Rattle.std.proofs.Common.{◌≡◌, ap, arith, ◌∙◌, sym, length}
use Rattle.std.proofs.lemmas.List.Elements.{All-head, All-rest}
use Rattle.relay.specs.Pools.{pool_of}
use Rattle.relay.proofs.Zips.{So_none, So_more, So_all, is_nil}
use Rattle.relay.proofs.threads.start_each.Goals as goal

pub loop-job-init : goal.loop-job-init
loop-job-init g c =
    let gives = c.into_iter-job-iterator.ensures.into_iter_gives in
    let none = ap length c.requires.room.empty in
    record {
      room = omega (arith, c.requires.room.room, gives.1, none, c.args.room.ok.0);
      so = rw c.requires.room.empty (So_none (λ j h. (h.promise.job.value ≡ j) × (h.promise.site.value ≡ c.args.site.now)) _);
      ready = rw gives.0 c.requires.ready;
    }

pub spawn_with-requires-clause-runs : goal.spawn_with-requires-clause-runs
spawn_with-requires-clause-runs g c κs within =
    let steps = c.in-Some.ensures.steps in
    All-head (g.J.Works.is_ready (pool_of g.C.Shared.is_pass g.C.Shared.pass g.C.Shared.shape c.args.site.now.container) c.args.site.now.orders) c.in-Some.job _ (rw steps.0 at c.loop-job.invariant.ready)

pub spawn_with-requires-clause-keeps : goal.spawn_with-requires-clause-keeps
spawn_with-requires-clause-keeps g c κs within = λ r d. rw (c.of.ensures, c.of-in-loop-job.ensures) d

pub loop-job-preserved : goal.loop-job-preserved
loop-job-preserved g c =
    let steps = c.in-Some.ensures.steps in
    let pushed = c.push_reserved.ensures in
    let made = ap (λ p. p.job.value) c.in-Ok.ensures.ok ∙ c.of-in-loop-job.ensures in
    let at = ap (λ p. p.site.value) c.in-Ok.ensures.ok ∙ c.of.ensures in
    record {
      room = omega (arith, steps.1, pushed.len, pushed.capacity, c.loop-job.invariant.room);
      so = rw pushed.items (So_more _ _ c.in-Some.job _ _ c.in-Ok.child (rw steps.0 at c.loop-job.invariant.so) (made, at));
      ready = All-rest (g.J.Works.is_ready (pool_of g.C.Shared.is_pass g.C.Shared.pass g.C.Shared.shape c.args.site.now.container) c.args.site.now.orders) c.in-Some.job _ _ steps.0 c.loop-job.invariant.ready;
    }

pub returns : goal.returns
returns g c =
    let all = So_all _ _ _ _ c.loop-job.invariant.so (is_nil _ (sym c.loop-job.job-iterator.rest.ok.0 ∙ c.in-None.ensures.steps.0)) in
    rw c.into_iter-job-iterator.ensures.into_iter_gives.0 at all
