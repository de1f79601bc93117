-- Each thread started so far has the part that its promise remembers.
use Rattle.std.proofs.Common.{◌≡◌, ◌≤◌, ◌+◌, All, vec_len, vec_items, vec_capacity}
use Rattle.std.specs.Vec.Iter.{into_iter_items, into_iter_len}
use Rattle.relay.specs.Pools.{pool_of}
use Rattle.relay.proofs.Zips.{So}
use Rattle.relay.proofs.threads.start_each.Given as goal

abbrev pub invariant-loop-job : goal.invariant-loop-job
invariant-loop-job g l =
    record {
      room : vec_len l.started + into_iter_len l.job-iterator ≤ vec_capacity l.started;
      so : So (λ j h. (h.promise.job.value ≡ j) × (h.promise.site.value ≡ l.site)) (into_iter_items l.initial.job-iterator) (into_iter_items l.job-iterator) (vec_items l.started);
      ready : All (g.J.Works.is_ready (pool_of g.C.Shared.is_pass g.C.Shared.pass g.C.Shared.shape l.site.container) l.site.orders) (into_iter_items l.job-iterator);
    }
