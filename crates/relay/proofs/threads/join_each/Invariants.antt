-- Each result so far keeps the promise of its handle.
use Rattle.std.proofs.Common.{◌≤◌, ◌+◌, vec_len, vec_items, vec_capacity}
use Rattle.std.specs.Vec.Iter.{into_iter_items, into_iter_len}
use Rattle.relay.proofs.Zips.{So}
use Rattle.relay.proofs.threads.join_each.Given as goal

abbrev pub invariant-loop-child : goal.invariant-loop-child
invariant-loop-child g l =
    record {
      room : vec_len l.all + into_iter_len l.child-iterator ≤ vec_capacity l.all;
      so : So (λ h r. g.P.Promise.kept_by h.promise r) (into_iter_items l.initial.child-iterator) (into_iter_items l.child-iterator) (vec_items l.all);
    }
