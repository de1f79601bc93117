-- Each job so far has the next pass, and its list.
use Rattle.std.proofs.Common.{◌≡◌, ◌≤◌, ◌+◌, vec_len, vec_items, vec_capacity}
use Rattle.std.specs.Vec.Iter.{into_iter_items, into_iter_len}
use Rattle.bounded_model.specs.Gathers.{EachFrom}
use Rattle.relay.specs.Passes.{gave, IsNewJob}
use Rattle.relay.proofs.Zips.{So}
use Rattle.relay.proofs.running.split_jobs.Given as goal

abbrev pub invariant-loop-list : goal.invariant-loop-list
invariant-loop-list g l =
    record {
      root : g.C.Container.is_root l.container l.root;
      given : g.C.Container.root l.root ≡ gave ((g.C.Container.root l.fn.root).given + vec_len l.jobs);
      room : vec_len l.jobs + into_iter_len l.list-iterator ≤ vec_capacity l.jobs;
      long : vec_len l.jobs + into_iter_len l.list-iterator ≡ vec_len l.fn.lists;
      new : EachFrom (IsNewJob (g.C.Container.is_pass l.container) g.C.Container.pass (g.C.Container.root l.fn.root).given) 0 (vec_items l.jobs);
      so : So (λ v j. j.list ≡ v) (into_iter_items l.initial.list-iterator) (into_iter_items l.list-iterator) (vec_items l.jobs);
    }
