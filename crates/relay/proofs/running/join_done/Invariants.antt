-- The passes so far are joined.
use Rattle.std.proofs.Common.{◌≡◌, ◌≤◌, ◌+◌, All, vec_len, vec_items, vec_capacity}
use Rattle.std.specs.Vec.Iter.{into_iter_items, into_iter_len}
use Rattle.relay.proofs.Joins.{Joining}
use Rattle.relay.proofs.running.join_done.Given as goal

abbrev pub invariant-loop-one : goal.invariant-loop-one
invariant-loop-one g l =
    record {
      root : g.C.Container.is_root l.container l.root;
      passes : All (λ w. g.C.Container.is_pass l.container w.pass) (into_iter_items l.one-iterator);
      room : vec_len l.lists + into_iter_len l.one-iterator ≤ vec_capacity l.lists;
      joining : Joining (λ d l. l ≡ d.list) (λ w. g.C.Container.pass w.pass) (g.C.Container.root l.fn.root) (into_iter_items l.initial.one-iterator) (into_iter_items l.one-iterator) (vec_items l.lists) (g.C.Container.root l.root);
    }
