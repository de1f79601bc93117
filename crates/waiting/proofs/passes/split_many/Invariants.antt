use Rattle.std.proofs.Common.{All, ◌≤◌, ◌-◌, map, vec_len, vec_capacity}
use Rattle.waiting.specs.Passes.{SplitsEach}
use Rattle.waiting.proofs.passes.split_many.Given as goal

-- so many were split off
abbrev pub invariant-loop-root : goal.invariant-loop-root
invariant-loop-root g l = record {
  root : g.C.Container.is_root l.c l.root;
  passes : All (g.C.Container.is_pass l.c) l.passes.items;
  few : vec_len l.passes ≤ l.count;
  room : l.count ≤ vec_capacity l.passes;
  splits : SplitsEach (g.C.Container.shape l.c) (g.C.Container.root l.fn.root) (map g.C.Container.pass l.passes.items) (g.C.Container.root l.root);
}

abbrev pub decreases-loop-root : goal.decreases-loop-root
decreases-loop-root g l = l.count - vec_len l.passes
