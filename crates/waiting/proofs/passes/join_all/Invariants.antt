use Rattle.std.proofs.Common.{All, map}
use Rattle.std.specs.Vec.Iter.{into_iter_items}
use Rattle.bounded_model.specs.declared.views.RootView.{RootView}
use Rattle.waiting.specs.Passes.{JoinsEach}
use Rattle.waiting.proofs.passes.join_all.Given as goal

-- once the others are joined, all are
abbrev pub invariant-loop-pass : goal.invariant-loop-pass
invariant-loop-pass g l = record {
  root : g.C.Container.is_root l.c l.root;
  passes : All (g.C.Container.is_pass l.c) (into_iter_items l.pass-iterator);
  joins : (s : RootView g.row.T.Denot) → JoinsEach (g.C.Container.root l.root) (map g.C.Container.pass (into_iter_items l.pass-iterator)) s → JoinsEach (g.C.Container.root l.fn.root) (map g.C.Container.pass (into_iter_items l.initial.pass-iterator)) s;
}
