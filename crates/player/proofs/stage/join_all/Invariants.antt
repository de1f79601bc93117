use Rattle.std.proofs.Common.{◌≡◌, List, ℕ, length}
use Rattle.bounded_model.specs.declared.views.RootView.{RootView}
use Rattle.player.specs.Plays.{JoinsAll, Meaning}
use Rattle.player.specs.Shows.{ShowsAll, reading_of}
use Rattle.player.proofs.stage.join_all.Given as goal

-- joining those that are left ends as joining all does
abbrev pub invariant-loop-root : goal.invariant-loop-root
invariant-loop-root g l =
    let r = reading_of g.C.Container g.C.Stepwise l.fn.container in
    record {
      root : g.C.Container.is_root l.fn.container l.root;
      places : (names : List Meaning) × ShowsAll r l.left.items names;
      joins : (names : List Meaning) → ShowsAll r l.fn.places.of.items names
          → (rest : List Meaning) × ShowsAll r l.left.items rest
          × ((s : RootView (List ℕ)) → JoinsAll (r.root l.root) rest s → JoinsAll (r.root l.fn.root) names s);
    }

abbrev pub decreases-loop-root : goal.decreases-loop-root
decreases-loop-root g l = length l.left.items
