use Rattle.std.proofs.Common.{List, subst, sym}
use Rattle.player.specs.declared.place.Place.{Place}
use Rattle.player.specs.Plays.{Meaning}
use Rattle.player.specs.Shows.{ShowsAll, reading_of}
use Rattle.player.proofs.stage.join_all.Goals as goal

pub loop-root-init : goal.loop-root-init
loop-root-init g c =
    let r = reading_of g.C.Container g.C.Stepwise c.args.container.now in
    let all = λ (names : List Meaning) (shows : ShowsAll r c.args.places.of.items names). subst (λ (places : List (Place _ _)). ShowsAll r places names) (sym c.from-left.ensures.0) shows in
    record {
      root = c.requires.root;
      places = (c.requires.places.0, all c.requires.places.0 c.requires.places.1);
      joins = λ names shows. (names, all names shows, λ s joins. joins);
    }

pub loop-root-preserved : goal.loop-root-preserved
loop-root-preserved g c = record {
  root = c.join_first.ensures.root;
  places = c.join_first.ensures.places;
  joins = λ names shows.
      let old = c.loop-root.invariant.joins names shows in
      let first = c.join_first.ensures.joined old.0 old.1 in
      (first.0, first.1, λ s joins. old.2 s (first.2 s joins));
}
