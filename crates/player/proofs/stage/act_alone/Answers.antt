use Rattle.std.proofs.Common.{◌≡◌, ◌-◌, List, refl, sym, ap, subst, ◌∙◌, slice_set}
use Rattle.script.specs.declared.line.PassName.{PassName}
use Rattle.player.specs.declared.place.Place.{Place}
use Rattle.player.specs.declared.place.Place.TheVariants as place
use Rattle.player.specs.Plays.{Nobody, World, renamed}
use Rattle.player.specs.Shows.{ShowsAll, reading_of}
use Rattle.player.specs.Traces.{PlaceLines}
use Rattle.player.proofs.Showing.{set_again, shows_set}
use Rattle.player.proofs.Tracing.{traces_as}
use Rattle.player.proofs.stage.act_alone.Goals as goal

pub returns-clause-acts : goal.returns-clause-acts
returns-clause-acts g c world on =
    let r = reading_of g.C.Container g.C.Stepwise c.args.container.now in
    let i = c.args.name.0 - 97 in
    let f = c.find-place.ensures.found world on in
    let a = c.in_ok-place.ensures.told f.found f.shows in
    let names = renamed world.names c.args.name.0 a.0 in
    let shown : ShowsAll r c.keep.new.stage.places.of.items names = rw (c.keep.ensures.places, sym (set_again world.names i Nobody a.0)) (shows_set r _ _ i c.in_ok-place.place a.0 f.on.names a.1) in (
      record { root = f.root; names = names },
      record {
        is = rw c.keep.ensures.root f.on.is;
        root = rw c.keep.ensures.root f.on.root;
        names = shown;
      },
      record {
        found = f.found;
        after = a.0;
        finds = f.finds;
        told = a.2;
        names = refl;
      },
    )

pub returns-clause-traced : goal.returns-clause-traced
returns-clause-traced g c world on turned =
    let r = reading_of g.C.Container g.C.Stepwise c.args.container.now in
    let is_step = g.C.Named.is_step in
    let i = c.args.name.0 - 97 in
    let f = c.find-place.ensures.found world on in
    let a = c.in_ok-place.ensures.told f.found f.shows in
    let names = renamed world.names c.args.name.0 a.0 in
    let next : World = record { root = f.root; names = names } in
    let shown : ShowsAll r c.keep.new.stage.places.of.items names = rw (c.keep.ensures.places, sym (set_again world.names i Nobody a.0)) (shows_set r _ _ i c.in_ok-place.place a.0 f.on.names a.1) in
    let held : c.keep.new.stage.places.of.items ≡ slice_set c.args.stage.now.places.of.items i c.in_ok-place.place = c.keep.ensures.places ∙ ap (λ (ps : List (Place _ _)). slice_set ps i c.in_ok-place.place) c.find-place.ensures.places ∙ set_again c.args.stage.now.places.of.items i place.Nobody c.in_ok-place.place in
    traces_as _ _ _ _ c.in_ok-place.ensures.traced (λ lines traced. (
      next,
      record {
        is = rw c.keep.ensures.root f.on.is;
        root = rw c.keep.ensures.root f.on.root;
        names = shown;
      },
      record {
        does = record {
          found = f.found;
          after = a.0;
          finds = f.finds;
          told = a.2;
          names = refl;
        };
        found = c.find-place.result;
        after = c.in_ok-place.place;
        is_found = c.find-place.ensures.same;
        found_shows = f.shows;
        after_shows = a.1;
        traced = subst (λ (by : PassName). PlaceLines r is_step by c.find-place.result c.args.act c.in_ok-place.answer lines c.in_ok-place.place) turned traced;
        places = held;
      },
    ))
