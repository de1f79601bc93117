use Rattle.std.proofs.Common.{◌≡◌, ◌-◌, refl, sym, ◌∙◌}
use Rattle.player.specs.declared.place.Place.TheVariants as place
use Rattle.player.specs.Plays.{Nobody, Resting, named, renamed}
use Rattle.player.specs.Shows.{Shows, ShowsAll, reading_of}
use Rattle.bounded_model.specs.Laws.{Splits, IsFullOfPasses}
use Rattle.player.proofs.Showing.{is_nobody, finds_new, finds_none, finds_same, shows_at, shows_set}
use Rattle.player.proofs.stage.find.Goals as goal

pub returns-in-Some-clause-found : goal.returns-in-Some-clause-found
returns-in-Some-clause-found g c world on =
    let r = reading_of g.C.Container g.C.Stepwise c.args.container.now in
    let i = c.args.name.0 - 97 in
    let e = c.exchange.ensures in
    let gives = c.in-Some.ensures.gives in
    let at : Shows r c.exchange.result (named world c.args.name.0) = shows_at r _ _ i c.exchange.result on.names e.within e.was in
    let none : named world c.args.name.0 ≡ Nobody = is_nobody r _ (rw c.in-Nobody.is at at) in
    let splits : Splits r.shape world.root (r.root c.split.new.parent) (r.pass c.in-Some.pass) = rw on.root gives.1 in
    let names : ShowsAll r c.exchange.new.self.of.items (renamed world.names c.args.name.0 Nobody) = rw e.places (shows_set r _ _ i place.Nobody Nobody on.names tt) in
    record {
      found = Resting (r.pass c.in-Some.pass);
      root = r.root c.split.new.parent;
      shows = (gives.0, refl);
      finds = finds_new _ _ _ _ _ none splits;
      on = record { is = c.in-Some.ensures.root; root = refl; names = names };
    }

pub returns-in-None-clause-found : goal.returns-in-None-clause-found
returns-in-None-clause-found g c world on =
    let r = reading_of g.C.Container g.C.Stepwise c.args.container.now in
    let i = c.args.name.0 - 97 in
    let e = c.exchange.ensures in
    let gives = c.in-None.ensures.gives in
    let at : Shows r c.exchange.result (named world c.args.name.0) = shows_at r _ _ i c.exchange.result on.names e.within e.was in
    let none : named world c.args.name.0 ≡ Nobody = is_nobody r _ (rw c.in-Nobody.is at at) in
    let full : IsFullOfPasses r.shape world.root = rw on.root gives.1 in
    let names : ShowsAll r c.exchange.new.self.of.items (renamed world.names c.args.name.0 Nobody) = rw e.places (shows_set r _ _ i place.Nobody Nobody on.names tt) in
    record {
      found = Nobody;
      root = r.root c.split.new.parent;
      shows = tt;
      finds = finds_none _ _ _ _ none full (gives.0 ∙ sym on.root);
      on = record { is = c.in-None.ensures.root; root = refl; names = names };
    }

pub returns-in_default-clause-found : goal.returns-in_default-clause-found
returns-in_default-clause-found g c world on =
    let r = reading_of g.C.Container g.C.Stepwise c.args.container.now in
    let i = c.args.name.0 - 97 in
    let e = c.exchange.ensures in
    let at : Shows r c.exchange.result (named world c.args.name.0) = shows_at r _ _ i c.exchange.result on.names e.within e.was in
    let names : ShowsAll r c.exchange.new.self.of.items (renamed world.names c.args.name.0 Nobody) = rw e.places (shows_set r _ _ i place.Nobody Nobody on.names tt) in
    record {
      found = named world c.args.name.0;
      root = world.root;
      shows = at;
      finds = finds_same r _ _ world.root at c.in_default.not-Nobody;
      on = record { is = on.is; root = on.root; names = names };
    }

pub returns-in-Some-clause-on : goal.returns-in-Some-clause-on
returns-in-Some-clause-on g c = let f = returns-in-Some-clause-found g c c.requires.on.0 c.requires.on.1 in (_, f.on)

pub returns-in-Some-clause-shows : goal.returns-in-Some-clause-shows
returns-in-Some-clause-shows g c = let f = returns-in-Some-clause-found g c c.requires.on.0 c.requires.on.1 in (f.found, f.shows)

pub returns-in-None-clause-on : goal.returns-in-None-clause-on
returns-in-None-clause-on g c = let f = returns-in-None-clause-found g c c.requires.on.0 c.requires.on.1 in (_, f.on)

pub returns-in-None-clause-shows : goal.returns-in-None-clause-shows
returns-in-None-clause-shows g c = let f = returns-in-None-clause-found g c c.requires.on.0 c.requires.on.1 in (f.found, f.shows)

pub returns-in_default-clause-on : goal.returns-in_default-clause-on
returns-in_default-clause-on g c = let f = returns-in_default-clause-found g c c.requires.on.0 c.requires.on.1 in (_, f.on)

pub returns-in_default-clause-shows : goal.returns-in_default-clause-shows
returns-in_default-clause-shows g c = let f = returns-in_default-clause-found g c c.requires.on.0 c.requires.on.1 in (f.found, f.shows)
