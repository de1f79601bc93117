use Rattle.std.proofs.Common.{◌≡◌, ◌≢◌, ◌-◌, ℕ, refl, sym, subst, arith, IsTrue}
use Rattle.std.specs.Char.{is_ascii_lowercase}
use Rattle.player.specs.Plays.{Meaning, Nobody, World, Finds, named, renamed}
use Rattle.player.specs.Shows.{ShowsAll, reading_of}
use Rattle.std.proofs.Common.{◌∙◌, slice_set, slice_index_or}
use Rattle.std.proofs.lemmas.List.{get_or-set_other}
use Rattle.player.specs.declared.place.Place.TheVariants as place
use Rattle.player.proofs.Lines.{kept_found, kept_more, kept_set}
use Rattle.player.proofs.Showing.{is_nobody, is_somebody, finds_other, other_kept, other_named, set_both, shows_set}
use Rattle.player.proofs.stage.meet.Goals as goal

apart : (a b : ℕ) → IsTrue (is_ascii_lowercase a) → IsTrue (is_ascii_lowercase b) → a ≢ b → a - 97 ≢ b - 97
apart a b low-a low-b far e = far (grind (arith, low-a, low-b, e))

pub returns-in-Nobody-clause-meets : goal.returns-in-Nobody-clause-meets
returns-in-Nobody-clause-meets g c world on =
    let r = reading_of g.C.Container g.C.Stepwise c.args.container.now in
    let i = c.args.name.0 - 97 in
    let j = c.args.other.0 - 97 in
    let f = c.find-first.ensures.found world on in
    let none : f.found ≡ Nobody = is_nobody r f.found (rw c.in-Nobody.is at f.shows) in
    let finds : Finds r.shape world.root (named world c.args.name.0) f.root Nobody = subst (λ (n : Meaning). Finds r.shape world.root (named world c.args.name.0) f.root n) none f.finds in
    let next : World = record { root = f.root; names = renamed world.names c.args.name.0 Nobody } in (
      next,
      f.on,
      record {
        between = f.root;
        first = Nobody;
        second = named world c.args.other.0;
        after = Nobody;
        finds = finds;
        finds_other = (refl, refl);
        told = (refl, refl);
        names = sym (other_kept world.names i j Nobody (apart c.args.name.0 c.args.other.0 c.requires.name c.requires.other.0 c.requires.other.1));
      },
    )

pub returns-clause-meets : goal.returns-clause-meets
returns-clause-meets g c world on =
    let r = reading_of g.C.Container g.C.Stepwise c.args.container.now in
    let i = c.args.name.0 - 97 in
    let j = c.args.other.0 - 97 in
    let f = c.find-first.ensures.found world on in
    let s = c.find-second.ensures.found _ f.on in
    let m = c.meet_at-first.ensures.meets f.found s.found f.shows s.shows in
    let far : i ≢ j = apart c.args.name.0 c.args.other.0 c.requires.name c.requires.other.0 c.requires.other.1 in
    let some : f.found ≡ Nobody → ⊥ = is_somebody r c.find-first.result f.found f.shows c.in_default.not-Nobody in
    let finds : Finds r.shape f.root (named world c.args.other.0) s.root s.found = subst (λ (n : Meaning). Finds r.shape f.root n s.root s.found) (other_named world.names i j Nobody far) s.finds in
    let names = renamed (renamed world.names c.args.name.0 m.0) c.args.other.0 s.found in
    let set-first = shows_set r _ _ i c.meet_at-first.result.0 m.0 s.on.names m.1 in
    let set-second = shows_set r _ _ j c.meet_at-first.result.1 s.found set-first m.2 in
    let shown : ShowsAll r c.keep-2.new.stage.places.of.items names = rw (c.keep-2.ensures.places, c.keep.ensures.places, sym (set_both world.names i j Nobody m.0 s.found far)) set-second in (
      record { root = s.root; names = names },
      record {
        is = rw (c.keep-2.ensures.root, c.keep.ensures.root) s.on.is;
        root = rw (c.keep-2.ensures.root, c.keep.ensures.root) s.on.root;
        names = shown;
      },
      record {
        between = f.root;
        first = f.found;
        second = s.found;
        after = m.0;
        finds = f.finds;
        finds_other = finds_other r.shape f.found f.root s.root (named world c.args.other.0) s.found some finds;
        told = m.3;
        names = refl;
      },
    )

pub returns-in-Nobody-clause-kept : goal.returns-in-Nobody-clause-kept
returns-in-Nobody-clause-kept g c =
    let i = c.args.name.0 - 97 in
    let none = kept_found _ _ place.Nobody c.find-first.ensures.same (rw c.in-Nobody.is tt) in
    rw c.find-first.ensures.places (kept_set _ i place.Nobody none)

pub returns-clause-kept : goal.returns-clause-kept
returns-clause-kept g c =
    let i = c.args.name.0 - 97 in
    let j = c.args.other.0 - 97 in
    let far : i ≢ j = apart c.args.name.0 c.args.other.0 c.requires.name c.requires.other.0 c.requires.other.1 in
    let places = c.args.stage.now.places.of.items in
    let m = c.meet_at-first in
    let one = kept_found _ _ m.result.0 c.find-first.ensures.same m.ensures.first_kept in
    let there : slice_index_or (slice_set places i place.Nobody) j place.Nobody ≡ slice_index_or (slice_set places i m.result.0) j place.Nobody = get_or-set_other places i j place.Nobody place.Nobody (λ e. far (sym e)) ∙ sym (get_or-set_other places i j m.result.0 place.Nobody (λ e. far (sym e))) in
    let two = kept_found _ _ m.result.1 (rw c.find-first.ensures.places at c.find-second.ensures.same) m.ensures.second_kept in
    rw (c.keep-2.ensures.places, c.keep.ensures.places, c.find-second.ensures.places, c.find-first.ensures.places, set_both places i j place.Nobody m.result.0 m.result.1 far)
    (kept_more _ _ _ (kept_set places i m.result.0 one) (kept_set _ j m.result.1 (rw (sym there) two)))
