use Rattle.std.proofs.Common.{◌≡◌, refl, subst, sym, ◌∙◌}
use Rattle.player.specs.declared.place.Place.TheVariants as place
use Rattle.player.specs.Plays.{Meaning, Nobody}
use Rattle.player.specs.Shows.{Shows, reading_of}
use Rattle.player.proofs.Showing.{is_nobody, is_resting, is_acting}
use Rattle.player.proofs.Lines.{is_counted}
use Rattle.player.proofs.Tracing.{traces_nothing}
use Rattle.player.proofs.acts.act_at.Goals as goal

pub returns-in-Nobody-clause-told : goal.returns-in-Nobody-clause-told
returns-in-Nobody-clause-told g c found shows =
    let r = reading_of g.C.Container g.C.Stepwise c.args.container.now in
    let here : Shows r place.Nobody found = rw (sym c.held.ensures.same ∙ c.in-Nobody.is) at shows in
    let none : found ≡ Nobody = is_nobody r found here in
    rw none (Nobody, tt, (refl, refl))

pub returns-in-Resting-clause-told : goal.returns-in-Resting-clause-told
returns-in-Resting-clause-told g c found shows =
    let r = reading_of g.C.Container g.C.Stepwise c.args.container.now in
    let here : Shows r (place.Resting c.in-Resting.pass) found = rw (sym c.held.ensures.same ∙ c.in-Resting.is) at shows in
    rw (is_resting r c.in-Resting.pass found here) c.act_resting.ensures.told

pub returns-in-Acting-clause-told : goal.returns-in-Acting-clause-told
returns-in-Acting-clause-told g c found shows =
    let r = reading_of g.C.Container g.C.Stepwise c.args.container.now in
    let here : Shows r (place.Acting c.in-Acting.begun) found = rw (sym c.held.ensures.same ∙ c.in-Acting.is) at shows in
    let a = is_acting r c.in-Acting.begun found here in
    rw a.2 (c.act_begun.ensures.told a.0 a.1 (subst (λ (n : Meaning). Shows r (place.Acting c.in-Acting.begun) n) a.2 here))

pub returns-in-Nobody-clause-traced : goal.returns-in-Nobody-clause-traced
returns-in-Nobody-clause-traced g c = rw (sym c.held.ensures.same ∙ c.in-Nobody.is) (traces_nothing _ _ refl)

pub returns-in-Resting-clause-traced : goal.returns-in-Resting-clause-traced
returns-in-Resting-clause-traced g c = rw (sym c.held.ensures.same ∙ c.in-Resting.is) c.act_resting.ensures.traced

pub returns-in-Acting-clause-traced : goal.returns-in-Acting-clause-traced
returns-in-Acting-clause-traced g c =
    let r = reading_of g.C.Container g.C.Stepwise c.args.container.now in
    let shows = rw (sym c.held.ensures.same ∙ c.in-Acting.is) at c.requires.place.1 in
    rw (sym c.held.ensures.same ∙ c.in-Acting.is) (c.act_begun.ensures.traced (is_counted r c.in-Acting.begun c.requires.place.0 shows))
