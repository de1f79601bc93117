use Rattle.std.proofs.Common.{refl, sym}
use Rattle.player.specs.declared.place.Place.TheVariants as place
use Rattle.player.specs.Plays.{Resting, MeetTold}
use Rattle.player.specs.Shows.{Shows, reading_of}
use Rattle.script.specs.declared.answer.Answer.TheVariants as answer
use Rattle.player.proofs.Showing.{is_resting, is_acting, have_met}
use Rattle.player.proofs.stage.meet_at.Goals as goal

pub returns-in-Resting-Resting-clause-meets : goal.returns-in-Resting-Resting-clause-meets
returns-in-Resting-Resting-clause-meets g c one two shows-one shows-two =
    let r = reading_of g.C.Container g.C.Stepwise c.args.container.now in
    let e = c.meet-by.ensures in
    let at = c.in-Resting-Resting in
    let here : Shows r (place.Resting at.pass) one = rw at.is-0 at shows-one in
    let there : Shows r (place.Resting at.by) two = rw at.is-1 at shows-two in
    let one-is = is_resting r at.pass one here in
    let two-is = is_resting r at.by two there in
    let w = r.pass c.meet-by.new.first in
    let told : MeetTold one two c.answer_to_meet.result (Resting w) = rw (one-is, two-is, c.answer_to_meet.ensures) (have_met _ _ w c.meet-by.result.1 e.gives) in
    (Resting w, (e.first, refl), rw two-is (e.second.0, sym e.second.1), told)

pub returns-in-Resting-Acting-clause-meets : goal.returns-in-Resting-Acting-clause-meets
returns-in-Resting-Acting-clause-meets g c one two shows-one shows-two =
    let r = reading_of g.C.Container g.C.Stepwise c.args.container.now in
    let at = c.in-Resting-Acting in
    let here : Shows r (place.Resting at.pass) one = rw at.is-0 at shows-one in
    let there : Shows r (place.Acting at.begun) two = rw at.is-1 at shows-two in
    let one-is = is_resting r at.pass one here in
    let two-is = is_acting r at.begun two there in
    let told : MeetTold one two answer.Busy one = rw (one-is, two-is.2) (refl, refl) in
    (one, here, there, told)

pub returns-in-Acting-Resting-clause-meets : goal.returns-in-Acting-Resting-clause-meets
returns-in-Acting-Resting-clause-meets g c one two shows-one shows-two =
    let r = reading_of g.C.Container g.C.Stepwise c.args.container.now in
    let at = c.in-Acting-Resting in
    let here : Shows r (place.Acting at.begun) one = rw at.is-0 at shows-one in
    let there : Shows r (place.Resting at.pass) two = rw at.is-1 at shows-two in
    let one-is = is_acting r at.begun one here in
    let two-is = is_resting r at.pass two there in
    let told : MeetTold one two answer.Busy one = rw (one-is.2, two-is) (refl, refl) in
    (one, here, there, told)

pub returns-in-Acting-Acting-clause-meets : goal.returns-in-Acting-Acting-clause-meets
returns-in-Acting-Acting-clause-meets g c one two shows-one shows-two =
    let r = reading_of g.C.Container g.C.Stepwise c.args.container.now in
    let at = c.in-Acting-Acting in
    let here : Shows r (place.Acting at.begun) one = rw at.is-0 at shows-one in
    let there : Shows r (place.Acting at.other) two = rw at.is-1 at shows-two in
    let one-is = is_acting r at.begun one here in
    let two-is = is_acting r at.other two there in
    let told : MeetTold one two answer.Busy one = rw (one-is.2, two-is.2) (refl, refl) in
    (one, here, there, told)
