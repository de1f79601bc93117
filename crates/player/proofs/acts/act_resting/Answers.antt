use Rattle.std.proofs.Common.{refl, sym, subst, arith}
use Rattle.player.specs.Shows.{reading_of}
use Rattle.player.specs.Plays.{Resting, Acting, IsFor}
use Rattle.bounded_model.specs.Stepping.{no_step}
use Rattle.player.proofs.Showing.{since_none}
use Rattle.player.proofs.Tracing.{traces_line, traces_nothing}
use Rattle.player.proofs.acts.act_resting.Goals as goal

pub returns-in_ok-pass-in-Call-clause-told : goal.returns-in_ok-pass-in-Call-clause-told
returns-in_ok-pass-in-Call-clause-told g c =
    let r = reading_of g.C.Container g.C.Stepwise c.args.container.now in
    let done = c.in_ok-pass-in-Call in
    rw c.in-Call.is (Resting (r.pass done.pass), (done.ensures.of, refl), done.ensures.gives)

pub returns-in-Begin-clause-told : goal.returns-in-Begin-clause-told
returns-in-Begin-clause-told g c =
    let r = reading_of g.C.Container g.C.Stepwise c.args.container.now in
    let v = r.pass c.args.pass in
    rw c.in-Begin.is (Acting c.in-Begin.command (no_step v), (c.begin-operation.ensures.call, sym c.begin-operation.ensures.begun, since_none v, omega arith), (refl, refl))

pub returns-in_ok-add_whole-in-Range-clause-told : goal.returns-in_ok-add_whole-in-Range-clause-told
returns-in_ok-add_whole-in-Range-clause-told g c =
    let r = reading_of g.C.Container g.C.Stepwise c.args.container.now in
    let done = c.in_ok-pass-in-Range in
    let fits = subst (IsFor r.shape.order) c.in-Range.is c.requires.fits in
    rw c.in-Range.is (Resting (r.pass done.pass), (done.ensures.of, refl), done.ensures.gives fits)

pub returns-in_ok-add_whole-in-Fold-clause-told : goal.returns-in_ok-add_whole-in-Fold-clause-told
returns-in_ok-add_whole-in-Fold-clause-told g c =
    let r = reading_of g.C.Container g.C.Stepwise c.args.container.now in
    let done = c.in_ok-pass-in-Fold in
    let fits = subst (IsFor r.shape.order) c.in-Fold.is c.requires.fits in
    rw c.in-Fold.is (Resting (r.pass done.pass), (done.ensures.of, refl), done.ensures.gives fits)

pub returns-in_ok-add_whole-in-ReversedFold-clause-told : goal.returns-in_ok-add_whole-in-ReversedFold-clause-told
returns-in_ok-add_whole-in-ReversedFold-clause-told g c =
    let r = reading_of g.C.Container g.C.Stepwise c.args.container.now in
    let done = c.in_ok-pass-in-ReversedFold in
    let fits = subst (IsFor r.shape.order) c.in-ReversedFold.is c.requires.fits in
    rw c.in-ReversedFold.is (Resting (r.pass done.pass), (done.ensures.of, refl), done.ensures.gives fits)

pub returns-in-Step-clause-told : goal.returns-in-Step-clause-told
returns-in-Step-clause-told g c =
    let r = reading_of g.C.Container g.C.Stepwise c.args.container.now in
    rw c.in-Step.is (Resting (r.pass c.args.pass), (c.requires.pass, refl), refl)

pub returns-in-Drop-clause-told : goal.returns-in-Drop-clause-told
returns-in-Drop-clause-told g c =
    let r = reading_of g.C.Container g.C.Stepwise c.args.container.now in
    rw c.in-Drop.is (Resting (r.pass c.args.pass), (c.requires.pass, refl), refl)

pub returns-in_ok-pass-in-Call-clause-traced : goal.returns-in_ok-pass-in-Call-clause-traced
returns-in_ok-pass-in-Call-clause-traced g c = rw c.in-Call.is c.in_ok-pass-in-Call.ensures.traced

pub returns-in-Begin-clause-traced : goal.returns-in-Begin-clause-traced
returns-in-Begin-clause-traced g c = rw c.in-Begin.is (traces_nothing _ _ refl)

pub returns-in_ok-add_whole-in-Range-clause-traced : goal.returns-in_ok-add_whole-in-Range-clause-traced
returns-in_ok-add_whole-in-Range-clause-traced g c = rw c.in-Range.is (traces_line _ _ _ _ c.add_whole.ensures.pass c.in_ok-add_whole-in-Range.ensures.lines refl)

pub returns-in_ok-add_whole-in-Fold-clause-traced : goal.returns-in_ok-add_whole-in-Fold-clause-traced
returns-in_ok-add_whole-in-Fold-clause-traced g c = rw c.in-Fold.is (traces_line _ _ _ _ c.add_whole-in-Fold.ensures.pass c.in_ok-add_whole-in-Fold.ensures.lines refl)

pub returns-in_ok-add_whole-in-ReversedFold-clause-traced : goal.returns-in_ok-add_whole-in-ReversedFold-clause-traced
returns-in_ok-add_whole-in-ReversedFold-clause-traced g c = rw c.in-ReversedFold.is (traces_line _ _ _ _ c.add_whole-in-ReversedFold.ensures.pass c.in_ok-add_whole-in-ReversedFold.ensures.lines refl)

pub returns-in-Step-clause-traced : goal.returns-in-Step-clause-traced
returns-in-Step-clause-traced g c = rw c.in-Step.is (traces_nothing _ _ refl)

pub returns-in-Drop-clause-traced : goal.returns-in-Drop-clause-traced
returns-in-Drop-clause-traced g c = rw c.in-Drop.is (traces_nothing _ _ refl)
