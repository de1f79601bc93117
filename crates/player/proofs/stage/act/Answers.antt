use Rattle.std.proofs.Common.{refl}
use Rattle.player.specs.Shows.{reading_of}
use Rattle.player.proofs.Lines.{traced_alone}
use Rattle.player.proofs.Showing.{acts_alone, if_ok_more}
use Rattle.player.proofs.Tracing.{traces_as, traces_nothing}
use Rattle.player.proofs.stage.act.Goals as goal

pub other_letter-other-requires : goal.other_letter-other-requires
other_letter-other-requires g c = c.requires.fit.another c.in-Meet.other c.in-Meet.is

pub returns-in-Meet-clause-acts : goal.returns-in-Meet-clause-acts
returns-in-Meet-clause-acts g c world on = rw (c.in-Meet.is, ← c.other_letter-other.ensures.same) (c.meet.ensures.meets world on)

pub returns-in_default-clause-acts : goal.returns-in_default-clause-acts
returns-in_default-clause-acts g c world on =
    let r = reading_of g.C.Container g.C.Stepwise c.args.container.now in
    if_ok_more c.act_alone.result (λ said did. (did.0, did.1, acts_alone r.shape world c.args.trace.now.pass.0 c.args.act said did.0 c.in_default.not-Meet did.2)) (c.act_alone.ensures.acts world on)

pub returns-in-Meet-clause-traced : goal.returns-in-Meet-clause-traced
returns-in-Meet-clause-traced g c world on =
    let m = c.meet.ensures.meets world on in
    rw (c.in-Meet.is, ← c.other_letter-other.ensures.same) (traces_nothing _ _ (m.0, m.1, record { does = m.2; none = refl; kept = c.meet.ensures.kept }))

pub returns-in_default-clause-traced : goal.returns-in_default-clause-traced
returns-in_default-clause-traced g c world on =
    let r = reading_of g.C.Container g.C.Stepwise c.args.container.now in
    if_ok_more c.act_alone.result (λ said traces. traces_as _ _ _ _ traces (λ lines did. (did.0, did.1, traced_alone r g.C.Named.is_step world _ c.args.trace.now.pass c.args.act said lines did.0 _ c.in_default.not-Meet did.2))) (c.act_alone.ensures.traced world on refl)
