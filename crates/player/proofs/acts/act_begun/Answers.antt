use Rattle.std.proofs.Common.{refl}
use Rattle.player.specs.Shows.{reading_of}
use Rattle.player.specs.Plays.{Nobody, Acting}
use Rattle.player.proofs.Showing.{is_busy}
use Rattle.player.proofs.Lines.{busy_lines}
use Rattle.player.proofs.Tracing.{traces_nothing}
use Rattle.player.proofs.acts.act_begun.Goals as goal

pub returns-in-Step-clause-told : goal.returns-in-Step-clause-told
returns-in-Step-clause-told g c call u shows = rw c.in-Step.is (c.make_steps.ensures.told call u shows)

pub returns-in-Drop-clause-told : goal.returns-in-Drop-clause-told
returns-in-Drop-clause-told g c call u shows = rw c.in-Drop.is (Nobody, tt, (refl, refl))

pub returns-in_default-clause-told : goal.returns-in_default-clause-told
returns-in_default-clause-told g c call u shows = (Acting call u, shows, is_busy (reading_of g.C.Container g.C.Stepwise c.args.container.now).shape call u c.args.act c.in_default.not-Step c.in_default.not-Drop)

pub returns-in-Step-clause-traced : goal.returns-in-Step-clause-traced
returns-in-Step-clause-traced g c = rw c.in-Step.is c.make_steps.ensures.traced

pub returns-in-Drop-clause-traced : goal.returns-in-Drop-clause-traced
returns-in-Drop-clause-traced g c start = rw c.in-Drop.is (traces_nothing _ _ (λ call making. (refl, refl)))

pub returns-in_default-clause-traced : goal.returns-in_default-clause-traced
returns-in_default-clause-traced g c start =
    traces_nothing _ _ (λ call making. busy_lines (reading_of g.C.Container g.C.Stepwise c.args.container.now) g.C.Named.is_step _ call c.args.begun c.args.act c.in_default.not-Step c.in_default.not-Drop)
