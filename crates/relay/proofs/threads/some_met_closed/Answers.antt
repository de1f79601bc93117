use Rattle.std.proofs.Common.{true, subst}
use Rattle.std.proofs.lemmas.List.{take_all}
use Rattle.std.proofs.lemmas.List.Elements.{All-more}
use Rattle.std.specs.Prelude.{All}
use Rattle.relay.specs.Parts.{MayUse}
use Rattle.relay.proofs.threads.some_met_closed.Goals as goal

pub loop-one-preserved : goal.loop-one-preserved
loop-one-preserved g c =
    All-more (MayUse true) c.args.sent.now c.loop-one.one-index c.one-item.result c.loop-one-test.true c.loop-one.invariant (subst (MayUse true) c.one-item.is (c.has_met_closed.ensures c.if-has_met_closed.false))

pub returns : goal.returns
returns g c = λ e. subst (All (MayUse true)) (take_all c.loop-one.one-index c.args.sent.now c.loop-one-test.false) c.loop-one.invariant
