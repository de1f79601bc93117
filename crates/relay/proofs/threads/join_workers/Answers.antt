use Rattle.relay.specs.Pools.{pool_of}
use Rattle.relay.proofs.Closing.{DidClose_by, DidClose_not}
use Rattle.relay.proofs.threads.join_workers.Goals.{then-used, else-used}
use Rattle.relay.proofs.threads.join_workers.Goals as goal

pub returns-clause-closed : goal.returns-clause-closed
returns-clause-closed g c =
    let S = g.C.Shared in
    let pool = pool_of S.is_pass S.pass S.shape c.args.site.now.container in
    elim c.if-used.branch [
      | then-used w ↦ rw (w.closer-is, w.if-used.true) (DidClose_by pool c.args.closer c.requires.new w.close.result.0 w.close.result.1 w.close.ensures.of w.close.ensures.gives)
      | else-used w ↦ rw (w.closer-is, w.if-used.false) (DidClose_not pool c.args.closer c.requires.new c.requires.closer)
    ]
