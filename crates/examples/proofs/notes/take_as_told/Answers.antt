use Rattle.examples.proofs.Hearing.{right_since}
use Rattle.examples.proofs.notes.take_as_told.Goals as goal

pub returns-clause-since : goal.returns-clause-since
returns-clause-since g c =
    right_since (g.C.Container.shape c.args.container.now) (g.C.Container.told c.args.note) (g.C.Container.pass c.heed.new.by) (g.C.Container.pass c.take.result.0) c.take.result.1 c.heed.ensures.gives.heard c.take.ensures.gives
