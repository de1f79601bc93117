use Rattle.bounded_model.proofs.Consuming.{Consumed_none, Consumed_more}
use Rattle.bounded_model.proofs.consume.consume_all.Goals as goal

pub loop-init : goal.loop-init
loop-init g c = record { can = tt; finite = tt; of = c.requires.pass; consumed = Consumed_none _ _ _ _ }

pub loop-preserved : goal.loop-preserved
loop-preserved g c = record {
  can = tt;
  finite = tt;
  of = c.take-back.ensures.of;
  consumed = Consumed_more c.loop.invariant.consumed (rw c.in-Ok.is at c.take-back.ensures.gives) c.f-folded.ensures;
}

pub returns-in-Err-clause-gives : goal.returns-in-Err-clause-gives
returns-in-Err-clause-gives g c = record {
  taken = c.loop.invariant.consumed.taken;
  last = _;
  takes = c.loop.invariant.consumed.takes;
  folded = c.loop.invariant.consumed.folds;
  refused = rw c.in-Err.is at c.take-back.ensures.gives;
}
