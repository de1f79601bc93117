use Rattle.waiting.proofs.Rows.{Taken-none, Taken-more}
use Rattle.waiting.proofs.take.take_all_until_closed.Goals as goal

pub loop-init : goal.loop-init
loop-init g c = record { can = tt; finite = tt; of = c.requires.pass; taken = Taken-none _ _ _ _ }

pub loop-preserved : goal.loop-preserved
loop-preserved g c = record {
  can = tt;
  finite = tt;
  of = c.take_waiting-back.ensures.of;
  taken = Taken-more c.loop.invariant.taken (rw c.in-Ok.is at c.take_waiting-back.ensures.gives) (rw c.in-Ok.is at c.take_waiting-back.ensures.answered) c.f-folded.ensures;
}

pub returns-in-Err-clause-gives : goal.returns-in-Err-clause-gives
returns-in-Err-clause-gives g c = record {
  taken = c.loop.invariant.taken.taken;
  last = _;
  takes = c.loop.invariant.taken.takes;
  answered = c.loop.invariant.taken.answered;
  folded = c.loop.invariant.taken.folds;
  refused = rw c.in-Err.is at c.take_waiting-back.ensures.gives;
  refusal = rw c.in-Err.is at c.take_waiting-back.ensures.answered;
}
