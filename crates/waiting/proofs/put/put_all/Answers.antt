use Rattle.std.proofs.Common.{Some, None}
use Rattle.waiting.proofs.Rows.{Front-more, Front-then}
use Rattle.waiting.proofs.put.put_all.Goals as goal

pub loop-preserved : goal.loop-preserved
loop-preserved g c =
    let given = rw c.in-Some-next.is at c.next-in-loop.ensures.steps in
    let put = rw c.in_default-answer.is at c.put_waiting-back.ensures.gives in
    let answered = rw c.in_default-answer.is at c.put_waiting-back.ensures.answered in
    record {
      can = tt;
      finite = tt;
      of = c.put_waiting-back.ensures.of;
      next = rw c.in-Some-next.is at c.next-in-loop.ensures.goes.keeps;
      front = Front-more (g.C.Shared.shape c.args.c.now) c.loop.invariant.front given put answered;
    }

pub returns-in_default-clause-gives : goal.returns-in_default-clause-gives
returns-in_default-clause-gives g c = (_, Front-then (g.C.Shared.shape c.args.c.now) None c.loop.invariant.front (rw c.in_default.is at c.next-in-loop.ensures.steps))

pub returns-in-Err-clause-gives : goal.returns-in-Err-clause-gives
returns-in-Err-clause-gives g c =
    let given = rw c.in-Some-next.is at c.next-in-loop.ensures.steps in (
      _,
      _,
      Front-then (g.C.Shared.shape c.args.c.now) (Some _) c.loop.invariant.front given,
      rw c.in-Err.is at c.put_waiting-back.ensures.gives,
      rw c.in-Err.is at c.put_waiting-back.ensures.answered,
    )
