use Rattle.std.proofs.Common.{of_calls, refl, ◌∙◌, Ok, Err}
use Rattle.bounded_model.specs.declared.answers.PutRefused.TheVariants.{Closed, Spent}
use Rattle.waiting.proofs.Trying.{Tried-none, Tried-more, Refused-none, Refused-more, put_after}
use Rattle.waiting.proofs.put.put_waiting_with.Goals as goal

pub loop-init : goal.loop-init
loop-init g c = record { can = tt; finite = tt; call = c.requires.call; of = c.requires.pass; value = refl; tried = Tried-none _; refused = Refused-none _ }

pub loop-preserved : goal.loop-preserved
loop-preserved g c =
    let gives = rw (c.in-Err-Full.is, c.in-Err-Full.field-0-is) at c.put-back.ensures.gives in
    let handed_back = gives.0 ∙ c.loop.invariant.value in
    let answered = rw (c.in-Err-Full.is, c.in-Err-Full.field-0-is, handed_back) at c.put-back.ensures.answered in
    record {
      can = tt;
      finite = tt;
      call = search of_calls;
      of = c.put-back.ensures.of;
      value = handed_back;
      tried = Tried-more c.loop.invariant.tried gives.1;
      refused = Refused-more c.loop.invariant.refused answered;
    }

pub returns-in-Ok-clause-gives : goal.returns-in-Ok-clause-gives
returns-in-Ok-clause-gives g c =
    put_after (g.C.Shared.shape c.args.c.now) (g.C.Shared.pass c.put-back.result.0) c.args.value (Ok c.in-Ok.number) c.loop.invariant.tried (rw (c.in-Ok.is, c.loop.invariant.value) at c.put-back.ensures.gives)

pub returns-in-Err-Closed-clause-gives : goal.returns-in-Err-Closed-clause-gives
returns-in-Err-Closed-clause-gives g c =
    put_after (g.C.Shared.shape c.args.c.now) (g.C.Shared.pass c.put-back.result.0) c.args.value (Err (Closed c.in-Err-Closed.refused)) c.loop.invariant.tried (rw (c.in-Err-Closed.is, c.in-Err-Closed.field-0-is, c.loop.invariant.value) at c.put-back.ensures.gives)

pub returns-in-Err-Spent-clause-gives : goal.returns-in-Err-Spent-clause-gives
returns-in-Err-Spent-clause-gives g c =
    put_after (g.C.Shared.shape c.args.c.now) (g.C.Shared.pass c.put-back.result.0) c.args.value (Err (Spent c.in-Err-Spent.refused _ _)) c.loop.invariant.tried (rw (c.in-Err-Spent.is, c.in-Err-Spent.field-0-is, c.loop.invariant.value) at c.put-back.ensures.gives)
