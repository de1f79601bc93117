use Rattle.std.proofs.Common.{of_calls, Ok, Err, subst, sym}
use Rattle.bounded_model.specs.declared.answers.TakeRefused.{TakeRefused}
use Rattle.bounded_model.specs.Laws.{TakeGives}
use Rattle.waiting.proofs.Trying.{Tried-none, Tried-more, Refused-none, Refused-more, take_after}
use Rattle.waiting.proofs.take.take_waiting_with.Goals as goal

pub loop-init : goal.loop-init
loop-init g c = record { can = tt; finite = tt; call = c.requires.call; of = c.requires.pass; tried = Tried-none _; refused = Refused-none _ }

pub returns-in-Ok-clause-gives : goal.returns-in-Ok-clause-gives
returns-in-Ok-clause-gives g c =
    take_after (g.C.Shared.shape c.args.c.now) (g.C.Shared.pass c.take-back.result.0) (Ok c.in-Ok.taken) c.loop.invariant.tried (rw c.in-Ok.is at c.take-back.ensures.gives)

pub returns-in-Some-stop_of-clause-gives : goal.returns-in-Some-stop_of-clause-gives
returns-in-Some-stop_of-clause-gives g c =
    let shape = g.C.Shared.shape c.args.c.now in
    let w = g.C.Shared.pass c.take-back.result.0 in
    let gives = take_after shape w (Err c.in-Err.refused) c.loop.invariant.tried (rw c.in-Err.is at c.take-back.ensures.gives) in
    subst (λ (why : TakeRefused). TakeGives shape (g.C.Shared.pass c.args.by) w (Err why)) (sym c.in-Some-stop_of.ensures) gives

pub loop-preserved : goal.loop-preserved
loop-preserved g c =
    let gives = rw c.in-Err.is at c.take-back.ensures.gives in
    record {
      can = tt;
      finite = tt;
      call = search of_calls;
      of = c.take-back.ensures.of;
      tried = Tried-more c.loop.invariant.tried gives.0;
      refused = Refused-more c.loop.invariant.refused (rw (c.in-Err.is, c.in_default.ensures) at c.take-back.ensures.answered);
    }
