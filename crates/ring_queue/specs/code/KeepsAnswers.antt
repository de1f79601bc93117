-- What the answers of the calls say: the laws of the program.
use Rattle.std.proofs.Common.{ap, subst}
use Rattle.std.specs.Prelude.{Bool, ℕ, List, Result}
use Rattle.bounded_model.specs.Laws.{CloseGives, ShutGives}
use Rattle.ring_table.specs.Lines.{call_of}
use Rattle.ring_table.proofs.Gives as gives
use Rattle.bounded_model.specs.declared.views.Answered.TheVariants.{Take as TakeAnswered, Close as CloseAnswered, Shut as ShutAnswered, Look as LookAnswered}
use Rattle.ring_queue.specs.Prelude.{Answers, Close as CloseCall, Ended, Event, Limits, Look as LookCall, LookGives, Operation, PassView, Put as PutCall}
use Rattle.ring_queue.specs.Prelude.{PutGives, PutRefused, SeatLine, Shut as ShutCall, Take as TakeCall, TakeGives, TakeRefused, View, capacity_of}
use Rattle.ring_queue.specs.Prelude.{pass_of, passes_of, put_answered}
use Rattle.ring_queue.specs.code.Machine.{is_call, laps_at, machine_for, shape_at, Answered}
use Rattle.ring_queue.specs.code.Putting.{Answer as PutAnswer, put_account}
use Rattle.ring_queue.specs.code.Taking.{Answer as TakeAnswer, take_account}
use Rattle.ring_queue.specs.code.Closing.{mark_account}
use Rattle.ring_queue.specs.code.Looking.{look_account}

module _ {T : Type 0} (rule : List (Event T) → Type 0) (k : Limits) (o : Operation T) (v : View T (SeatLine T)) (begun : PassView T) where
  pub put_gives : (x : T) (a : PutAnswer T) → is_call (PutCall x) o → Ended (machine_for rule k) o v begun ((put_account k).answer o a)
      → PutGives (shape_at T k) begun x (pass_of v) a.reply × Answers begun (pass_of v) (put_answered a.reply)
  put_gives x a is e = (gives.put_gives rule (capacity_of k) (laps_at k) (passes_of k) v begun a.kept.index o x (ap call_of is) a.reply e, e.answered)

  pub take_gives : (a : TakeAnswer T) → is_call TakeCall o → Ended (machine_for rule k) o v begun ((take_account k).answer o a)
      → TakeGives (shape_at T k) begun (pass_of v) a.reply × Answers begun (pass_of v) (TakeAnswered a.reply)
  take_gives a is e = (gives.take_gives rule (capacity_of k) (laps_at k) (passes_of k) v begun a.kept.index a.reply (subst (λ (o : Operation T). Ended (machine_for rule k) o v begun ((take_account k).answer o a)) is e), e.answered)

  pub close_gives : (a : Answered Bool) → is_call CloseCall o → Ended (machine_for rule k) o v begun ((mark_account k).answer o a)
      → CloseGives (shape_at T k) begun (pass_of v) a.reply × Answers begun (pass_of v) (CloseAnswered a.reply)
  close_gives a is e = let e' = subst (λ (o : Operation T). Ended (machine_for rule k) o v begun ((mark_account k).answer o a)) is e in (gives.close_gives rule (capacity_of k) (laps_at k) (passes_of k) v begun a.kept.index a.reply e', e'.answered)

  pub shut_gives : (a : Answered Bool) → is_call ShutCall o → Ended (machine_for rule k) o v begun ((mark_account k).answer o a)
      → ShutGives (shape_at T k) begun (pass_of v) a.reply × Answers begun (pass_of v) (ShutAnswered a.reply)
  shut_gives a is e = let e' = subst (λ (o : Operation T). Ended (machine_for rule k) o v begun ((mark_account k).answer o a)) is e in (gives.shut_gives rule (capacity_of k) (laps_at k) (passes_of k) v begun a.kept.index a.reply e', e'.answered)

  pub look_gives : (a : Answered Bool) → is_call LookCall o → Ended (machine_for rule k) o v begun ((look_account k).answer o a)
      → LookGives (shape_at T k) begun (pass_of v) a.reply × Answers begun (pass_of v) (LookAnswered a.reply)
  look_gives a is e = (gives.look_gives rule (capacity_of k) (laps_at k) (passes_of k) v begun a.kept.index a.reply (subst (λ (o : Operation T). Ended (machine_for rule k) o v begun ((look_account k).answer o a)) is e), e.answered)

-- and what each operation promises of the call that it makes
module _ {T : Type 0} (k : Limits) where
  abbrev pub put_promises : Operation T → PassView T → PassView T → Result ℕ (PutRefused T) → Type 0
  put_promises o begun now r = (x : T) → is_call (PutCall x) o → PutGives (shape_at T k) begun x now r × Answers begun now (put_answered r)

  abbrev pub take_promises : Operation T → PassView T → PassView T → Result (T × ℕ) TakeRefused → Type 0
  take_promises o begun now r = is_call TakeCall o → TakeGives (shape_at T k) begun now r × Answers begun now (TakeAnswered r)

  -- a mark is set by a close or a shut
  pub record mark_promises (o : Operation T) (begun now : PassView T) (r : Bool) : Type 0 where
    pub closes : is_call CloseCall o → CloseGives (shape_at T k) begun now r × Answers begun now (CloseAnswered r)
    pub shuts : is_call ShutCall o → ShutGives (shape_at T k) begun now r × Answers begun now (ShutAnswered r)

  abbrev pub look_promises : Operation T → PassView T → PassView T → Bool → Type 0
  look_promises o begun now r = is_call LookCall o → LookGives (shape_at T k) begun now r × Answers begun now (LookAnswered r)

-- and gives
module _ {T : Type 0} (rule : List (Event T) → Type 0) (k : Limits) where
  module _ (o : Operation T) (v : View T (SeatLine T)) (begun : PassView T) where
    pub put_given : (a : PutAnswer T) → Ended (machine_for rule k) o v begun ((put_account k).answer o a) → put_promises k o begun (pass_of v) a.reply
    put_given a e x is = put_gives rule k o v begun x a is e

    pub take_given : (a : TakeAnswer T) → Ended (machine_for rule k) o v begun ((take_account k).answer o a) → take_promises k o begun (pass_of v) a.reply
    take_given a e is = take_gives rule k o v begun a is e

    pub mark_given : (a : Answered Bool) → Ended (machine_for rule k) o v begun ((mark_account k).answer o a) → mark_promises k o begun (pass_of v) a.reply
    mark_given a e = record { closes = λ is. close_gives rule k o v begun a is e; shuts = λ is. shut_gives rule k o v begun a is e }

    pub look_given : (a : Answered Bool) → Ended (machine_for rule k) o v begun ((look_account k).answer o a) → look_promises k o begun (pass_of v) a.reply
    look_given a e is = look_gives rule k o v begun a is e
