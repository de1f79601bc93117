-- What the answers of the calls say.
use Rattle.std.specs.Prelude.{◌≡◌, ℕ, List, [], ◌∷◌, Result, Ok, Err, Bool, true, false}
use Rattle.std.proofs.Common.{sym, ap, ◌∙◌, subst}
use Rattle.bounded_model.specs.Histories.{own}
use Rattle.bounded_model.specs.Laws.{CloseGives, ShutGives}
use Rattle.bounded_model.specs.declared.answers.TakeRefused.TheVariants.{Empty, Closed, Shut as TakeShut, Spent}
use Rattle.bounded_model.specs.declared.history.Event.TheVariants.{Take, Free, Close, Shut}
use Rattle.queue_table.proofs.Gives as gives
use Rattle.queue_table.specs.Lines.{call_of}
use Rattle.bounded_model.specs.declared.views.Answered.TheVariants.{Take as TakeAnswered, Close as CloseAnswered, Shut as ShutAnswered, Look as LookAnswered}
use Rattle.ms_queue.specs.Prelude.{Adds, AnswerClose, AnswerLook, AnswerShut, AnswerTake, Answers, Close as CloseCall, CloseFirst, Ended, Event}
use Rattle.ms_queue.specs.Prelude.{Limits, Line, Look as LookCall, LookFirst, LookGives, Operation, PassView, Put as PutCall, PutGives, PutRefused}
use Rattle.ms_queue.specs.Prelude.{Shut as ShutCall, ShutFirst, Take as TakeCall, TakeFirst, TakeGives, TakeRefused, View, ends, pass_of, put_answered}
use Rattle.ms_queue.specs.code.Machine.{machine_for, shape_at, is_call, Answered}
use Rattle.ms_queue.specs.code.Putting.{Answer as PutAnswer, put_account}
use Rattle.ms_queue.specs.code.Taking.{Answer as TakeAnswer, take_account}
use Rattle.ms_queue.specs.code.Closing.{close_account}
use Rattle.ms_queue.specs.code.Shutting.{shut_account}
use Rattle.ms_queue.specs.code.Looking.{look_account}

module _ {T : Type 0} (k : Limits) where
  -- what each operation promises of the call that it makes
  abbrev pub put_promises : Operation T → PassView T → PassView T → Result ℕ (PutRefused T) → Type 0
  put_promises o begun now r = (x : T) → is_call (PutCall x) o → PutGives (shape_at T k) begun x now r × Answers begun now (put_answered r)

  abbrev pub take_promises : Operation T → PassView T → PassView T → Result (T × ℕ) TakeRefused → Type 0
  take_promises o begun now r = is_call TakeCall o → TakeGives (shape_at T k) begun now r × Answers begun now (TakeAnswered r)

  abbrev pub close_promises : Operation T → PassView T → PassView T → Bool → Type 0
  close_promises o begun now r = is_call CloseCall o → CloseGives (shape_at T k) begun now r × Answers begun now (CloseAnswered r)

  abbrev pub shut_promises : Operation T → PassView T → PassView T → Bool → Type 0
  shut_promises o begun now r = is_call ShutCall o → ShutGives (shape_at T k) begun now r × Answers begun now (ShutAnswered r)

  abbrev pub look_promises : Operation T → PassView T → PassView T → Bool → Type 0
  look_promises o begun now r = is_call LookCall o → LookGives (shape_at T k) begun now r × Answers begun now (LookAnswered r)

module _ {T : Type 0} (rule : List (Event T) → Type 0) (k : Limits) where
  -- an operation of any kind has added its own events
  pub adds_of : {o : Operation T} {v : View T (Line T)} {begun : PassView T} {l : Line T} (e : Ended (machine_for rule k) o v begun l) (events : List (Event T)) → own (pass_of v).number e.deeds.between ≡ events → Adds begun (pass_of v) events
  adds_of e events made = record {
    number = e.number;
    steps = e.steps;
    between = e.deeds.between;
    seen = e.deeds.is;
    own_events = ap (λ (n : ℕ). own n e.deeds.between) (sym e.number) ∙ made;
  }

  module _ {v : View T (Line T)} {begun : PassView T} where
    took : (r : Result (T × ℕ) TakeRefused) → Ended (machine_for rule k) TakeFirst v begun (ends (AnswerTake r)) → TakeGives (shape_at T k) begun (pass_of v) r
    took (Ok r) e = adds_of e (Free begun.number 1 ∷ Take begun.number r.0 r.1 ∷ []) (e.deeds.made ∙ ap (λ (n : ℕ). Free n 1 ∷ Take n r.0 r.1 ∷ []) e.number)
    took (Err Empty) e = (adds_of e [] e.deeds.made, e.tells)
    took (Err Closed) e = (adds_of e [] e.deeds.made, e.tells)
    took (Err TakeShut) e = (adds_of e [] e.deeds.made, e.tells)
    took (Err (Spent word t)) e = absurd e.deeds.made

    closed : (b : Bool) → Ended (machine_for rule k) CloseFirst v begun (ends (AnswerClose b)) → CloseGives (shape_at T k) begun (pass_of v) b
    closed true e = adds_of e (Close begun.number ∷ []) (e.deeds.made ∙ ap (λ (n : ℕ). Close n ∷ []) e.number)
    closed false e = (adds_of e [] e.deeds.made, e.tells)

    shut : (b : Bool) → Ended (machine_for rule k) ShutFirst v begun (ends (AnswerShut b)) → ShutGives (shape_at T k) begun (pass_of v) b
    shut true e = adds_of e (Shut begun.number ∷ []) (e.deeds.made ∙ ap (λ (n : ℕ). Shut n ∷ []) e.number)
    shut false e = (adds_of e [] e.deeds.made, e.tells)

    looked : (b : Bool) → Ended (machine_for rule k) LookFirst v begun (ends (AnswerLook b)) → LookGives (shape_at T k) begun (pass_of v) b
    looked b e = (adds_of e [] e.deeds.made, e.tells)

  -- an operation that makes a call gives what the call gives
  module _ (o : Operation T) (v : View T (Line T)) (begun : PassView T) where
    abbrev EndsAt : Operation T → Line T → Type 0
    EndsAt o l = Ended (machine_for rule k) o v begun l

    pub put_gives : (x : T) (a : PutAnswer T) → is_call (PutCall x) o → EndsAt o ((put_account k).answer o a)
        → PutGives (shape_at T k) begun x (pass_of v) a.reply × Answers begun (pass_of v) (put_answered a.reply)
    put_gives x a is e = (gives.put_gives {rule = rule} k x o v begun (ap call_of is) a.reply e, e.answered)

    pub take_gives : (a : TakeAnswer T) → is_call TakeCall o → EndsAt o ((take_account k).answer o a)
        → TakeGives (shape_at T k) begun (pass_of v) a.reply × Answers begun (pass_of v) (TakeAnswered a.reply)
    take_gives a is e = (took a.reply (subst (λ (o : Operation T). EndsAt o ((take_account k).answer o a)) is e), e.answered)

    pub close_gives : (a : Answered Bool) → is_call CloseCall o → EndsAt o ((close_account k).answer o a)
        → CloseGives (shape_at T k) begun (pass_of v) a.reply × Answers begun (pass_of v) (CloseAnswered a.reply)
    close_gives a is e = (closed a.reply (subst (λ (o : Operation T). EndsAt o ((close_account k).answer o a)) is e), e.answered)

    pub shut_gives : (a : Answered Bool) → is_call ShutCall o → EndsAt o ((shut_account k).answer o a)
        → ShutGives (shape_at T k) begun (pass_of v) a.reply × Answers begun (pass_of v) (ShutAnswered a.reply)
    shut_gives a is e = (shut a.reply (subst (λ (o : Operation T). EndsAt o ((shut_account k).answer o a)) is e), e.answered)

    pub look_gives : (a : Answered Bool) → is_call LookCall o → EndsAt o ((look_account k).answer o a)
        → LookGives (shape_at T k) begun (pass_of v) a.reply × Answers begun (pass_of v) (LookAnswered a.reply)
    look_gives a is e = (looked a.reply (subst (λ (o : Operation T). EndsAt o ((look_account k).answer o a)) is e), e.answered)

  -- and so it gives what it promises
  module _ (o : Operation T) (v : View T (Line T)) (begun : PassView T) where
    pub put_given : (a : PutAnswer T) → Ended (machine_for rule k) o v begun ((put_account k).answer o a) → put_promises k o begun (pass_of v) a.reply
    put_given a e x is = put_gives o v begun x a is e

    pub take_given : (a : TakeAnswer T) → Ended (machine_for rule k) o v begun ((take_account k).answer o a) → take_promises k o begun (pass_of v) a.reply
    take_given a e is = take_gives o v begun a is e

    pub close_given : (a : Answered Bool) → Ended (machine_for rule k) o v begun ((close_account k).answer o a) → close_promises k o begun (pass_of v) a.reply
    close_given a e is = close_gives o v begun a is e

    pub shut_given : (a : Answered Bool) → Ended (machine_for rule k) o v begun ((shut_account k).answer o a) → shut_promises k o begun (pass_of v) a.reply
    shut_given a e is = shut_gives o v begun a is e

    pub look_given : (a : Answered Bool) → Ended (machine_for rule k) o v begun ((look_account k).answer o a) → look_promises k o begun (pass_of v) a.reply
    look_given a e is = look_gives o v begun a is e
