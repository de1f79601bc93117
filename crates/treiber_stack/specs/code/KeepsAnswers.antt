-- What the answers of the calls say: the laws of each.
use Rattle.std.proofs.Common.{List, [], ◌∷◌, ◌≡◌, ap, ℕ, refl, sym, ◌∙◌, ◌≤◌, length, subst, append-nil, Bool, true, false}
use Rattle.std.specs.Prelude.{Result, Ok, Err}
use Rattle.bounded_model.specs.Laws.{CloseGives, ShutGives}
use Rattle.stack_table.specs.Lines.{answered}
use Rattle.stack_machine.proofs.Made.{made_no_take}
use Rattle.bounded_model.specs.declared.history.Event.TheVariants.{Put, Hold, Take, Close, Shut as ShutEvent}
use Rattle.bounded_model.specs.declared.views.Answered as told
use Rattle.bounded_model.specs.declared.views.Answered.TheVariants.{Take as TakeAnswered, Close as CloseAnswered, Shut as ShutAnswered, Look as LookAnswered}
use Rattle.treiber_stack.specs.Prelude.{Adds, AnswerClose, AnswerLook, AnswerShut, AnswerTake, Answers, BacksOut, Call, CallPut, CallTake}
use Rattle.treiber_stack.specs.Prelude.{Close as CloseCall, CloseFirst, Deeds, Ended, Event, Free, Limits, Line, Look as LookCall, LookFirst}
use Rattle.treiber_stack.specs.Prelude.{LookGives, One, Operation, PassView, Put as PutCall, PutClosed as Closed, PutFull as Full, PutGives}
use Rattle.treiber_stack.specs.Prelude.{PutRefused, PutSpent as Spent, Shut as ShutCall, ShutFirst, Take as TakeCall, TakeFirst, TakeGives}
use Rattle.treiber_stack.specs.Prelude.{TakeRefused, View, call_of, ends, gave_back, handed_back, holds_of, in_list, made_refusal, own, pass_of}
use Rattle.treiber_stack.specs.Prelude.{put_answered}
use Rattle.treiber_stack.specs.code.Putting.{put_answer, Answer as PutAnswer, put_account}
use Rattle.treiber_stack.specs.code.Machine.{machine_for, shape_at, is_call, Answered}
use Rattle.treiber_stack.specs.code.Taking.{Answer as TakeAnswer, take_account}
use Rattle.treiber_stack.specs.code.Closing.{mark_account}
use Rattle.treiber_stack.specs.code.Looking.{look_account}

head_or : {T : Type 0} → T → List T → T
head_or d [] = d
head_or d (x ∷ xs) = x

same_head : {T : Type 0} (x y : T) → ◌≡◌ {A = List T} (x ∷ []) (y ∷ []) → x ≡ y
unfolding head_or
same_head x y e = ap (head_or x) e

-- what a put of one value has answered, as its pass keeps it
answered_put : {T : Type 0} (r : Result ℕ (PutRefused T)) → answered (put_answer r) ≡ put_answered r
answered_put (Ok n) = refl
answered_put (Err (Full v)) = refl
answered_put (Err (Closed v)) = refl
answered_put (Err (Spent v word t)) = refl

module _ {T : Type 0} (rule : List (Event T) → Type 0) (k : Limits) {o : Operation T} {v : View T (Line T)} {begun : PassView T} {l : Line T} where
  -- an operation of any kind has added its own events
  pub adds_of : (e : Ended (machine_for rule k) o v begun l) (events : List (Event T)) → own (pass_of v).number e.deeds.between ≡ events → Adds begun (pass_of v) events
  adds_of e events made = record {
    number = e.number;
    steps = e.steps;
    between = e.deeds.between;
    seen = e.deeds.is;
    own_events = ap (λ (n : ℕ). own n e.deeds.between) (sym e.number) ∙ made;
  }

module _ {T : Type 0} (rule : List (Event T) → Type 0) (k : Limits) (o : Operation T) (v : View T (Line T)) (begun : PassView T) where
  module _ (x : T) where
    abbrev EndsSo : Result ℕ (PutRefused T) → Type 0
    EndsSo r = Ended (machine_for rule k) o v begun (ends (put_answer r))

    abbrev Done : Result ℕ (PutRefused T) → Type 0
    Done r = Deeds (shape_at k) (pass_of v).number (CallPut x []) (ends (put_answer r)) begun.seen (pass_of v).seen

    adds : (r : Result ℕ (PutRefused T)) (e : EndsSo r) (d : Done r) (events : List (Event T)) → own (pass_of v).number d.between ≡ events → Adds begun (pass_of v) events
    adds r e d events made = record {
      number = e.number;
      steps = e.steps;
      between = d.between;
      seen = d.is;
      own_events = ap (λ (n : ℕ). own n d.between) (sym e.number) ∙ made;
    }

    backs : (why : PutRefused T) (e : EndsSo (Err why)) (d : Done (Err why)) → length (handed_back (in_list why)) ≡ 1 → BacksOut begun (pass_of v) 1
    backs why e d one =
        let made = made_refusal (pass_of v).number (own (pass_of v).number d.between) (CallPut x []) (in_list why) d.made in
        record { held = made.nodes; at_most = subst (λ (n : ℕ). made.nodes ≤ n) one made.at_most; adds = adds (Err why) e d (gave_back begun.number made.nodes) (made.is ∙ ap (λ (n : ℕ). gave_back n made.nodes) e.number) }

    gives_so : (r : Result ℕ (PutRefused T)) → EndsSo r → Done r → PutGives (shape_at k) begun x (pass_of v) r
    gives_so (Ok t) e d =
        let all : d.made.values ≡ x ∷ [] = sym (append-nil d.made.values) ∙ d.made.all in
        adds (Ok t) e d (Put begun.number (x ∷ []) t ∷ Hold begun.number ∷ [])
        (d.made.is ∙ ap (λ (vs : List T). Put (pass_of v).number vs t ∷ holds_of (pass_of v).number (length vs)) all ∙ ap (λ (j : ℕ). Put j (x ∷ []) t ∷ Hold j ∷ []) e.number)
    gives_so (Err (Full y)) e d = (same_head y x d.made.0, adds (Err (Full y)) e d [] d.made.1, e.tells)
    gives_so (Err (Closed y)) e d = (same_head y x d.made.0, backs (Closed y) e d refl, e.tells)
    gives_so (Err (Spent y word t)) e d = (same_head y x d.made.0, backs (Spent y word t) e d refl, e.tells)

    pub put_gives : (a : PutAnswer T) → is_call (PutCall x) o → Ended (machine_for rule k) o v begun ((put_account k).answer o a)
        → PutGives (shape_at k) begun x (pass_of v) a.reply × Answers begun (pass_of v) (put_answered a.reply)
    put_gives a is e = (
      gives_so a.reply e (subst (λ (call : Call T). Deeds (shape_at k) (pass_of v).number call (ends (put_answer a.reply)) begun.seen (pass_of v).seen) (ap call_of is) e.deeds),
      subst (λ (said : told.Answered T). Answers begun (pass_of v) said) (answered_put a.reply) e.answered,
    )

  took : (r : Result (T × ℕ) TakeRefused) → Ended (machine_for rule k) TakeFirst v begun (ends (AnswerTake r)) → TakeGives (shape_at k) begun (pass_of v) r
  took (Ok r) e = adds_of rule k e (Free begun.number 1 ∷ Take begun.number r.0 r.1 ∷ []) (e.deeds.made ∙ ap (λ (n : ℕ). Free n 1 ∷ Take n r.0 r.1 ∷ []) e.number)
  took (Err why) e = (adds_of rule k e [] (made_no_take (pass_of v).number (own (pass_of v).number e.deeds.between) (CallTake One) why e.deeds.made), e.tells)

  pub take_gives : (a : TakeAnswer T) → is_call TakeCall o → Ended (machine_for rule k) o v begun ((take_account k).answer o a)
      → TakeGives (shape_at k) begun (pass_of v) a.reply × Answers begun (pass_of v) (TakeAnswered a.reply)
  take_gives a is e = (took a.reply (subst (λ (o : Operation T). Ended (machine_for rule k) o v begun ((take_account k).answer o a)) is e), e.answered)

  closed : (done : Bool) → Ended (machine_for rule k) CloseFirst v begun (ends (AnswerClose done)) → CloseGives (shape_at k) begun (pass_of v) done
  closed true e = adds_of rule k e (Close begun.number ∷ []) (e.deeds.made ∙ ap (λ (n : ℕ). Close n ∷ []) e.number)
  closed false e = (adds_of rule k e [] e.deeds.made, e.tells)

  pub close_gives : (a : Answered Bool) → is_call CloseCall o → Ended (machine_for rule k) o v begun ((mark_account k).answer o a)
      → CloseGives (shape_at k) begun (pass_of v) a.reply × Answers begun (pass_of v) (CloseAnswered a.reply)
  close_gives a is e = let e' = subst (λ (o : Operation T). Ended (machine_for rule k) o v begun ((mark_account k).answer o a)) is e in (closed a.reply e', e'.answered)

  was_shut : (done : Bool) → Ended (machine_for rule k) ShutFirst v begun (ends (AnswerShut done)) → ShutGives (shape_at k) begun (pass_of v) done
  was_shut true e = adds_of rule k e (ShutEvent begun.number ∷ []) (e.deeds.made ∙ ap (λ (n : ℕ). ShutEvent n ∷ []) e.number)
  was_shut false e = (adds_of rule k e [] e.deeds.made, e.tells)

  pub shut_gives : (a : Answered Bool) → is_call ShutCall o → Ended (machine_for rule k) o v begun ((mark_account k).answer o a)
      → ShutGives (shape_at k) begun (pass_of v) a.reply × Answers begun (pass_of v) (ShutAnswered a.reply)
  shut_gives a is e = let e' = subst (λ (o : Operation T). Ended (machine_for rule k) o v begun ((mark_account k).answer o a)) is e in (was_shut a.reply e', e'.answered)

  pub looked : (empty : Bool) → Ended (machine_for rule k) LookFirst v begun (ends (AnswerLook empty)) → LookGives (shape_at k) begun (pass_of v) empty
  looked empty e = (adds_of rule k e [] e.deeds.made, e.tells)

  pub look_gives : (a : Answered Bool) → is_call LookCall o → Ended (machine_for rule k) o v begun ((look_account k).answer o a)
      → LookGives (shape_at k) begun (pass_of v) a.reply × Answers begun (pass_of v) (LookAnswered a.reply)
  look_gives a is e = (looked a.reply (subst (λ (o : Operation T). Ended (machine_for rule k) o v begun ((look_account k).answer o a)) is e), e.answered)

-- and what each operation promises of the call that it makes
module _ {T : Type 0} (k : Limits) where
  abbrev pub put_promises : Operation T → PassView T → PassView T → Result ℕ (PutRefused T) → Type 0
  put_promises o begun now r = (x : T) → is_call (PutCall x) o → PutGives (shape_at k) begun x now r × Answers begun now (put_answered r)

  abbrev pub take_promises : Operation T → PassView T → PassView T → Result (T × ℕ) TakeRefused → Type 0
  take_promises o begun now r = is_call TakeCall o → TakeGives (shape_at k) begun now r × Answers begun now (TakeAnswered r)

  -- a mark is set by a close or a shut
  pub record mark_promises (o : Operation T) (begun now : PassView T) (r : Bool) : Type 0 where
    pub closes : is_call CloseCall o → CloseGives (shape_at k) begun now r × Answers begun now (CloseAnswered r)
    pub shuts : is_call ShutCall o → ShutGives (shape_at k) begun now r × Answers begun now (ShutAnswered r)

  abbrev pub look_promises : Operation T → PassView T → PassView T → Bool → Type 0
  look_promises o begun now r = is_call LookCall o → LookGives (shape_at k) begun now r × Answers begun now (LookAnswered r)

-- and so it gives what it promises
module _ {T : Type 0} (rule : List (Event T) → Type 0) (k : Limits) where
  module _ (o : Operation T) (v : View T (Line T)) (begun : PassView T) where
    pub put_given : (a : PutAnswer T) → Ended (machine_for rule k) o v begun ((put_account k).answer o a) → put_promises k o begun (pass_of v) a.reply
    put_given a e x is = put_gives rule k o v begun x a is e

    pub take_given : (a : TakeAnswer T) → Ended (machine_for rule k) o v begun ((take_account k).answer o a) → take_promises k o begun (pass_of v) a.reply
    take_given a e is = take_gives rule k o v begun a is e

    pub mark_given : (a : Answered Bool) → Ended (machine_for rule k) o v begun ((mark_account k).answer o a) → mark_promises k o begun (pass_of v) a.reply
    mark_given a e = record { closes = λ is. close_gives rule k o v begun a is e; shuts = λ is. shut_gives rule k o v begun a is e }

    pub look_given : (a : Answered Bool) → Ended (machine_for rule k) o v begun ((look_account k).answer o a) → look_promises k o begun (pass_of v) a.reply
    look_given a e is = look_gives rule k o v begun a is e
