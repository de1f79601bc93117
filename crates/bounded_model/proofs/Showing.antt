-- Each call of the sequential list is a call of the bounded machine.
use Rattle.std.proofs.Common.{◌≡◌, ℕ, ◌+◌, ◌-◌, ◌<◌, ◌≤◌, List, [], ◌∷◌, ◌++◌, refl, sym, ap, ◌∙◌, subst, length, Bool, true, false, arith, Result, Ok, Err}
use Rattle.std.specs.Prelude.{nat_le, if◌then◌else◌, not}
use Rattle.std.proofs.lemmas.Bool.Decides.{nat_tests}
use Rattle.bounded_model.specs.declared.history.Order.{Order}
use Rattle.bounded_model.specs.declared.history.Order.TheVariants.{Fifo, Lifo}
use Rattle.bounded_model.specs.declared.history.Event.{Event}
use Rattle.bounded_model.specs.declared.history.Event.TheVariants.{Hold, Put, Take, Free}
use Rattle.bounded_model.specs.declared.answers.PutRefused.{PutRefused}
use Rattle.bounded_model.specs.declared.answers.PutRefused.TheVariants.{Full, Closed as ClosedToPuts, Spent as SpentPut}
use Rattle.bounded_model.specs.declared.answers.Word.TheVariants.{Count}
use Rattle.bounded_model.specs.declared.answers.TakeRefused.{TakeRefused}
use Rattle.bounded_model.specs.declared.answers.TakeRefused.TheVariants.{Empty, Closed as EmptyAndClosed, Spent as SpentTake, Shut as ShutToTakes}
use Rattle.bounded_model.specs.declared.commands.Command.{Command}
use Rattle.bounded_model.specs.declared.commands.Command.TheVariants.{Put as PutCommand, Take as TakeCommand, Close as CloseCommand, Shut as ShutCommand, Look as LookCommand}
use Rattle.bounded_model.specs.declared.commands.Reply.{Reply}
use Rattle.bounded_model.specs.declared.commands.Reply.TheVariants.{Put as PutReply, Take as TakeReply, Close as CloseReply, Shut as ShutReply}
use Rattle.bounded_model.specs.declared.plain_list.TheConstants.{COUNT_LIMIT}
use Rattle.bounded_model.specs.Machine.{State, state, with_hand, put_on, MayPut, without_first, next_put, next_take}
use Rattle.bounded_model.specs.Replies.{reply, take_reply_of, added, history_after, replies, history_after_all}
use Rattle.bounded_model.specs.Plain.{Plain, shape_of, at_rest, plain_put, plain_take, plain_reply, with_value, without_value, after_put, after_take, list_after, plain_replies, list_after_all}
use Rattle.bounded_model.specs.Shows.{RestsWith, Shows, Runs}

-- a hand that was raised by one and lowered by one is empty again
hands_back : (hand : ℕ → ℕ) → ((z : ℕ) → hand z ≡ 0) → (q z : ℕ) → with_hand (with_hand hand q (hand q + 1)) q (with_hand hand q (hand q + 1) q - 1) z ≡ 0
hands_back hand none q z = grind (arith, nat_tests, none q, none z)

one_in_hand : (hand : ℕ → ℕ) (q : ℕ) → 1 ≤ with_hand hand q (hand q + 1) q
one_in_hand hand q = grind (arith, nat_tests)

module _ {T : Type 0} where
  next_put-rest : (o : Order) (p : Plain T) (s : State T) → RestsWith p s → next_put o s ≡ next_put o (at_rest p)
  next_put-rest Fifo p s r = r.puts
  next_put-rest Lifo p s r = cc (r.puts, r.takes)

  next_take-rest : (o : Order) (p : Plain T) (s : State T) → RestsWith p s → next_take o s ≡ next_take o (at_rest p)
  next_take-rest Fifo p s r = r.takes
  next_take-rest Lifo p s r = cc (r.puts, r.takes)

  -- the number of a put is the same after its hold
  next_put-hold : (o : Order) (s : State T) (hand : ℕ → ℕ) (held holds : ℕ) → next_put o s ≡ next_put o (record s { hand = hand; held = held; holds = holds })
  next_put-hold Fifo s hand held holds = refl
  next_put-hold Lifo s hand held holds = refl

  may_put_one : (o : Order) (x : T) → MayPut o (x ∷ [])
  may_put_one Fifo x = refl
  may_put_one Lifo x = omega arith

  take_reply_of-rest : (p : Plain T) (s : State T) (xs : List T) → RestsWith p s → take_reply_of (shape_of p) s xs ≡ take_reply_of (shape_of p) (at_rest p) xs
  take_reply_of-rest p s [] r = rw r.closed
  take_reply_of-rest p s (x ∷ xs) r = rw (next_take-rest p.order p s r)

  -- the machine answers at rest what it answers at the list
  reply-rest : (p : Plain T) (s : State T) (m : Command T) → RestsWith p s → reply (shape_of p) s m ≡ plain_reply p m
  reply-rest p s (PutCommand x) r = rw (next_put-rest p.order p s r, r.closed, r.values, r.held)
  reply-rest p s TakeCommand r = rw (take_reply_of-rest p s s.values r, r.shut, r.values)
  reply-rest p s CloseCommand r = rw r.closed
  reply-rest p s ShutCommand r = rw r.shut
  reply-rest p s LookCommand r = rw r.values

  -- a put is a Hold, then a Put
  with_value_shows : (p : Plain T) (q : ℕ) (x : T) (h : List (Event T)) → p.closed ≡ false → length p.values < p.capacity → Shows p h
      → Shows (with_value p x) (Put q (x ∷ []) (next_put p.order (at_rest p)) ∷ Hold q ∷ h)
  with_value_shows p q x h unclosed room w =
      let s : State T = state (shape_of p) h in
      let none : s.held ≡ 0 = w.rest.held in
      let same : length s.values ≡ length p.values = ap length w.rest.values in
      record {
        legal = ((w.rest.closed ∙ unclosed, may_put_one p.order x, one_in_hand s.hand q, sym (next_put-rest p.order p s w.rest) ∙ next_put-hold p.order s _ _ _), (omega arith, w.legal));
        rest = record {
          values = ap (λ (v : List T). put_on p.order v (x ∷ [])) w.rest.values;
          hands = hands_back s.hand w.rest.hands q;
          held = omega arith;
          closed = w.rest.closed;
          shut = w.rest.shut;
          puts = ap (λ (n : ℕ). n + 1) w.rest.puts;
          takes = w.rest.takes;
        };
      }

  -- a take is a Take, then a Free
  without_value_shows : (p : Plain T) (q : ℕ) (x : T) (xs : List T) (h : List (Event T)) → p.shut ≡ false → p.values ≡ x ∷ xs → Shows p h
      → Shows (without_value p) (Free q 1 ∷ Take q x (next_take p.order (at_rest p)) ∷ h)
  without_value_shows p q x xs h unshut first w =
      let s : State T = state (shape_of p) h in
      let none : s.held ≡ 0 = w.rest.held in
      record {
        legal = ((omega arith, one_in_hand s.hand q), ((w.rest.shut ∙ unshut, (xs, w.rest.values ∙ first), sym (next_take-rest p.order p s w.rest)), w.legal));
        rest = record {
          values = ap without_first w.rest.values;
          hands = hands_back s.hand w.rest.hands q;
          held = omega arith;
          closed = w.rest.closed;
          shut = w.rest.shut;
          puts = w.rest.puts;
          takes = ap (λ (n : ℕ). n + 1) w.rest.takes;
        };
      }

  -- whichever way a put goes
  put_case : (p : Plain T) (q : ℕ) (x : T) (h : List (Event T)) (closed full spent : Bool) → p.closed ≡ closed → nat_le p.capacity (length p.values + 0) ≡ full → Shows p h
      → let r : Result ℕ (PutRefused T) =
      if closed then Err (ClosedToPuts x) else (if full then Err (Full x) else (if spent then Err (SpentPut x Count COUNT_LIMIT) else Ok (next_put p.order (at_rest p)))) in
      Shows (after_put p x r) (added q (PutCommand x) (PutReply r) ++ h)
  put_case p q x h true full spent c f w = w
  put_case p q x h false true spent c f w = w
  put_case p q x h false false true c f w = w
  put_case p q x h false false false c f w = with_value_shows p q x h c (grind (arith, nat_tests)) w

  none_case : (p : Plain T) (q : ℕ) (h : List (Event T)) (closed : Bool) → Shows p h
      → let r : Result (T × ℕ) TakeRefused = if closed then Err EmptyAndClosed else Err Empty in
      Shows (after_take p r) (added q TakeCommand (TakeReply r) ++ h)
  none_case p q h true w = w
  none_case p q h false w = w

  some_case : (p : Plain T) (q : ℕ) (h : List (Event T)) (x : T) (xs : List T) (spent : Bool) → p.shut ≡ false → p.values ≡ x ∷ xs → Shows p h
      → let r : Result (T × ℕ) TakeRefused = if spent then Err (SpentTake Count COUNT_LIMIT) else Ok (x, next_take p.order (at_rest p)) in
      Shows (after_take p r) (added q TakeCommand (TakeReply r) ++ h)
  some_case p q h x xs true u e w = w
  some_case p q h x xs false u e w = without_value_shows p q x xs h u e w

  -- whichever way a take goes
  take_case : (p : Plain T) (q : ℕ) (h : List (Event T)) (shut : Bool) (xs : List T) → p.shut ≡ shut → p.values ≡ xs → Shows p h
      → let r : Result (T × ℕ) TakeRefused = if shut then Err ShutToTakes else take_reply_of (shape_of p) (at_rest p) xs in
      Shows (after_take p r) (added q TakeCommand (TakeReply r) ++ h)
  take_case p q h true xs u e w = w
  take_case p q h false [] u e w = none_case p q h p.closed w
  take_case p q h false (x ∷ xs) u e w = some_case p q h x xs (nat_le COUNT_LIMIT (next_take p.order (at_rest p))) u e w

  close_case : (p : Plain T) (q : ℕ) (h : List (Event T)) (closed : Bool) → p.closed ≡ closed → Shows p h
      → Shows (record p { closed = true }) (added q CloseCommand (CloseReply (not closed)) ++ h)
  close_case p q h true c w = rw (← c) w
  close_case p q h false c w = record { legal = (w.rest.closed ∙ c, w.legal); rest = record { values = w.rest.values; hands = w.rest.hands; held = w.rest.held; closed = refl; shut = w.rest.shut; puts = w.rest.puts; takes = w.rest.takes } }

  shut_case : (p : Plain T) (q : ℕ) (h : List (Event T)) (shut : Bool) → p.shut ≡ shut → Shows p h
      → Shows (record p { shut = true }) (added q ShutCommand (ShutReply (not shut)) ++ h)
  shut_case p q h true u w = rw (← u) w
  shut_case p q h false u w = record { legal = (w.rest.shut ∙ u, w.legal); rest = record { values = w.rest.values; hands = w.rest.hands; held = w.rest.held; closed = w.rest.closed; shut = refl; puts = w.rest.puts; takes = w.rest.takes } }

  plain_shows : (p : Plain T) (q : ℕ) (h : List (Event T)) (m : Command T) → Shows p h → Shows (list_after p m) (added q m (plain_reply p m) ++ h)
  plain_shows p q h (PutCommand x) w = put_case p q x h p.closed (nat_le p.capacity (length p.values + 0)) (nat_le COUNT_LIMIT (next_put p.order (at_rest p))) refl refl w
  plain_shows p q h TakeCommand w = take_case p q h p.shut p.values refl refl w
  plain_shows p q h CloseCommand w = close_case p q h p.closed refl w
  plain_shows p q h ShutCommand w = shut_case p q h p.shut refl w
  plain_shows p q h LookCommand w = w

  -- after a call the list shows the history with the call's events
  list_after_shows : (p : Plain T) (q : ℕ) (h : List (Event T)) (m : Command T) → Shows p h → Shows (list_after p m) (history_after (shape_of p) q h m)
  list_after_shows p q h m w = rw (reply-rest p (state (shape_of p) h) m w.rest) (plain_shows p q h m w)

  shape_of-after_put : (p : Plain T) (x : T) (r : Result ℕ (PutRefused T)) → shape_of (after_put p x r) ≡ shape_of p
  shape_of-after_put p x (Ok n) = refl
  shape_of-after_put p x (Err e) = refl

  shape_of-after_take : (p : Plain T) (r : Result (T × ℕ) TakeRefused) → shape_of (after_take p r) ≡ shape_of p
  shape_of-after_take p (Ok r) = refl
  shape_of-after_take p (Err e) = refl

  -- no call changes what the list was made for
  shape_of-list_after : (p : Plain T) (m : Command T) → shape_of (list_after p m) ≡ shape_of p
  shape_of-list_after p (PutCommand x) = shape_of-after_put p x (plain_put p x)
  shape_of-list_after p TakeCommand = shape_of-after_take p (plain_take p)
  shape_of-list_after p CloseCommand = refl
  shape_of-list_after p ShutCommand = refl
  shape_of-list_after p LookCommand = refl

  pub plain_replies_given : (p : Plain T) (ms : List (Command T)) (q : ℕ) (h : List (Event T)) → Shows p h → plain_replies p ms ≡ replies (shape_of p) q h ms
  plain_replies_given p [] q h w = refl
  plain_replies_given p (m ∷ ms) q h w =
      let rest = plain_replies_given (list_after p m) ms q (history_after (shape_of p) q h m) (list_after_shows p q h m w) in
      rw (rw (shape_of-list_after p m) at rest) (ap (λ (r : Reply T). r ∷ replies (shape_of p) q (history_after (shape_of p) q h m) ms) (sym (reply-rest p (state (shape_of p) h) m w.rest)))

  pub list_after_all_shows : (p : Plain T) (ms : List (Command T)) (q : ℕ) (h : List (Event T)) → Shows p h → Shows (list_after_all p ms) (history_after_all (shape_of p) q h ms)
  list_after_all_shows p [] q h w = w
  list_after_all_shows p (m ∷ ms) q h w =
      let rest = list_after_all_shows (list_after p m) ms q (history_after (shape_of p) q h m) (list_after_shows p q h m w) in
      rw (shape_of-list_after p m) at rest

  pub runs : (p : Plain T) (ms : List (Command T)) → Runs p (list_after_all p ms) ms (plain_replies p ms)
  runs p ms = record { given_is = plain_replies_given p ms; new_shows = list_after_all_shows p ms }

  -- a single call is a run of one command
  pub put_runs : (p new : Plain T) (x : T) (r : Result ℕ (PutRefused T)) → r ≡ plain_put p x → new ≡ after_put p x r → Runs p new (PutCommand x ∷ []) (PutReply r ∷ [])
  put_runs p new x r given is =
      subst (λ (l : Plain T). Runs p l (PutCommand x ∷ []) (PutReply r ∷ [])) (sym is)
      (subst (λ (a : Result ℕ (PutRefused T)). Runs p (after_put p x a) (PutCommand x ∷ []) (PutReply a ∷ [])) (sym given) (runs p (PutCommand x ∷ [])))

  pub take_runs : (p new : Plain T) (r : Result (T × ℕ) TakeRefused) → r ≡ plain_take p → new ≡ after_take p r → Runs p new (TakeCommand ∷ []) (TakeReply r ∷ [])
  take_runs p new r given is =
      subst (λ (l : Plain T). Runs p l (TakeCommand ∷ []) (TakeReply r ∷ [])) (sym is)
      (subst (λ (a : Result (T × ℕ) TakeRefused). Runs p (after_take p a) (TakeCommand ∷ []) (TakeReply a ∷ [])) (sym given) (runs p (TakeCommand ∷ [])))

  pub close_runs : (p new : Plain T) (b : Bool) → b ≡ not p.closed → new ≡ record p { closed = true } → Runs p new (CloseCommand ∷ []) (CloseReply b ∷ [])
  close_runs p new b given is =
      subst (λ (l : Plain T). Runs p l (CloseCommand ∷ []) (CloseReply b ∷ [])) (sym is)
      (subst (λ (a : Bool). Runs p (record p { closed = true }) (CloseCommand ∷ []) (CloseReply a ∷ [])) (sym given) (runs p (CloseCommand ∷ [])))

  pub shut_runs : (p new : Plain T) (b : Bool) → b ≡ not p.shut → new ≡ record p { shut = true } → Runs p new (ShutCommand ∷ []) (ShutReply b ∷ [])
  shut_runs p new b given is =
      subst (λ (l : Plain T). Runs p l (ShutCommand ∷ []) (ShutReply b ∷ [])) (sym is)
      (subst (λ (a : Bool). Runs p (record p { shut = true }) (ShutCommand ∷ []) (ShutReply a ∷ [])) (sym given) (runs p (ShutCommand ∷ [])))
