-- The stack's machine is linearizable.
use Rattle.std.proofs.Common.{◌≡◌, ℕ, zero, suc, ◌<◌, ◌≤◌, true, false, List, [], ◌∷◌, ◌++◌, length, length-append, refl, sym, ap, ◌∙◌, subst, ⊎_elim, inl, inr, arith, Some, None, Ok, Err}
use Rattle.std.proofs.lemmas.Bool.{false≢true}
use Rattle.std.proofs.lemmas.Bool.Decides.{eqb_tells}
use Rattle.std.proofs.lemmas.List.{append_cancel_left}
use mathlib.Core.Option.{some}
use Rattle.tagged_index.specs.declared.word.TheConstants.{NULL}
use Rattle.bounded_model.specs.declared.answers.Word.TheVariants.{Free as FreeWord, Top as TopWord}
use Rattle.bounded_model.specs.declared.answers.PutRefused.{PutRefused}
use Rattle.bounded_model.specs.declared.answers.PutRefused.TheVariants.{Full, Closed, Spent}
use Rattle.bounded_model.specs.declared.answers.TakeRefused.{TakeRefused}
use Rattle.bounded_model.specs.declared.answers.TakeRefused.TheVariants.{Empty, Closed as TakeClosed, Shut as TakeShut, Spent as TakeSpent}
use Rattle.bounded_model.specs.declared.history.Event.{Event}
use Rattle.bounded_model.specs.declared.history.Event.TheVariants.{Put, Take, TakeAll, Free, Close, Shut}
use Rattle.bounded_model.specs.Histories.{Among, own, pass_of}
use Rattle.bounded_model.specs.Machine.{Shape, state, Legal, Needs}
use Rattle.bounded_model.specs.Laws.{holds_of, gave_back}
use Rattle.bounded_model.proofs.Hands.{within_capacity}
use Rattle.bounded_model.proofs.Histories.{own-append, own-mine, own-other}
use Rattle.machine.specs.Schedule.{Act}
use Rattle.stack_machine.specs.declared.lines.Putting.{Putting}
use Rattle.stack_machine.specs.declared.lines.Giving.{Giving}
use Rattle.stack_machine.specs.declared.lines.Taking.TheVariants.{One, Whole}
use Rattle.stack_machine.specs.declared.lines.Call.{Call}
use Rattle.stack_machine.specs.declared.lines.Call.TheVariants.{Put as CallPut, Take as CallTake, Close as CallClose, Shut as CallShut, Look as CallLook, Gauge as CallGauge}
use Rattle.stack_machine.specs.declared.lines.Answer.{Answer}
use Rattle.stack_machine.specs.declared.lines.Answer.TheVariants.{Put as AnswerPut, Take as AnswerTake, Fold as AnswerFold, Close as AnswerClose, Shut as AnswerShut, Look as AnswerLook, Gauge as AnswerGauge}
use Rattle.stack_machine.specs.declared.lines.Line.{Line}
use Rattle.stack_machine.specs.declared.lines.Line.TheVariants.{Idle, LoadFree, LoadFreeLink, TakeFree, LinkTaken, LoadTop, LinkToTop, SwapTop, LoadLinkToTurn, TurnLink, LoadLinkToFold, LoadFreeToGive, LinkToFree, GiveBack}
use Rattle.stack_machine.specs.Machine.{is_idle, stack}
use Rattle.stack_machine.specs.Answers.{shape, IsRight}
use Rattle.stack_machine.specs.Deeds.{Makes as HasMadeAll, MakesRefusal, MakesNothing, PutAtOnce, BackedOut, handed_back, in_order, HasHeld, HasMade}
use Rattle.step_core.specs.Linearizable.{Linearizable}
use Rattle.step_core.specs.stack.Object.{Makes, most, object, answer}
use Rattle.step_core.proofs.Entries.{visible}
use Rattle.step_core.proofs.Holding.{hand_after, Within, Balanced, none_held, one_taken}
use Rattle.step_core.proofs.Heard.{among_left}
use Rattle.step_core.proofs.Points.{Point, Ended, Given, point_of, ended_by, with_each, Speaks, linearizable}
use Rattle.step_core.proofs.stack.Run.{Rule, Story, starts_busy, stack_told, run_stays}

held_is : (T : Type 0) (p k : ℕ) → hand_after (holds_of {T = T} p k) ≡ k
held_is T p zero = refl
held_is T p (suc k) = let before = held_is T p k in omega arith

holds_within : (T : Type 0) (p k few : ℕ) → k ≤ few → Within {T = T} few (holds_of p k)
holds_within T p zero few less = tt
holds_within T p (suc k) few less = let before = held_is T p k in (omega arith, holds_within T p k few (omega arith))

balanced_back : (T : Type 0) (p few k : ℕ) → k ≤ few → Balanced {T = T} few (gave_back p k)
balanced_back T p few zero less = none_held T few
balanced_back T p few (suc k) less = let before = held_is T p k in ((omega arith, holds_within T p (suc k) few less), omega arith)

module _ {T : Type 0} where
  holds_hidden : (p k : ℕ) → visible (holds_of {T = T} p k) ≡ []
  holds_hidden p zero = refl
  holds_hidden p (suc k) = holds_hidden p k

  back_hidden : (p k : ℕ) → visible (gave_back {T = T} p k) ≡ []
  back_hidden p zero = refl
  back_hidden p (suc k) = holds_hidden p k

  backed_out : (p most : ℕ) (mine : List (Event T)) → BackedOut p most mine → visible mine ≡ []
  backed_out p most mine b = ap visible b.is ∙ back_hidden p b.nodes

  refusal_hidden : (p : ℕ) (why : PutRefused (List T)) (mine : List (Event T)) → MakesRefusal p why mine → visible mine ≡ []
  refusal_hidden p (Full values) mine made = ap visible made
  refusal_hidden p (Closed values) mine made = backed_out p (length values) mine made
  refusal_hidden p (Spent values FreeWord t) mine made = ap visible made
  refusal_hidden p (Spent values TopWord t) mine made = backed_out p (length values) mine made
  refusal_hidden p (Spent values word t) mine made = absurd made

  nothing_hidden : (p : ℕ) (why : TakeRefused) (mine : List (Event T)) → MakesNothing {T = T} p why mine → visible mine ≡ []
  nothing_hidden p Empty mine made = ap visible made
  nothing_hidden p TakeClosed mine made = ap visible made
  nothing_hidden p TakeShut mine made = ap visible made
  nothing_hidden p (TakeSpent TopWord t) mine made = ap visible made
  nothing_hidden p (TakeSpent word t) mine made = absurd made

  -- a fold takes no more values than the stack has nodes
  fold_small : (c : Shape) (p : ℕ) (vs : List T) (k : ℕ) (h : List (Event T)) → Legal c h → Among (TakeAll p vs k) (own p h) → length vs ≤ c.capacity
  fold_small c p vs k [] legal there = absurd there
  fold_small c p vs k (e ∷ h) legal there = ⊎_elim
      (λ t. ⊎_elim
      (λ same. let needs = subst (Needs c (state c h)) (sym same) legal.0 in omega (arith, ap length needs.2, within_capacity c h legal.1))
      (λ older. fold_small c p vs k h legal.1 older)
      (subst (Among (TakeAll p vs k)) (own-mine p e h t.1) there))
      (λ t. fold_small c p vs k h legal.1 (subst (Among (TakeAll p vs k)) (own-other p e h t.1) there))
      (eqb_tells (pass_of e) p)

module _ {T : Type 0} (n limit : ℕ) where
  -- a justified answer is one that the object gives
  module _ (b seen : List (Event T)) where
    given : (p : ℕ) (c : Call T) (a : Answer T) (mine : List (Event T)) → HasMadeAll p c a mine → Given (object n limit) (IsRight n limit) p c a b seen mine
    given p (CallPut v vs) (AnswerPut (Ok r)) mine made = inr (
      Put p made.values r.0,
      ap visible made.is ∙ ap (λ (l : List (Event T)). Put p made.values r.0 ∷ l) (holds_hidden p (length made.values)),
      record { values = made.values; all = made.all; is = refl },
    )
    given p (CallPut v vs) (AnswerPut (Err (Full values))) mine made = inl (refusal_hidden p (Full values) mine made.1, λ r idles. with_each made.0 (idles made.1) r)
    given p (CallPut v vs) (AnswerPut (Err (Closed values))) mine made = inl (refusal_hidden p (Closed values) mine made.1, λ r idles. with_each made.0 (λ h since until. tt) r)
    given p (CallPut v vs) (AnswerPut (Err (Spent values word t))) mine made = inl (refusal_hidden p (Spent values word t) mine made.1, λ r idles. with_each made.0 (λ h since until. tt) r)
    given p (CallTake One) (AnswerTake (Ok r)) mine made = inr (Take p r.0 r.1, ap visible made, refl)
    given p (CallTake One) (AnswerTake (Err why)) mine made = inl (nothing_hidden p why mine made, λ r idles. r)
    given p (CallTake (Whole d)) (AnswerFold (Ok r)) mine made = inr (TakeAll p made.values r.1, ap visible made.is, record { values = made.values; is = refl; order = made.order })
    given p (CallTake (Whole d)) (AnswerFold (Err why)) mine made = inl (nothing_hidden p why mine made, λ r idles. r)
    given p CallClose (AnswerClose true) mine made = inr (Close p, ap visible made, refl)
    given p CallClose (AnswerClose false) mine made = inl (ap visible made, λ r idles. r)
    given p CallShut (AnswerShut true) mine made = inr (Shut p, ap visible made, refl)
    given p CallShut (AnswerShut false) mine made = inl (ap visible made, λ r idles. r)
    given p CallLook (AnswerLook empty) mine made = inl (ap visible made, λ r idles. r)
    given p CallGauge (AnswerGauge closed used) mine made = inl (ap visible made, λ r idles. r)
    given p c a mine made = absurd made

  -- what a line has done
  giving : (p : ℕ) (c : Call T) (give : Giving T) (mine : List (Event T)) → HasMadeAll p c give.answer (Free p (length give.chain) ∷ mine) → Point (object n limit) p c mine
  giving p c give mine made = point_of (object n limit) (IsRight n limit) p c give.answer [] [] (Free p (length give.chain) ∷ mine) (given [] [] p c give.answer (Free p (length give.chain) ∷ mine) made)

  held : (p : ℕ) (c : Call T) (put : Putting T) (mine : List (Event T)) → HasHeld p c put mine → Point (object n limit) p c mine
  held p c put mine made = inl (ap visible made.1 ∙ holds_hidden p (length put.chain))

  point : (p : ℕ) (c : Call T) (l : Line T) (mine : List (Event T)) → HasMade p c l mine → is_idle l ≡ false → Point (object n limit) p c mine
  point p c (Idle a) mine made busy = absurd (false≢true (sym busy))
  point p c (LoadFree put) mine made busy = held p c put mine made
  point p c (LoadFreeLink put w) mine made busy = held p c put mine made
  point p c (TakeFree put w k) mine made busy = held p c put mine made
  point p c (LinkTaken put) mine made busy = held p c put mine made
  point p c (LoadTop put) mine made busy = held p c put mine made
  point p c (LinkToTop put w) mine made busy = held p c put mine made
  point p c (SwapTop put w) mine made busy = held p c put mine made
  point p c (LoadLinkToTurn give above i) mine made busy = giving p c give mine made
  point p c (TurnLink give above i k) mine made busy = giving p c give mine made
  point p c (LoadLinkToFold give i) mine made busy = giving p c give mine made
  point p c (LoadFreeToGive give) mine made busy = giving p c give mine made
  point p c (LinkToFree give w) mine made busy = giving p c give mine made
  point p c (GiveBack give w) mine made busy = giving p c give mine made
  point p c l mine made busy = inl (ap visible made.1)

  -- A call has at most one node in hand for each value that it is to put, one for a value to take, or those of all values, and none at its end

  -- a fold of the stack's values has no more than there are nodes
  abbrev IsSmall : ℕ → List (Event T) → Type 0
  IsSmall p mine = (vs : List T) (k : ℕ) → Among (TakeAll p vs k) mine → length vs ≤ n

  balanced_put : (p : ℕ) (wanted left : List T) (k : ℕ) (mine : List (Event T)) → PutAtOnce p wanted k left mine → Balanced (length wanted) mine
  balanced_put p wanted left k mine made =
      let few : length made.values ≤ length wanted = omega (arith, length-append made.values left, ap length made.all) in
      let in_hand = held_is T p (length made.values) in
      subst (Balanced (length wanted)) (sym made.is) ((omega arith, holds_within T p (length made.values) (length wanted) few), omega arith)

  backed : (p few : ℕ) (mine : List (Event T)) → BackedOut p few mine → Balanced few mine
  backed p few mine b = subst (Balanced few) (sym b.is) (balanced_back T p few b.nodes b.at_most)

  balanced_refusal : (p : ℕ) (why : PutRefused (List T)) (wanted : List T) (mine : List (Event T)) → handed_back why ≡ wanted → MakesRefusal p why mine → Balanced (length wanted) mine
  balanced_refusal p (Full values) wanted mine is made = subst (Balanced (length wanted)) (sym made) (none_held T (length wanted))
  balanced_refusal p (Closed values) wanted mine is made = backed p (length wanted) mine (subst (λ (vs : List T). BackedOut p (length vs) mine) is made)
  balanced_refusal p (Spent values FreeWord t) wanted mine is made = subst (Balanced (length wanted)) (sym made) (none_held T (length wanted))
  balanced_refusal p (Spent values TopWord t) wanted mine is made = backed p (length wanted) mine (subst (λ (vs : List T). BackedOut p (length vs) mine) is made)
  balanced_refusal p (Spent values word t) wanted mine is made = absurd made

  balanced_nothing : (p few : ℕ) (why : TakeRefused) (mine : List (Event T)) → MakesNothing p why mine → Balanced few mine
  balanced_nothing p few Empty mine made = subst (Balanced few) (sym made) (none_held T few)
  balanced_nothing p few TakeClosed mine made = subst (Balanced few) (sym made) (none_held T few)
  balanced_nothing p few TakeShut mine made = subst (Balanced few) (sym made) (none_held T few)
  balanced_nothing p few (TakeSpent TopWord t) mine made = subst (Balanced few) (sym made) (none_held T few)
  balanced_nothing p few (TakeSpent word t) mine made = absurd made

  balanced : (p : ℕ) (c : Call T) (a : Answer T) (mine : List (Event T)) → IsSmall p mine → HasMadeAll p c a mine → Balanced (most n c) mine
  balanced p (CallPut v vs) (AnswerPut (Ok r)) mine small made = balanced_put p (v ∷ vs) r.1 r.0 mine made
  balanced p (CallPut v vs) (AnswerPut (Err why)) mine small made = balanced_refusal p why (v ∷ vs) mine made.0 made.1
  balanced p (CallTake One) (AnswerTake (Ok r)) mine small made = subst (Balanced 1) (sym made) (one_taken p r.0 r.1)
  balanced p (CallTake One) (AnswerTake (Err why)) mine small made = balanced_nothing p 1 why mine made
  balanced p (CallTake (Whole d)) (AnswerFold (Ok r)) mine small made =
      let few : length made.values ≤ n = small made.values r.1 (subst (Among (TakeAll p made.values r.1)) (sym made.is) (inr (inl refl))) in
      subst (Balanced n) (sym made.is) ((omega arith, (omega arith, tt)), omega arith)
  balanced p (CallTake (Whole d)) (AnswerFold (Err why)) mine small made = balanced_nothing p n why mine made
  balanced p CallClose (AnswerClose true) mine small made = subst (Balanced 0) (sym made) ((omega arith, tt), refl)
  balanced p CallClose (AnswerClose false) mine small made = subst (Balanced 0) (sym made) (none_held T 0)
  balanced p CallShut (AnswerShut true) mine small made = subst (Balanced 0) (sym made) ((omega arith, tt), refl)
  balanced p CallShut (AnswerShut false) mine small made = subst (Balanced 0) (sym made) (none_held T 0)
  balanced p CallLook (AnswerLook empty) mine small made = subst (Balanced 0) (sym made) (none_held T 0)
  balanced p CallGauge (AnswerGauge closed used) mine small made = subst (Balanced 0) (sym made) (none_held T 0)
  balanced p c a mine small made = absurd made

  collecting : (p : ℕ) (c : Call T) (put : Putting T) (mine : List (Event T)) → HasHeld p c put mine → Within (most n c) mine
  collecting p (CallPut v vs) put mine made = subst (Within (suc (length vs))) (sym made.1) (holds_within T p (length put.chain) (suc (length vs)) (omega (arith, made.2, ap length made.0)))
  collecting p c put mine made = absurd made.0

  freeing : (p : ℕ) (c : Call T) (give : Giving T) (mine : List (Event T)) → IsSmall p mine → HasMadeAll p c give.answer (Free p (length give.chain) ∷ mine) → Within (most n c) mine
  freeing p c give mine small made = (balanced p c give.answer (Free p (length give.chain) ∷ mine) (λ vs k. smaller vs k) made).0.1
    where
      smaller : IsSmall p (Free p (length give.chain) ∷ mine)
      smaller vs k there = ⊎_elim (λ e. let no : TakeAll p vs k ≡ Free p (length give.chain) = e in cc) (λ t. small vs k t) there

  within : (p : ℕ) (c : Call T) (l : Line T) (mine : List (Event T)) → IsSmall p mine → HasMade p c l mine → is_idle l ≡ false → Within (most n c) mine
  within p c (Idle a) mine small made busy = absurd (false≢true (sym busy))
  within p c (LoadFree put) mine small made busy = collecting p c put mine made
  within p c (LoadFreeLink put w) mine small made busy = collecting p c put mine made
  within p c (TakeFree put w k) mine small made busy = collecting p c put mine made
  within p c (LinkTaken put) mine small made busy = collecting p c put mine made
  within p c (LoadTop put) mine small made busy = collecting p c put mine made
  within p c (LinkToTop put w) mine small made busy = collecting p c put mine made
  within p c (SwapTop put w) mine small made busy = collecting p c put mine made
  within p c (LoadLinkToTurn give above i) mine small made busy = freeing p c give mine small made
  within p c (TurnLink give above i k) mine small made busy = freeing p c give mine small made
  within p c (LoadLinkToFold give i) mine small made busy = freeing p c give mine small made
  within p c (LoadFreeToGive give) mine small made busy = freeing p c give mine small made
  within p c (LinkToFree give w) mine small made busy = freeing p c give mine small made
  within p c (GiveBack give w) mine small made busy = freeing p c give mine small made
  within p c l mine small made busy = subst (Within (most n c)) (sym made.1) tt

  -- so in a legal history
  small_in : (p : ℕ) (b seen between : List (Event T)) → Legal (shape n limit) seen → seen ≡ between ++ b → IsSmall p (own p between)
  small_in p b seen between legal is vs k there =
      fold_small (shape n limit) p vs k seen legal (subst (Among (TakeAll p vs k)) (sym (ap (own p) is ∙ own-append p between b)) (among_left (TakeAll p vs k) (own p between) (own p b) there))

  one_answer : (p : ℕ) (c : Call T) (a a' : Answer T) (e : Event T) → Makes p c a e → Makes p c a' e → a ≡ a'
  one_answer p (CallPut v vs) (AnswerPut (Ok r)) (AnswerPut (Ok r')) e m m' =
      let same : Put p m.values r.0 ≡ Put p m'.values r'.0 = sym m.is ∙ m'.is in
      let values : m.values ≡ m'.values = cc in
      let number : r.0 ≡ r'.0 = cc in
      let left : r.1 ≡ r'.1 = append_cancel_left m.values r.1 r'.1 (m.all ∙ sym m'.all ∙ ap (λ (l : List T). l ++ r'.1) (sym values)) in
      ap (λ (k : ℕ). AnswerPut (Ok (k, r.1))) number ∙ ap (λ (l : List T). AnswerPut (Ok (r'.0, l))) left
  one_answer p (CallPut v vs) (AnswerPut (Ok r)) a' e m m' = absurd m'
  one_answer p (CallTake One) (AnswerTake (Ok r)) (AnswerTake (Ok r')) e m m' =
      let same : Take p r.0 r.1 ≡ Take p r'.0 r'.1 = sym m ∙ m' in
      let value : r.0 ≡ r'.0 = cc in
      let number : r.1 ≡ r'.1 = cc in
      ap (λ (v : T). AnswerTake (Ok (v, r.1))) value ∙ ap (λ (k : ℕ). AnswerTake (Ok (r'.0, k))) number
  one_answer p (CallTake One) (AnswerTake (Ok r)) a' e m m' = absurd m'
  one_answer p (CallTake (Whole d)) (AnswerFold (Ok r)) (AnswerFold (Ok r')) e m m' =
      let same : TakeAll p m.values r.1 ≡ TakeAll p m'.values r'.1 = sym m.is ∙ m'.is in
      let values : m.values ≡ m'.values = cc in
      let number : r.1 ≡ r'.1 = cc in
      let folded : r.0 ≡ r'.0 = m.order ∙ ap (in_order d) values ∙ sym m'.order in
      ap (λ (l : List T). AnswerFold (Ok (l, r.1))) folded ∙ ap (λ (k : ℕ). AnswerFold (Ok (r'.0, k))) number
  one_answer p (CallTake (Whole d)) (AnswerFold (Ok r)) a' e m m' = absurd m'
  one_answer p CallClose (AnswerClose true) (AnswerClose true) e m m' = refl
  one_answer p CallClose (AnswerClose true) a' e m m' = absurd m'
  one_answer p CallShut (AnswerShut true) (AnswerShut true) e m m' = refl
  one_answer p CallShut (AnswerShut true) a' e m m' = absurd m'
  one_answer p c a a' e m m' = absurd m

  ended : (p : ℕ) (c : Call T) (l : Line T) (b seen : List (Event T)) → Legal (shape n limit) seen → hand_after (own p b) ≡ 0 → Story n limit p (some c) l b seen → is_idle l ≡ true → Ended (object n limit) p c (answer l) b seen
  ended p c (Idle None) b seen legal empty story idle = absurd story.1.made
  ended p c (Idle (Some a)) b seen legal empty story idle =
      let d = story.1 in
      ended_by (object n limit) (IsRight n limit) p c a b seen d.between d.is empty (given b seen p c a (own p d.between) d.made) (balanced p c a (own p d.between) (small_in p b seen d.between legal d.is) d.made) story.0
  ended p c l b seen legal empty story idle = absurd (false≢true idle)

  stack_speaks : Speaks {T = T} (stack (shape n limit)) answer (object n limit) (Rule n limit) (Story n limit)
  stack_speaks = record {
    legal = λ m lines h k. k.good.told.legal;
    rest_idle = λ p. refl;
    starts_busy = λ call l. starts_busy n limit call;
    unbegun = λ p l b seen story. ap is_idle story.1;
    going = λ p c l b seen legal story busy. let d = story.1 in record {
      between = d.between;
      is = d.is;
      point = point p c l (own p d.between) d.made busy;
      holds = within p c l (own p d.between) (small_in p b seen d.between legal d.is) d.made busy;
    };
    ended = ended;
    one_answer = one_answer;
  }

  pub stack_linearizable : (passes : ℕ) (schedule : List (ℕ × Act (Call T))) → 0 < n → n ≤ NULL → Linearizable (stack (shape n limit)) answer (object n limit) passes schedule
  stack_linearizable passes schedule some_node small =
      linearizable {T = T} (stack (shape n limit)) answer (object n limit) (Rule n limit) (Story n limit) (stack_told n limit) stack_speaks passes schedule (run_stays n limit passes [] some_node small)
