-- The queue's machine is linearizable.
use Rattle.std.proofs.Common.{◌≡◌, ℕ, ◌<◌, true, false, List, [], ◌∷◌, refl, sym, ap, ◌∙◌, subst, ⊎_elim, inl, inr, arith, Some, None, Ok, Err}
use Rattle.std.proofs.lemmas.Bool.{false≢true}
use mathlib.Core.Option.{some}
use Rattle.tagged_index.specs.declared.word.TheConstants.{NULL}
use Rattle.bounded_model.specs.declared.answers.Word.TheVariants.{Cells, Next}
use Rattle.bounded_model.specs.declared.answers.PutRefused.TheVariants.{Full, Closed, Spent}
use Rattle.bounded_model.specs.declared.answers.TakeRefused.TheVariants.{Empty, Closed as TakeClosed, Shut as TakeShut}
use Rattle.bounded_model.specs.declared.history.Event.{Event}
use Rattle.bounded_model.specs.declared.history.Event.TheVariants.{Hold, Put, Take, Free, Close, Shut}
use Rattle.bounded_model.specs.Histories.{own}
use Rattle.machine.specs.Schedule.{Act}
use Rattle.queue_machine.specs.declared.lines.Seeking.{Seeking}
use Rattle.queue_machine.specs.declared.lines.Seeking.TheVariants.{ToLink}
use Rattle.queue_machine.specs.declared.lines.Call.{Call}
use Rattle.queue_machine.specs.declared.lines.Call.TheVariants.{Put as CallPut, Take as CallTake, Close as CallClose, Shut as CallShut, Look as CallLook, Len as CallLen, Gauge as CallGauge}
use Rattle.queue_machine.specs.declared.lines.Answer.{Answer}
use Rattle.queue_machine.specs.declared.lines.Answer.TheVariants.{Put as AnswerPut, Take as AnswerTake, Close as AnswerClose, Shut as AnswerShut, Look as AnswerLook, Len as AnswerLen, Gauge as AnswerGauge}
use Rattle.queue_machine.specs.declared.lines.Line.{Line}
use Rattle.queue_machine.specs.declared.lines.Line.TheVariants.{Idle, LoadNodes, LoadNodeLink, TakeNode, StoreCell, LoadNext, PrepareNext, LoadTail, LoadTailNext, CheckTail, SwingTail, LinkNext, SwingToLinked, LoadNodesToGive, LinkToNodes, GiveNode, LoadCellsToGive, LinkToCells, GiveCell}
use Rattle.queue_machine.specs.Machine.{is_idle, queue}
use Rattle.queue_machine.specs.Answers.{shape, IsRight}
use Rattle.queue_machine.specs.Deeds.{Makes as HasMadeAll, HasMade, HasSought}
use Rattle.step_core.specs.Linearizable.{Linearizable}
use Rattle.step_core.specs.queue.Object.{Makes, most, object, answer}
use Rattle.step_core.proofs.Entries.{visible}
use Rattle.step_core.proofs.Holding.{hand_after, Within, Balanced, none_held, one_held, one_put, one_freed, one_taken}
use Rattle.step_core.proofs.Points.{Point, Ended, Given, point_of, ended_by, with, with_each, Speaks, linearizable}
use Rattle.step_core.proofs.queue.Run.{Rule, Story, starts_busy, queue_told, run_stays}

module _ {T : Type 0} (n limit : ℕ) where
  -- a justified answer is one that the object gives
  module _ (b seen : List (Event T)) where
    given : (p : ℕ) (c : Call T) (a : Answer T) (mine : List (Event T)) → HasMadeAll p c a mine → Given (object n limit) (IsRight n limit) p c a b seen mine
    given p (CallPut v) (AnswerPut (Ok k)) mine made = inr (Put p (v ∷ []) k, ap visible made, refl)
    given p (CallPut v) (AnswerPut (Err (Full u))) mine made = inl (ap visible made.1, λ r idles. with_each made.0 (idles made.1) r)
    given p (CallPut v) (AnswerPut (Err (Closed u))) mine made = inl (⊎_elim (λ e. ap visible e) (λ e. ap visible e) made.1, λ r idles. with made.0 r)
    given p (CallPut v) (AnswerPut (Err (Spent u Cells t))) mine made = inl (ap visible made.1, λ r idles. with made.0 r)
    given p (CallPut v) (AnswerPut (Err (Spent u (Next j) t))) mine made = inl (ap visible made.1, λ r idles. with made.0 r)
    given p CallTake (AnswerTake (Ok r)) mine made = inr (Take p r.0 r.1, ap visible made, refl)
    given p CallTake (AnswerTake (Err Empty)) mine made = inl (ap visible made, λ r idles. r)
    given p CallTake (AnswerTake (Err TakeClosed)) mine made = inl (ap visible made, λ r idles. r)
    given p CallTake (AnswerTake (Err TakeShut)) mine made = inl (ap visible made, λ r idles. r)
    given p CallClose (AnswerClose true) mine made = inr (Close p, ap visible made, refl)
    given p CallClose (AnswerClose false) mine made = inl (ap visible made, λ r idles. r)
    given p CallShut (AnswerShut true) mine made = inr (Shut p, ap visible made, refl)
    given p CallShut (AnswerShut false) mine made = inl (ap visible made, λ r idles. r)
    given p CallLook (AnswerLook empty) mine made = inl (ap visible made, λ r idles. r)
    given p CallLen (AnswerLen k) mine made = inl (ap visible made, λ r idles. r)
    given p CallGauge (AnswerGauge closed used) mine made = inl (ap visible made, λ r idles. r)
    given p c a mine made = absurd made

  -- what a line has done
  freeing : (p : ℕ) (c : Call T) (a : Answer T) (mine : List (Event T)) → HasMadeAll p c a (Free p 1 ∷ mine) → Point (object n limit) p c mine
  freeing p c a mine made = point_of (object n limit) (IsRight n limit) p c a [] [] (Free p 1 ∷ mine) (given [] [] p c a (Free p 1 ∷ mine) made)

  sought : (p : ℕ) (c : Call T) (s : Seeking T) (mine : List (Event T)) → HasSought p c s mine → Point (object n limit) p c mine
  sought p c (ToLink link) mine made = inl (ap visible made.1)
  sought p c s mine made = inl (ap visible made.1)

  point : (p : ℕ) (c : Call T) (l : Line T) (mine : List (Event T)) → HasMade p c l mine → is_idle l ≡ false → Point (object n limit) p c mine
  point p c (Idle a) mine made busy = absurd (false≢true (sym busy))
  point p c (LoadTail s) mine made busy = sought p c s mine made
  point p c (LoadTailNext s w) mine made busy = sought p c s mine made
  point p c (CheckTail s w y) mine made busy = sought p c s mine made
  point p c (SwingTail s w y) mine made busy = sought p c s mine made
  point p c (SwingToLinked v w y) mine made busy = inr (AnswerPut (Ok w.tag), Put p (v ∷ []) w.tag, ap visible made.1, subst (λ (k : Call T). Makes p k (AnswerPut (Ok w.tag)) (Put p (v ∷ []) w.tag)) (sym made.0) refl)
  point p c (LoadNodesToGive give) mine made busy = freeing p c give.answer mine made
  point p c (LinkToNodes give w) mine made busy = freeing p c give.answer mine made
  point p c (GiveNode give w) mine made busy = freeing p c give.answer mine made
  point p c (LoadCellsToGive give) mine made busy = freeing p c give.answer mine made
  point p c (LinkToCells give w) mine made busy = freeing p c give.answer mine made
  point p c (GiveCell give w) mine made busy = freeing p c give.answer mine made
  point p c l mine made busy = inl (ap visible made.1)

  -- a call has at most one cell in hand, and none at its end
  balanced : (p : ℕ) (c : Call T) (a : Answer T) (mine : List (Event T)) → HasMadeAll p c a mine → Balanced (most c) mine
  balanced p (CallPut v) (AnswerPut (Ok k)) mine made = subst (Balanced 1) (sym made) (one_put p v k)
  balanced p (CallPut v) (AnswerPut (Err (Full u))) mine made = subst (Balanced 1) (sym made.1) (none_held T 1)
  balanced p (CallPut v) (AnswerPut (Err (Closed u))) mine made = ⊎_elim (λ e. subst (Balanced 1) (sym e) (none_held T 1)) (λ e. subst (Balanced 1) (sym e) (one_freed T p)) made.1
  balanced p (CallPut v) (AnswerPut (Err (Spent u Cells t))) mine made = subst (Balanced 1) (sym made.1) (none_held T 1)
  balanced p (CallPut v) (AnswerPut (Err (Spent u (Next j) t))) mine made = subst (Balanced 1) (sym made.1) (one_freed T p)
  balanced p CallTake (AnswerTake (Ok r)) mine made = subst (Balanced 1) (sym made) (one_taken p r.0 r.1)
  balanced p CallTake (AnswerTake (Err Empty)) mine made = subst (Balanced 1) (sym made) (none_held T 1)
  balanced p CallTake (AnswerTake (Err TakeClosed)) mine made = subst (Balanced 1) (sym made) (none_held T 1)
  balanced p CallTake (AnswerTake (Err TakeShut)) mine made = subst (Balanced 1) (sym made) (none_held T 1)
  balanced p CallClose (AnswerClose true) mine made = subst (Balanced 0) (sym made) ((omega arith, tt), refl)
  balanced p CallClose (AnswerClose false) mine made = subst (Balanced 0) (sym made) (none_held T 0)
  balanced p CallShut (AnswerShut true) mine made = subst (Balanced 0) (sym made) ((omega arith, tt), refl)
  balanced p CallShut (AnswerShut false) mine made = subst (Balanced 0) (sym made) (none_held T 0)
  balanced p CallLook (AnswerLook empty) mine made = subst (Balanced 0) (sym made) (none_held T 0)
  balanced p CallLen (AnswerLen k) mine made = subst (Balanced 0) (sym made) (none_held T 0)
  balanced p CallGauge (AnswerGauge closed used) mine made = subst (Balanced 0) (sym made) (none_held T 0)
  balanced p c a mine made = absurd made

  nothing : (c : Call T) (mine : List (Event T)) → mine ≡ [] → Within (most c) mine
  nothing c mine is = subst (Within (most c)) (sym is) tt

  putting : (p : ℕ) (c : Call T) (v : T) (mine : List (Event T)) → c ≡ CallPut v → mine ≡ Hold p ∷ [] → Within (most c) mine
  putting p c v mine is one = subst (λ (k : Call T). Within (most k) mine) (sym is) (subst (Within 1) (sym one) (one_held T p))

  seeking : (p : ℕ) (c : Call T) (s : Seeking T) (mine : List (Event T)) → HasSought p c s mine → Within (most c) mine
  seeking p c (ToLink link) mine made = putting p c link.value mine made.0 made.1
  seeking p c s mine made = nothing c mine made.1

  giving : (p : ℕ) (c : Call T) (a : Answer T) (mine : List (Event T)) → HasMadeAll p c a (Free p 1 ∷ mine) → Within (most c) mine
  giving p c a mine made = (balanced p c a (Free p 1 ∷ mine) made).0.1

  within : (p : ℕ) (c : Call T) (l : Line T) (mine : List (Event T)) → HasMade p c l mine → is_idle l ≡ false → Within (most c) mine
  within p c (Idle a) mine made busy = absurd (false≢true (sym busy))
  within p c (LoadNodes put) mine made busy = putting p c put.value mine made.0 made.1
  within p c (LoadNodeLink put w) mine made busy = putting p c put.value mine made.0 made.1
  within p c (TakeNode put w k) mine made busy = putting p c put.value mine made.0 made.1
  within p c (StoreCell link) mine made busy = putting p c link.value mine made.0 made.1
  within p c (LoadNext link) mine made busy = putting p c link.value mine made.0 made.1
  within p c (PrepareNext link x) mine made busy = putting p c link.value mine made.0 made.1
  within p c (LoadTail s) mine made busy = seeking p c s mine made
  within p c (LoadTailNext s w) mine made busy = seeking p c s mine made
  within p c (CheckTail s w x) mine made busy = seeking p c s mine made
  within p c (SwingTail s w x) mine made busy = seeking p c s mine made
  within p c (LinkNext link w x) mine made busy = putting p c link.value mine made.0 made.1
  within p c (SwingToLinked v w x) mine made busy = subst (λ (k : Call T). Within (most k) mine) (sym made.0) (subst (Within 1) (sym made.1) (one_put p v w.tag).0)
  within p c (LoadNodesToGive give) mine made busy = giving p c give.answer mine made
  within p c (LinkToNodes give w) mine made busy = giving p c give.answer mine made
  within p c (GiveNode give w) mine made busy = giving p c give.answer mine made
  within p c (LoadCellsToGive give) mine made busy = giving p c give.answer mine made
  within p c (LinkToCells give w) mine made busy = giving p c give.answer mine made
  within p c (GiveCell give w) mine made busy = giving p c give.answer mine made
  within p c l mine made busy = nothing c mine made.1

  one_answer : (p : ℕ) (c : Call T) (a a' : Answer T) (e : Event T) → Makes p c a e → Makes p c a' e → a ≡ a'
  one_answer p (CallPut v) (AnswerPut (Ok k)) (AnswerPut (Ok k')) e m m' = let same : Put p (v ∷ []) k ≡ Put p (v ∷ []) k' = sym m ∙ m' in cc
  one_answer p (CallPut v) (AnswerPut (Ok k)) a' e m m' = absurd m'
  one_answer p CallTake (AnswerTake (Ok r)) (AnswerTake (Ok r')) e m m' =
      let same : Take p r.0 r.1 ≡ Take p r'.0 r'.1 = sym m ∙ m' in
      let value : r.0 ≡ r'.0 = cc in
      let number : r.1 ≡ r'.1 = cc in
      ap (λ (v : T). AnswerTake (Ok (v, r.1))) value ∙ ap (λ (k : ℕ). AnswerTake (Ok (r'.0, k))) number
  one_answer p CallTake (AnswerTake (Ok r)) a' e m m' = absurd m'
  one_answer p CallClose (AnswerClose true) (AnswerClose true) e m m' = refl
  one_answer p CallClose (AnswerClose true) a' e m m' = absurd m'
  one_answer p CallShut (AnswerShut true) (AnswerShut true) e m m' = refl
  one_answer p CallShut (AnswerShut true) a' e m m' = absurd m'
  one_answer p c a a' e m m' = absurd m

  ended : (p : ℕ) (c : Call T) (l : Line T) (b seen : List (Event T)) → hand_after (own p b) ≡ 0 → Story n limit p (some c) l b seen → is_idle l ≡ true → Ended (object n limit) p c (answer l) b seen
  ended p c (Idle None) b seen empty story idle = absurd story.1.made
  ended p c (Idle (Some a)) b seen empty story idle =
      let d = story.1 in
      ended_by (object n limit) (IsRight n limit) p c a b seen d.between d.is empty (given b seen p c a (own p d.between) d.made) (balanced p c a (own p d.between) d.made) story.0
  ended p c l b seen empty story idle = absurd (false≢true idle)

  queue_speaks : Speaks {T = T} (queue (shape n limit)) answer (object n limit) (Rule n limit) (Story n limit)
  queue_speaks = record {
    legal = λ m lines h k. k.good.told.legal;
    rest_idle = λ p. refl;
    starts_busy = λ call l. starts_busy n limit call;
    unbegun = λ p l b seen story. ap is_idle story.1;
    going = λ p c l b seen legal story busy. let d = story.1 in record { between = d.between; is = d.is; point = point p c l (own p d.between) d.made busy; holds = within p c l (own p d.between) d.made busy };
    ended = λ p c l b seen legal empty story idle. ended p c l b seen empty story idle;
    one_answer = one_answer;
  }

  pub queue_linearizable : (passes : ℕ) (schedule : List (ℕ × Act (Call T))) → 0 < n → n < NULL → 0 < limit → Linearizable (queue (shape n limit)) answer (object n limit) passes schedule
  queue_linearizable passes schedule some_cell small some_tags =
      linearizable {T = T} (queue (shape n limit)) answer (object n limit) (Rule n limit) (Story n limit) (queue_told n limit) queue_speaks passes schedule (run_stays n limit passes [] some_cell small some_tags)
