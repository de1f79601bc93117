-- What a pass of the ring has done by a line says where its operation takes effect.
use Rattle.std.proofs.Common.{◌≡◌, ℕ, true, false, List, [], ◌∷◌, refl, sym, ap, ◌∙◌, subst, inl, inr, arith, Some, None, Ok, Err}
use Rattle.std.proofs.lemmas.Bool.{false≢true}
use mathlib.Core.Option.{some}
use Rattle.bounded_model.specs.declared.answers.Word.TheVariants.{Next}
use Rattle.bounded_model.specs.declared.answers.PutRefused.TheVariants.{Full, Closed, Spent}
use Rattle.bounded_model.specs.declared.answers.TakeRefused.TheVariants.{Empty, Closed as TakeClosed, Shut as TakeShut}
use Rattle.bounded_model.specs.declared.history.Event.{Event}
use Rattle.bounded_model.specs.declared.history.Event.TheVariants.{Put, Take, Close, Shut}
use Rattle.bounded_model.specs.Histories.{own}
use Rattle.ring_machine.specs.declared.lines.Call.{Call}
use Rattle.ring_machine.specs.declared.lines.Call.TheVariants.{Put as CallPut, Take as CallTake, Close as CallClose, Shut as CallShut, Look as CallLook, Len as CallLen, Gauge as CallGauge}
use Rattle.ring_machine.specs.declared.lines.Answer.{Answer}
use Rattle.ring_machine.specs.declared.lines.Answer.TheVariants.{Put as AnswerPut, Take as AnswerTake, Close as AnswerClose, Shut as AnswerShut, Look as AnswerLook, Len as AnswerLen, Gauge as AnswerGauge}
use Rattle.ring_machine.specs.declared.lines.Line.{Line}
use Rattle.ring_machine.specs.declared.lines.Line.TheVariants.{Idle, PassTail, PassHead, Stow}
use Rattle.ring_machine.specs.Machine.{is_idle, put_done, take_done}
use Rattle.ring_machine.specs.Answers.{IsRight}
use Rattle.ring_machine.specs.Deeds.{Makes as HasMadeAll, HasMade}
use Rattle.step_core.specs.ring.Object.{Makes, most, object, answer}
use Rattle.step_core.proofs.Entries.{visible}
use Rattle.step_core.proofs.Holding.{hand_after, Within, Balanced, none_held, one_put, one_taken}
use Rattle.step_core.proofs.Points.{Point, Going, Ended, Given, point_of, ended_by, with, with_each}
use Rattle.step_core.proofs.ring.Run.{Story}

module _ {T : Type 0} where
  pub one_answer : (p : ℕ) (c : Call T) (a a' : Answer T) (e : Event T) → Makes p c a e → Makes p c a' e → a ≡ a'
  one_answer p (CallPut v) (AnswerPut (Ok k)) (AnswerPut (Ok k')) e m m' = let same : Put p (v ∷ []) k ≡ Put p (v ∷ []) k' = sym m ∙ m' in cc
  one_answer p (CallPut v) (AnswerPut (Ok k)) a' e m m' = absurd m'
  one_answer p CallTake (AnswerTake (Ok r)) (AnswerTake (Ok r')) e m m' =
      let same : Take p r.0 r.1 ≡ Take p r'.0 r'.1 = sym m ∙ m' in
      let value : r.0 ≡ r'.0 = cc in
      let number : r.1 ≡ r'.1 = cc in
      ap (λ (v : T). AnswerTake (Ok (v, r.1))) value ∙ ap (λ (k : ℕ). AnswerTake (Ok (r'.0, k))) number
  one_answer p CallTake (AnswerTake (Ok r)) a' e m m' = absurd m'
  one_answer p CallClose (AnswerClose true) (AnswerClose true) e m m' = refl
  one_answer p CallClose (AnswerClose true) a' e m m' = absurd m'
  one_answer p CallShut (AnswerShut true) (AnswerShut true) e m m' = refl
  one_answer p CallShut (AnswerShut true) a' e m m' = absurd m'
  one_answer p c a a' e m m' = absurd m

module _ {T : Type 0} (n laps cells : ℕ) where
  -- a justified answer is one that the object gives
  module _ (b seen : List (Event T)) where
    given : (p : ℕ) (c : Call T) (a : Answer T) (mine : List (Event T)) → HasMadeAll p c a mine → Given (object n laps) (IsRight n laps) p c a b seen mine
    given p (CallPut v) (AnswerPut (Ok k)) mine made = inr (Put p (v ∷ []) k, ap visible made, refl)
    given p (CallPut v) (AnswerPut (Err (Full u))) mine made = inl (ap visible made.1, λ r idles. with_each made.0 (idles made.1) r)
    given p (CallPut v) (AnswerPut (Err (Closed u))) mine made = inl (ap visible made.1, λ r idles. with made.0 r)
    given p (CallPut v) (AnswerPut (Err (Spent u (Next j) t))) mine made = inl (ap visible made.1, λ r idles. with made.0 r)
    given p CallTake (AnswerTake (Ok r)) mine made = inr (Take p r.0 r.1, ap visible made, refl)
    given p CallTake (AnswerTake (Err Empty)) mine made = inl (ap visible made, λ r idles. r)
    given p CallTake (AnswerTake (Err TakeClosed)) mine made = inl (ap visible made, λ r idles. r)
    given p CallTake (AnswerTake (Err TakeShut)) mine made = inl (ap visible made, λ r idles. r)
    given p CallClose (AnswerClose true) mine made = inr (Close p, ap visible made, refl)
    given p CallClose (AnswerClose false) mine made = inl (ap visible made, λ r idles. r)
    given p CallShut (AnswerShut true) mine made = inr (Shut p, ap visible made, refl)
    given p CallShut (AnswerShut false) mine made = inl (ap visible made, λ r idles. r)
    given p CallLook (AnswerLook empty) mine made = inl (ap visible made, λ r idles. r)
    given p CallLen (AnswerLen k) mine made = inl (ap visible made, λ r idles. r)
    given p CallGauge (AnswerGauge closed used) mine made = inl (ap visible made, λ r idles. r)
    given p c a mine made = absurd made

  -- a call whose answer is known already has taken effect
  known : (p : ℕ) (c : Call T) (a : Answer T) (mine : List (Event T)) → HasMadeAll p c a mine → Point (object n laps) p c mine
  known p c a mine made = point_of (object n laps) (IsRight n laps) p c a [] [] mine (given [] [] p c a mine made)

  point : (p : ℕ) (c : Call T) (l : Line T) (mine : List (Event T)) → HasMade p n c l mine → is_idle l ≡ false → Point (object n laps) p c mine
  point p c (Idle k a) mine made busy = absurd (false≢true (sym busy))
  point p c (PassTail w) mine made busy = known p c (put_done n w) mine made
  point p c (PassHead w v) mine made busy = known p c (take_done n w v) mine made
  point p c (Stow w a) mine made busy = known p c a mine made
  point p c l mine made busy = inl (ap visible made.1)

  -- a call has at most one cell in hand, and none at its end
  balanced : (p : ℕ) (c : Call T) (a : Answer T) (mine : List (Event T)) → HasMadeAll p c a mine → Balanced (most c) mine
  balanced p (CallPut v) (AnswerPut (Ok k)) mine made = subst (Balanced 1) (sym made) (one_put p v k)
  balanced p (CallPut v) (AnswerPut (Err (Full u))) mine made = subst (Balanced 1) (sym made.1) (none_held T 1)
  balanced p (CallPut v) (AnswerPut (Err (Closed u))) mine made = subst (Balanced 1) (sym made.1) (none_held T 1)
  balanced p (CallPut v) (AnswerPut (Err (Spent u (Next j) t))) mine made = subst (Balanced 1) (sym made.1) (none_held T 1)
  balanced p CallTake (AnswerTake (Ok r)) mine made = subst (Balanced 1) (sym made) (one_taken p r.0 r.1)
  balanced p CallTake (AnswerTake (Err Empty)) mine made = subst (Balanced 1) (sym made) (none_held T 1)
  balanced p CallTake (AnswerTake (Err TakeClosed)) mine made = subst (Balanced 1) (sym made) (none_held T 1)
  balanced p CallTake (AnswerTake (Err TakeShut)) mine made = subst (Balanced 1) (sym made) (none_held T 1)
  balanced p CallClose (AnswerClose true) mine made = subst (Balanced 0) (sym made) ((omega arith, tt), refl)
  balanced p CallClose (AnswerClose false) mine made = subst (Balanced 0) (sym made) (none_held T 0)
  balanced p CallShut (AnswerShut true) mine made = subst (Balanced 0) (sym made) ((omega arith, tt), refl)
  balanced p CallShut (AnswerShut false) mine made = subst (Balanced 0) (sym made) (none_held T 0)
  balanced p CallLook (AnswerLook empty) mine made = subst (Balanced 0) (sym made) (none_held T 0)
  balanced p CallLen (AnswerLen k) mine made = subst (Balanced 0) (sym made) (none_held T 0)
  balanced p CallGauge (AnswerGauge closed used) mine made = subst (Balanced 0) (sym made) (none_held T 0)
  balanced p c a mine made = absurd made

  within : (p : ℕ) (c : Call T) (l : Line T) (mine : List (Event T)) → HasMade p n c l mine → is_idle l ≡ false → Within (most c) mine
  within p c (Idle k a) mine made busy = absurd (false≢true (sym busy))
  within p c (PassTail w) mine made busy = (balanced p c (put_done n w) mine made).0
  within p c (PassHead w v) mine made busy = (balanced p c (take_done n w v) mine made).0
  within p c (Stow w a) mine made busy = (balanced p c a mine made).0
  within p c l mine made busy = subst (Within (most c)) (sym made.1) tt

  pub ring_ended : (p : ℕ) (c : Call T) (l : Line T) (b seen : List (Event T)) → hand_after (own p b) ≡ 0 → Story n laps cells p (some c) l b seen → is_idle l ≡ true → Ended (object n laps) p c (answer l) b seen
  ring_ended p c (Idle k None) b seen empty story idle = absurd story.1.made
  ring_ended p c (Idle k (Some a)) b seen empty story idle =
      let d = story.1 in
      ended_by (object n laps) (IsRight n laps) p c a b seen d.between d.is empty (given b seen p c a (own p d.between) d.made) (balanced p c a (own p d.between) d.made) story.0
  ring_ended p c l b seen empty story idle = absurd (false≢true idle)

  pub ring_going : (p : ℕ) (c : Call T) (l : Line T) (b seen : List (Event T)) → Story n laps cells p (some c) l b seen → is_idle l ≡ false → Going (object n laps) p c b seen
  ring_going p c l b seen story busy = let d = story.1 in record { between = d.between; is = d.is; point = point p c l (own p d.between) d.made busy; holds = within p c l (own p d.between) d.made busy }
