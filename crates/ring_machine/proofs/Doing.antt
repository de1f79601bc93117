-- Each step of a pass of the ring carries on what it has done.
use Rattle.std.proofs.Common.{◌≡◌, ℕ, ◌+◌, ◌-◌, ◌*◌, true, false, cond, eqb, leb, ltb, List, [], ◌∷◌, ◌++◌, refl, sym, ap, ◌∙◌, subst, append_assoc, Option as Slot, Some, Err}
use mathlib.Core.Option.{Option, some}
use lib.ListN.{get_elem?}
use Rattle.bounded_model.specs.declared.answers.Word.TheVariants.{Next as NextWord}
use Rattle.bounded_model.specs.declared.answers.PutRefused.TheVariants.{Full as PutFull, Closed as PutClosed, Spent as PutSpent}
use Rattle.bounded_model.specs.declared.answers.TakeRefused.TheVariants.{Empty as TakeEmpty, Closed as TakeClosed, Shut as TakeShut}
use Rattle.bounded_model.specs.declared.history.Event.{Event}
use Rattle.bounded_model.specs.declared.history.Event.TheVariants.{Hold, Put, Take, Free, Close, Shut}
use Rattle.bounded_model.specs.Histories.{own, pass_of}
use Rattle.bounded_model.proofs.Histories.{own-append, own-mine}
use Rattle.machine.specs.Words.{Tagged}
use Rattle.machine.proofs.Ahead.{Ahead}
use Rattle.machine.proofs.Tests.{cases}
use Rattle.machine.proofs.Program.{Cases, by_cases}
use Rattle.ring_machine.specs.declared.lines.Walk.{Walk}
use Rattle.ring_machine.specs.declared.lines.Back.{Back}
use Rattle.ring_machine.specs.declared.lines.Back.TheVariants.{ToPut, ToClose, ToCount, ToGauge}
use Rattle.ring_machine.specs.declared.lines.Front.{Front}
use Rattle.ring_machine.specs.declared.lines.Front.TheVariants.{ToTake, ToShut, ToLook, ToCount as ToCountFrom}
use Rattle.ring_machine.specs.declared.lines.Call.{Call}
use Rattle.ring_machine.specs.declared.lines.Call.TheVariants.{Put as CallPut, Take as CallTake, Close as CallClose, Shut as CallShut, Look as CallLook, Len as CallLen, Gauge as CallGauge}
use Rattle.ring_machine.specs.declared.lines.Answer.{Answer}
use Rattle.ring_machine.specs.declared.lines.Answer.TheVariants.{Put as AnswerPut, Take as AnswerTake, Close as AnswerClose, Shut as AnswerShut, Look as AnswerLook, Len as AnswerLen, Gauge as AnswerGauge}
use Rattle.ring_machine.specs.declared.lines.Line.{Line}
use Rattle.ring_machine.specs.declared.lines.Line.TheVariants.{Idle, FetchTail, LoadTail, LoadBack, MoveTail, PutCell, PassTail, MarkBack, LoadHead, LoadFront, MoveHead, TakeCell, PassHead, Stow, ShutFront, CheckFront}
use Rattle.ring_machine.specs.Machine.{Memory, memories, Outcome, place, empty_at, full_at, stride, further, with_cell, ends, beyond_back, at_back, beyond_front, at_front, put_done, take_done, table, cell_of, resting, first_of, step, wins_put, wins_value}
use Rattle.ring_machine.specs.Answers.{shape}
use Rattle.ring_machine.specs.Rule.{IsFine, progress, Good}
use Rattle.ring_machine.specs.Deeds.{Makes, HasMade, Deeds}
use Rattle.ring_machine.proofs.StepKinds.{takes_first}

module _ {T : Type 0} where
  -- the story goes on to a later history, to which others alone have added
  pub meanwhile : (n p : ℕ) (call : Call T) (begun seen h : List (Event T)) (l : Line T) → Ahead p seen h → Deeds n p call l begun seen → Deeds n p call l begun h
  meanwhile n p call begun seen h l a s = record {
    between = a.rest ++ s.between;
    is = a.is ∙ ap (λ (x : List (Event T)). a.rest ++ x) s.is ∙ sym (append_assoc a.rest s.between begun);
    made = subst (HasMade p n call l) (sym (own-append p a.rest s.between ∙ ap (λ (x : List (Event T)). x ++ own p s.between) a.none_own)) s.made;
  }

  -- an operation that has just been begun has done nothing
  pub begins : (n p : ℕ) (h : List (Event T)) (c : ℕ) (call : Call T) → Deeds n p call (first_of c call) h h
  begins n p h c (CallPut v) = record { between = []; is = refl; made = (refl, refl) }
  begins n p h c CallTake = record { between = []; is = refl; made = (refl, refl) }
  begins n p h c CallClose = record { between = []; is = refl; made = (refl, refl) }
  begins n p h c CallShut = record { between = []; is = refl; made = (refl, refl) }
  begins n p h c CallLook = record { between = []; is = refl; made = (refl, refl) }
  begins n p h c CallLen = record { between = []; is = refl; made = (refl, refl) }
  begins n p h c CallGauge = record { between = []; is = refl; made = (refl, refl) }

module _ {T : Type 0} {n laps cells : ℕ} {m : Memory T} {lines : List (Line T)} {h : List (Event T)} (x : Good T n laps cells m lines h) (q p : ℕ) (call : Call T) (begun : List (Event T)) where
  abbrev At : Line T → Type 0
  At l = Deeds n p call l begun h

  abbrev Does : Outcome T → Type 0
  Does o = Deeds n p call o.line begun (o.events ++ h)

  abbrev Fine : Line T → Type 0
  Fine l = IsFine n laps (progress T n laps m h) l

  -- a step without an event
  stays : {l l' : Line T} (s : At l) → HasMade p n call l' (own p s.between) → At l'
  stays s made = record { between = s.between; is = s.is; made = made }

  -- a step with an event
  adds : {l l' : Line T} (e : Event T) (s : At l) → pass_of e ≡ p → HasMade p n call l' (e ∷ own p s.between) → Deeds n p call l' begun (e ∷ h)
  adds {l' = l'} e s mine made = record {
    between = e ∷ s.between;
    is = ap (λ (y : List (Event T)). e ∷ y) s.is;
    made = subst (HasMade p n call l') (sym (own-mine p e s.between mine)) made;
  }

  -- and one with two
  adds_two : {l : Line T} (l' : Line T) (e e' : Event T) (s : At l) → pass_of e ≡ p → pass_of e' ≡ p → HasMade p n call l' (e ∷ e' ∷ own p s.between) → Deeds n p call l' begun (e ∷ e' ∷ h)
  adds_two l' e e' s mine mine' made = record {
    between = e ∷ e' ∷ s.between;
    is = ap (λ (y : List (Event T)). e ∷ e' ∷ y) s.is;
    made = subst (HasMade p n call l') (sym (own-mine p e (e' ∷ s.between) mine ∙ ap (λ (y : List (Event T)). e ∷ y) (own-mine p e' s.between mine'))) made;
  }

  -- what the call says of the answer, whichever of its names it goes by
  of : (call' : Call T) (a : Answer T) (events : List (Event T)) → call ≡ call' → Makes p call' a events → Makes p call a events
  of call' a events is made = subst (λ (k : Call T). Makes p k a events) (sym is) made

  back_does : (w : Walk) (s : Back T) → At (LoadBack w s) → At (at_back n (2 * laps) w s (m.slot w.at.index))
  back_does w (ToPut v) d =
      let y = m.slot w.at.index in
      let closed : Line T = Stow w (AnswerPut (Err (PutClosed v))) in
      let spent : Line T = Stow w (AnswerPut (Err (PutSpent v (NextWord w.at.index) y.tag))) in
      let full : Line T = Stow w (AnswerPut (Err (PutFull v))) in
      cases At y.mark closed (cond (eqb y.tag (empty_at w.at.tag)) (cond (leb (2 * laps) (y.tag + 1)) spent (PutCell w v y)) full)
      (λ b. stays d (of (CallPut v) (AnswerPut (Err (PutClosed v))) (own p d.between) d.made.0 (refl, d.made.1)))
      (λ b. cases At (eqb y.tag (empty_at w.at.tag)) (cond (leb (2 * laps) (y.tag + 1)) spent (PutCell w v y)) full
      (λ b'. cases At (leb (2 * laps) (y.tag + 1)) spent (PutCell w v y)
      (λ b''. stays d (of (CallPut v) (AnswerPut (Err (PutSpent v (NextWord w.at.index) y.tag))) (own p d.between) d.made.0 (refl, d.made.1)))
      (λ b''. stays d d.made))
      (λ b'. stays d (of (CallPut v) (AnswerPut (Err (PutFull v))) (own p d.between) d.made.0 (refl, d.made.1))))
  back_does w ToClose d =
      let y = m.slot w.at.index in
      cases At y.mark (ends w.cell (AnswerClose false)) (MarkBack w y) (λ b. stays d (of CallClose (AnswerClose false) (own p d.between) d.made.0 d.made.1)) (λ b. stays d d.made)
  back_does w (ToCount front) d = stays d d.made
  back_does w ToGauge d = stays d (of CallGauge (AnswerGauge (m.slot w.at.index).mark (place n w.at)) (own p d.between) d.made.0 d.made.1)

  front_does : (w : Walk) (s : Front) → At (LoadFront w s) → At (at_front w s (m.slot w.at.index))
  front_does w ToTake d =
      let y = m.slot w.at.index in
      let shut : Line T = ends w.cell (AnswerTake (Err TakeShut)) in
      let closed : Line T = ends w.cell (AnswerTake (Err TakeClosed)) in
      let empty : Line T = ends w.cell (AnswerTake (Err TakeEmpty)) in
      cases At y.second shut (cond (eqb y.tag (full_at w.at.tag)) (TakeCell w y) (cond y.mark closed empty))
      (λ b. stays d (of CallTake (AnswerTake (Err TakeShut)) (own p d.between) d.made.0 d.made.1))
      (λ b. cases At (eqb y.tag (full_at w.at.tag)) (TakeCell w y) (cond y.mark closed empty)
      (λ b'. stays d d.made)
      (λ b'. cases At y.mark closed empty
      (λ b''. stays d (of CallTake (AnswerTake (Err TakeClosed)) (own p d.between) d.made.0 d.made.1))
      (λ b''. stays d (of CallTake (AnswerTake (Err TakeEmpty)) (own p d.between) d.made.0 d.made.1))))
  front_does w ToShut d =
      let y = m.slot w.at.index in
      cases At y.second (ends w.cell (AnswerShut false)) (ShutFront w y) (λ b. stays d (of CallShut (AnswerShut false) (own p d.between) d.made.0 d.made.1)) (λ b. stays d d.made)
  front_does w ToLook d = stays d (of CallLook (AnswerLook (eqb (m.slot w.at.index).tag (empty_at w.at.tag))) (own p d.between) d.made.0 d.made.1)
  front_does w ToCountFrom d = stays d d.made

  put_does : (w : Walk) (v : T) (y : Tagged) → At (PutCell w v y) → Does (wins_put n m p w v y)
  put_does w v y d =
      let w' = with_cell w y.index in
      let put_now : Event T = Put p (v ∷ []) (place n w.at) in
      let events : List (Event T) = put_now ∷ Hold p ∷ own p d.between in
      let made : Makes p call (put_done n w') events = of (CallPut v) (put_done n w') events d.made.0 (ap (λ (es : List (Event T)). put_now ∷ Hold p ∷ es) d.made.1) in
      cases (λ (k : Line T). Deeds n p call k begun (put_now ∷ Hold p ∷ h)) (eqb (w.gone + 1) stride) (PassTail w') (ends y.index (put_done n w'))
      (λ b. adds_two (PassTail w') put_now (Hold p) d refl refl made)
      (λ b. adds_two (ends y.index (put_done n w')) put_now (Hold p) d refl refl made)

  take_does : (w : Walk) (y : Tagged) → get_elem? lines q ≡ some (TakeCell w y) → m.slot w.at.index ≡ y → At (TakeCell w y) → Does (wins_value n m p w y (m.home y.index))
  take_does w y at won d =
      let f : Fine (TakeCell w y) = x.fine q (TakeCell w y) at in
      let l : Line T = TakeCell w y in
      let first = takes_first q l l x at p w y won refl f.0.at f.2 in
      let v = first.value in
      let w' = with_cell w y.index in
      let took : Event T = Take p v (place n w.at) in
      let events : List (Event T) = Free p 1 ∷ took ∷ own p d.between in
      let made : Makes p call (take_done n w' v) events = of CallTake (take_done n w' v) events d.made.0 (ap (λ (es : List (Event T)). Free p 1 ∷ took ∷ es) d.made.1) in
      let done : Does (wins_value n m p w y (some (Some v))) =
      cases (λ (k : Line T). Deeds n p call k begun (Free p 1 ∷ took ∷ h)) (eqb (w.gone + 1) stride) (PassHead w' v) (Stow w' (take_done n w' v))
      (λ b. adds_two (PassHead w' v) (Free p 1) took d refl refl made)
      (λ b. adds_two (Stow w' (take_done n w' v)) (Free p 1) took d refl refl made) in
      subst (λ (o : Option (Slot T)). Does (wins_value n m p w y o)) (sym first.here) done

  does : (l : Line T) → get_elem? lines q ≡ some l → At l → Cases memories (resting (cell_of l)) m p Does l (table n (2 * laps) l)
  does (Idle c a) at d = d
  does (FetchTail c v) at d = stays d d.made
  does (LoadTail c s) at d = stays d d.made
  does (Stow w a) at d = stays d d.made
  does (LoadBack w s) at d =
      let y = m.slot w.at.index in
      cases At (ltb (empty_at w.at.tag) y.tag) (beyond_back n w s) (at_back n (2 * laps) w s y)
      (λ b. cases At (eqb (w.gone + 1) stride) (MoveTail (further n w) s) (LoadBack (further n w) s) (λ b'. stays d d.made) (λ b'. stays d d.made))
      (λ b. back_does w s d)
  does (MoveTail w s) at d = (λ won. stays d d.made, stays d d.made)
  does (PutCell w v y) at d = (λ won. put_does w v y d, stays d d.made)
  does (PassTail w) at d = (λ won. stays d d.made, stays d d.made)
  does (MarkBack w y) at d =
      (λ won. adds (Close p) d refl (of CallClose (AnswerClose true) (Close p ∷ own p d.between) d.made.0 (ap (λ (es : List (Event T)). Close p ∷ es) d.made.1)), stays d d.made)
  does (LoadHead c s) at d = stays d d.made
  does (LoadFront w s) at d =
      let y = m.slot w.at.index in
      cases At (ltb (full_at w.at.tag) y.tag) (beyond_front n w s) (at_front w s y)
      (λ b. cases At (eqb (w.gone + 1) stride) (MoveHead (further n w) s) (LoadFront (further n w) s) (λ b'. stays d d.made) (λ b'. stays d d.made))
      (λ b. front_does w s d)
  does (MoveHead w s) at d = (λ won. stays d d.made, stays d d.made)
  does (TakeCell w y) at d = (λ won. take_does w y at won d, stays d d.made)
  does (PassHead w v) at d = (λ won. stays d d.made, stays d d.made)
  does (ShutFront w y) at d =
      (λ won. adds (Shut p) d refl (of CallShut (AnswerShut true) (Shut p ∷ own p d.between) d.made.0 (ap (λ (es : List (Event T)). Shut p ∷ es) d.made.1)), stays d d.made)
  does (CheckFront c front back) at d =
      let y = m.slot front.index in
      let answer : Answer T = AnswerLen (place n back - place n front) in
      cases At (ltb (full_at front.tag) y.tag) (LoadHead c ToCountFrom) (ends c answer)
      (λ b. stays d d.made)
      (λ b. stays d (of CallLen answer (own p d.between) d.made.0 d.made.1))

  -- each step of a pass carries on what it has done
  pub step_does : (l : Line T) → get_elem? lines q ≡ some l → At l → Does (step (shape n laps) m p l)
  step_does l at d = by_cases memories (resting (cell_of l)) m p Does l (table n (2 * laps) l) (does l at d)
