-- A step of any pass of the ring keeps what holds between any two steps, from any state where it holds.
use Rattle.std.proofs.Common.{◌≡◌, ℕ, ◌+◌, ◌-◌, ◌*◌, ◌<◌, ◌≤◌, true, false, cond, eqb, leb, ltb, List, ◌++◌, set, refl, sym, subst, eqb-true, Option as Slot, Some, Err, arith}
use Rattle.std.proofs.lemmas.Bool.Decides.{nat_tests}
use mathlib.Core.Option.{Option, some}
use lib.ListN.{get_elem?}
use Rattle.bounded_model.specs.declared.answers.Word.TheVariants.{Next as NextWord}
use Rattle.bounded_model.specs.declared.answers.PutRefused.TheVariants.{Full as PutFull, Closed as PutClosed, Spent as PutSpent}
use Rattle.bounded_model.specs.declared.answers.TakeRefused.TheVariants.{Empty as TakeEmpty, Closed as TakeClosed, Shut as TakeShut}
use Rattle.bounded_model.specs.declared.history.Event.{Event}
use Rattle.machine.specs.Words.{Tagged}
use Rattle.machine.proofs.Tests.{cases}
use Rattle.machine.proofs.Program.{Cases, by_cases}
use Rattle.ring_machine.specs.declared.lines.Walk.{Walk}
use Rattle.ring_machine.specs.declared.lines.Back.{Back}
use Rattle.ring_machine.specs.declared.lines.Back.TheVariants.{ToPut, ToClose, ToCount, ToGauge}
use Rattle.ring_machine.specs.declared.lines.Front.{Front}
use Rattle.ring_machine.specs.declared.lines.Front.TheVariants.{ToTake, ToShut, ToLook, ToCount as ToCountFrom}
use Rattle.ring_machine.specs.declared.lines.Answer.TheVariants.{Put as AnswerPut, Take as AnswerTake, Close as AnswerClose, Shut as AnswerShut, Look as AnswerLook, Len as AnswerLen, Gauge as AnswerGauge}
use Rattle.ring_machine.specs.declared.lines.Line.{Line}
use Rattle.ring_machine.specs.declared.lines.Line.TheVariants.{Idle, FetchTail, LoadTail, LoadBack, MoveTail, PutCell, PassTail, MarkBack, LoadHead, LoadFront, MoveHead, TakeCell, PassHead, Stow, ShutFront, CheckFront}
use Rattle.ring_machine.specs.Machine.{Memory, memories, Outcome, place, behind, empty_at, full_at, stride, walk, further, with_cell, ends, beyond_back, at_back, found_back, beyond_front, at_front, found_front, put_done, take_done, has_put, has_taken, goes_on, table, cell_of, is_home, resting, step, wins_put, wins_value, after_tail, after_head}
use Rattle.ring_machine.specs.Answers.{shape}
use Rattle.ring_machine.specs.Rule.{Progress, IsBefore, Walks, HasWalked, HasPassed, IsFine, progress, Good}
use Rattle.ring_machine.proofs.Positions.{place_behind, slot_behind}
use Rattle.ring_machine.proofs.Turned.{was_put, was_taken}
use Rattle.ring_machine.proofs.StepKinds.{good_goes, good_fetch, good_stow, good_tail, good_head, good_put, takes_first, good_take, good_close, good_shut, seeks_later, stands_back, stands_front}

-- a walk that goes on by one
walks_on : (n hint most : ℕ) (w : Walk) → Walks n hint most w → place n w.at < most → eqb (w.gone + 1) stride ≡ false → Walks n hint most (further n w)
walks_on n hint most w b less more = record {
  at = record { slot = slot_behind n w.at b.at.slot; before = omega (arith, place_behind n w.at b.at.slot, less) };
  from = b.from;
  gone = omega (arith, place_behind n w.at b.at.slot, b.gone);
  short = short w.gone b.short more;
}
  where
    short : (k : ℕ) → k < stride → eqb (k + 1) stride ≡ false → k + 1 < stride
    short k h h' = grind (arith, nat_tests)

walked_on : (n hint most : ℕ) (w : Walk) → Walks n hint most w → place n w.at < most → eqb (w.gone + 1) stride ≡ true → HasWalked n most (further n w)
walked_on n hint most w b less all = record {
  at = record { slot = slot_behind n w.at b.at.slot; before = omega (arith, place_behind n w.at b.at.slot, less) };
  gone = let e : w.gone + 1 ≡ stride = eqb-true (w.gone + 1) stride all in omega (arith, place_behind n w.at b.at.slot, b.gone, e);
}

-- and one that begins
begins : (n most : ℕ) (c : ℕ) (w : Tagged) → IsBefore n most w → Walks n (place n w) most (walk c w)
begins n most c w b = record { at = b; from = omega arith; gone = omega arith; short = omega arith }

module _ {T : Type 0} (n laps cells : ℕ) (m : Memory T) (lines : List (Line T)) (history : List (Event T)) where
  -- the state after a pass's step
  abbrev pub After : ℕ → Outcome T → Type 0
  After q o = Good T n laps cells o.memory (set lines q o.line) (o.events ++ history)

  -- each line in turn
  module _ (q p : ℕ) (x : Good T n laps cells m lines history) where
    abbrev now : Progress
    now = progress T n laps m history

    abbrev Fine : Line T → Type 0
    Fine l = IsFine n laps now l

    -- a step that changes no word
    to : (l' : Line T) {l : Line T} → get_elem? lines q ≡ some l → cell_of l' ≡ cell_of l → (is_home l' ≡ true → is_home l ≡ true) → Fine l' → After q (goes_on m l')
    to l' {l} e same rests f = good_goes q l l' x e same rests f

    load_back : (w : Walk) (s : Back T) → get_elem? lines q ≡ some (LoadBack w s) → After q (goes_on m (found_back n (2 * laps) w s (m.slot w.at.index)))
    load_back w s e =
        let f : Fine (LoadBack w s) = x.fine q (LoadBack w s) e in
        let y = m.slot w.at.index in
        cases (λ l. After q (goes_on m l)) (ltb (empty_at w.at.tag) y.tag) (beyond_back n w s) (at_back n (2 * laps) w s y)
        (λ b. let less = was_put x.turned w.at.index w.at.tag f.0.at.slot (grind (arith, nat_tests)) in
        cases (λ l. After q (goes_on m l)) (eqb (w.gone + 1) stride) (MoveTail (further n w) s) (LoadBack (further n w) s)
        (λ b'. to (MoveTail (further n w) s) e refl (λ h. h) (walked_on n now.tail now.puts w f.0 less b', f.1))
        (λ b'. to (LoadBack (further n w) s) e refl (λ h. h) (walks_on n now.tail now.puts w f.0 less b', f.1)))
        (λ b. here s e f (grind (arith, nat_tests)))
      where
        here : (s : Back T) → get_elem? lines q ≡ some (LoadBack w s) → Fine (LoadBack w s) → (m.slot w.at.index).tag ≤ empty_at w.at.tag → After q (goes_on m (at_back n (2 * laps) w s (m.slot w.at.index)))
        here (ToPut v) e f le =
            let y = m.slot w.at.index in
            let closed : Line T = Stow w (AnswerPut (Err (PutClosed v))) in
            let spent : Line T = Stow w (AnswerPut (Err (PutSpent v (NextWord w.at.index) y.tag))) in
            let full : Line T = Stow w (AnswerPut (Err (PutFull v))) in
            cases (λ l. After q (goes_on m l)) y.mark closed (cond (eqb y.tag (empty_at w.at.tag)) (cond (leb (2 * laps) (y.tag + 1)) spent (PutCell w v y)) full)
            (λ b. to closed e refl (λ h. h) tt)
            (λ b. cases (λ l. After q (goes_on m l)) (eqb y.tag (empty_at w.at.tag)) (cond (leb (2 * laps) (y.tag + 1)) spent (PutCell w v y)) full
            (λ b'. cases (λ l. After q (goes_on m l)) (leb (2 * laps) (y.tag + 1)) spent (PutCell w v y)
            (λ b''. to spent e refl (λ h. h) tt)
            (λ b''. let tag = eqb-true y.tag (empty_at w.at.tag) b' in to (PutCell w v y) e refl (λ h. h) (f.0, b, tag, room y.tag w.at.tag tag b'')))
            (λ b'. to full e refl (λ h. h) tt))
          where
            room : (t lap : ℕ) → t ≡ 2 * lap → leb (2 * laps) (t + 1) ≡ false → lap < laps
            room t lap is b = let h : t + 1 < 2 * laps = grind (arith, nat_tests) in omega (arith, h, is)
        here ToClose e f le =
            let y = m.slot w.at.index in
            let closed : Line T = ends w.cell (AnswerClose false) in
            cases (λ l. After q (goes_on m l)) y.mark closed (MarkBack w y) (λ b. to closed e refl (λ h. h) tt) (λ b. to (MarkBack w y) e refl (λ h. h) (f.0, b, le))
        here (ToCount front) e f le = to (CheckFront w.cell front w.at) e refl (λ h. h) f.1
        here ToGauge e f le = to (ends w.cell (AnswerGauge (m.slot w.at.index).mark (place n w.at))) e refl (λ h. h) tt

    load_front : (w : Walk) (s : Front) → get_elem? lines q ≡ some (LoadFront w s) → After q (goes_on m (found_front n w s (m.slot w.at.index)))
    load_front w s e =
        let f : Fine (LoadFront w s) = x.fine q (LoadFront w s) e in
        let y = m.slot w.at.index in
        cases (λ l. After q (goes_on m l)) (ltb (full_at w.at.tag) y.tag) (beyond_front n w s) (at_front w s y)
        (λ b. let less = was_taken x.turned w.at.index w.at.tag f.at.slot (grind (arith, nat_tests)) in
        cases (λ l. After q (goes_on m l)) (eqb (w.gone + 1) stride) (MoveHead (further n w) s) (LoadFront (further n w) s)
        (λ b'. to (MoveHead (further n w) s) e refl (λ h. h) (walked_on n now.head now.takes w f less b'))
        (λ b'. to (LoadFront (further n w) s) e refl (λ h. h) (walks_on n now.head now.takes w f less b')))
        (λ b. here s e f (grind (arith, nat_tests)))
      where
        here : (s : Front) → get_elem? lines q ≡ some (LoadFront w s) → Fine (LoadFront w s) → (m.slot w.at.index).tag ≤ full_at w.at.tag → After q (goes_on m (at_front w s (m.slot w.at.index)))
        here ToTake e f le =
            let y = m.slot w.at.index in
            let shut : Line T = ends w.cell (AnswerTake (Err TakeShut)) in
            let closed : Line T = ends w.cell (AnswerTake (Err TakeClosed)) in
            let empty : Line T = ends w.cell (AnswerTake (Err TakeEmpty)) in
            cases (λ l. After q (goes_on m l)) y.second shut (cond (eqb y.tag (full_at w.at.tag)) (TakeCell w y) (cond y.mark closed empty))
            (λ b. to shut e refl (λ h. h) tt)
            (λ b. cases (λ l. After q (goes_on m l)) (eqb y.tag (full_at w.at.tag)) (TakeCell w y) (cond y.mark closed empty)
            (λ b'. to (TakeCell w y) e refl (λ h. h) (f, b, eqb-true y.tag (full_at w.at.tag) b'))
            (λ b'. cases (λ l. After q (goes_on m l)) y.mark closed empty (λ b''. to closed e refl (λ h. h) tt) (λ b''. to empty e refl (λ h. h) tt)))
        here ToShut e f le =
            let y = m.slot w.at.index in
            let shut : Line T = ends w.cell (AnswerShut false) in
            cases (λ l. After q (goes_on m l)) y.second shut (ShutFront w y) (λ b. to shut e refl (λ h. h) tt) (λ b. to (ShutFront w y) e refl (λ h. h) (f, b, le))
        here ToLook e f le = to (ends w.cell (AnswerLook (eqb (m.slot w.at.index).tag (empty_at w.at.tag)))) e refl (λ h. h) tt
        here ToCountFrom e f le = to (LoadTail w.cell (ToCount w.at)) e refl (λ h. h) f.at

    move_tail : (w : Walk) (s : Back T) → get_elem? lines q ≡ some (MoveTail w s) → m.tail ≡ w.from → After q (goes_on (after_tail m w.at) (LoadTail w.cell s))
    move_tail w s e won =
        let f : Fine (MoveTail w s) = x.fine q (MoveTail w s) e in
        let higher : place n m.tail ≤ place n w.at = subst (λ (u : Tagged). place n u ≤ place n w.at) (sym won) (omega (arith, f.0.gone)) in
        good_tail q (MoveTail w s) (LoadTail w.cell s) x e w.at refl (λ h. h) f.0.at higher
        (seeks_later n laps now (record now { tail = place n w.at }) (record { tail = higher; head = omega arith; puts = omega arith; takes = omega arith }) s f.1)

    move_head : (w : Walk) (s : Front) → get_elem? lines q ≡ some (MoveHead w s) → m.head ≡ w.from → After q (goes_on (after_head m w.at) (LoadHead w.cell s))
    move_head w s e won =
        let f : Fine (MoveHead w s) = x.fine q (MoveHead w s) e in
        good_head q (MoveHead w s) (LoadHead w.cell s) x e w.at refl (λ h. h) f.at (subst (λ (u : Tagged). place n u ≤ place n w.at) (sym won) (omega (arith, f.gone))) tt

    -- the position behind the one that was put, or taken
    passed : (most : ℕ) (w : Walk) → HasPassed n most w → IsBefore n most (behind n w.at)
    passed most w f = record { slot = slot_behind n w.at f.slot; before = omega (arith, place_behind n w.at f.slot, f.before) }

    pass_tail : (w : Walk) → get_elem? lines q ≡ some (PassTail w) → m.tail ≡ w.from → After q (goes_on (after_tail m (behind n w.at)) (ends w.cell (put_done n w)))
    pass_tail w e won =
        let f : Fine (PassTail w) = x.fine q (PassTail w) e in
        let higher : place n m.tail ≤ place n w.at = subst (λ (u : Tagged). place n u ≤ place n w.at) (sym won) f.gone in
        good_tail q (PassTail w) (ends w.cell (put_done n w)) x e (behind n w.at) refl (λ h. h) (passed now.puts w f) (omega (arith, higher, place_behind n w.at f.slot)) tt

    pass_head : (w : Walk) (v : T) → get_elem? lines q ≡ some (PassHead w v) → m.head ≡ w.from → After q (goes_on (after_head m (behind n w.at)) (Stow w (take_done n w v)))
    pass_head w v e won =
        let f : Fine (PassHead w v) = x.fine q (PassHead w v) e in
        let higher : place n m.head ≤ place n w.at = subst (λ (u : Tagged). place n u ≤ place n w.at) (sym won) f.gone in
        good_head q (PassHead w v) (Stow w (take_done n w v)) x e (behind n w.at) refl (λ h. h) (passed now.takes w f) (omega (arith, higher, place_behind n w.at f.slot)) tt

    put_cell : (w : Walk) (v : T) (y : Tagged) → get_elem? lines q ≡ some (PutCell w v y) → m.slot w.at.index ≡ y → After q (wins_put n m p w v y)
    put_cell w v y e won =
        let f : Fine (PutCell w v y) = x.fine q (PutCell w v y) e in
        let l : Line T = PutCell w v y in
        let there : Line T = has_put n (with_cell w y.index) in
        let at = stands_back q l there x e p w y won f.0.at (omega (arith, f.2)) in
        let g : Progress = record now { puts = now.puts + 1 } in
        let w' = with_cell w y.index in
        good_put q l there x e p w y won refl v f.0 f.1 f.2 f.3
        (cases (λ (k : Line T). cell_of k ≡ y.index) (eqb (w.gone + 1) stride) (PassTail w') (ends y.index (put_done n w')) (λ b. refl) (λ b. refl))
        (cases (IsFine {T = T} n laps g) (eqb (w.gone + 1) stride) (PassTail w') (ends y.index (put_done n w'))
        (λ b. record { slot = f.0.at.slot; before = omega (arith, at); gone = omega (arith, f.0.gone) })
        (λ b. tt))

    take_cell : (w : Walk) (y : Tagged) → get_elem? lines q ≡ some (TakeCell w y) → m.slot w.at.index ≡ y → After q (wins_value n m p w y (m.home y.index))
    take_cell w y e won =
        let f : Fine (TakeCell w y) = x.fine q (TakeCell w y) e in
        let l : Line T = TakeCell w y in
        let first = takes_first q l l x e p w y won refl f.0.at f.2 in
        let w' = with_cell w y.index in
        let v = first.value in
        let there : Line T = has_taken n w' v in
        let at = stands_front q l there x e p w y won f.0.at (omega (arith, f.2)) in
        let g : Progress = record now { takes = now.takes + 1 } in
        let won_here : After q (wins_value n m p w y (some (Some v))) =
        good_take q l there x e p w y won refl v first.left first.first f.0 f.1 f.2
        (cases (λ (k : Line T). cell_of k ≡ y.index) (eqb (w.gone + 1) stride) (PassHead w' v) (Stow w' (take_done n w' v)) (λ b. refl) (λ b. refl))
        refl
        (cases (λ (k : Line T). is_home k ≡ false) (eqb (w.gone + 1) stride) (PassHead w' v) (Stow w' (take_done n w' v)) (λ b. refl) (λ b. refl))
        (cases (IsFine {T = T} n laps g) (eqb (w.gone + 1) stride) (PassHead w' v) (Stow w' (take_done n w' v))
        (λ b. record { slot = f.0.at.slot; before = omega (arith, at); gone = omega (arith, f.0.gone) })
        (λ b. tt)) in
        subst (λ (o : Option (Slot T)). After q (wins_value n m p w y o)) (sym first.here) won_here

    kept : (l : Line T) → get_elem? lines q ≡ some l → Cases memories (resting (cell_of l)) m p (After q) l (table n (2 * laps) l)
    kept (Idle c a) e = to (Idle c a) e refl (λ h. h) tt
    kept (FetchTail c v) e = good_fetch q (FetchTail c v) (LoadBack (walk c m.tail) (ToPut v)) x e c refl refl refl (begins n now.puts c m.tail x.tail.at, tt)
    kept (LoadTail c s) e = to (LoadBack (walk c m.tail) s) e refl (λ h. h) (begins n now.puts c m.tail x.tail.at, x.fine q (LoadTail c s) e)
    kept (LoadBack w s) e = load_back w s e
    kept (MoveTail w s) e = let f : Fine (MoveTail w s) = x.fine q (MoveTail w s) e in (λ won. move_tail w s e won, to (LoadTail w.cell s) e refl (λ h. h) f.1)
    kept (PutCell w v y) e = let f : Fine (PutCell w v y) = x.fine q (PutCell w v y) e in (λ won. put_cell w v y e won, to (LoadBack w (ToPut v)) e refl (λ h. h) (f.0, tt))
    kept (PassTail w) e = (λ won. pass_tail w e won, to (ends w.cell (put_done n w)) e refl (λ h. h) tt)
    kept (MarkBack w y) e =
        let f : Fine (MarkBack w y) = x.fine q (MarkBack w y) e in
        (λ won. good_close q (MarkBack w y) (ends w.cell (AnswerClose true)) x e p w y won f.0.at f.1 f.2 refl (λ h. h) tt, to (LoadBack w ToClose) e refl (λ h. h) (f.0, tt))
    kept (LoadHead c s) e = to (LoadFront (walk c m.head) s) e refl (λ h. h) (begins n now.takes c m.head x.head.at)
    kept (LoadFront w s) e = load_front w s e
    kept (MoveHead w s) e = (λ won. move_head w s e won, to (LoadHead w.cell s) e refl (λ h. h) tt)
    kept (TakeCell w y) e = let f : Fine (TakeCell w y) = x.fine q (TakeCell w y) e in (λ won. take_cell w y e won, to (LoadFront w ToTake) e refl (λ h. h) f.0)
    kept (Stow w a) e = good_stow q (Stow w a) (ends w.cell a) x e w.cell refl refl tt
    kept (PassHead w v) e = (λ won. pass_head w v e won, to (Stow w (take_done n w v)) e refl (λ h. h) tt)
    kept (ShutFront w y) e =
        let f : Fine (ShutFront w y) = x.fine q (ShutFront w y) e in
        (λ won. good_shut q (ShutFront w y) (ends w.cell (AnswerShut true)) x e p w y won f.0.at f.1 f.2 refl (λ h. h) tt, to (LoadFront w ToShut) e refl (λ h. h) f.0)
    kept (CheckFront c front back) e =
        let y = m.slot front.index in
        let done : Line T = ends c (AnswerLen (place n back - place n front)) in
        cases (λ l. After q (goes_on m l)) (ltb (full_at front.tag) y.tag) (LoadHead c ToCountFrom) done (λ b. to (LoadHead c ToCountFrom) e refl (λ h. h) tt) (λ b. to done e refl (λ h. h) tt)

    -- a step of any pass, from any state where the rule holds
    pub step_kept : (l : Line T) → get_elem? lines q ≡ some l → After q (step (shape n laps) m p l)
    step_kept l e = by_cases memories (resting (cell_of l)) m p (After q) l (table n (2 * laps) l) (kept l e)
