-- Each step of the ring is paid for: it lowers the weight of its line, an exchange that wins is paid out of the
-- line's harm, and no other line weighs more by more than its price.
use Rattle.std.proofs.Common.{◌≡◌, ℕ, ◌+◌, ◌-◌, ◌*◌, ◌≤◌, not, Bool, true, false, cond, eqb, leb, List, refl, sym, ap, Option as Slot, Some, None, arith}
use Rattle.std.proofs.lemmas.Bool.{false≢true}
use Rattle.std.proofs.lemmas.Bool.Decides.{nat_tests}
use mathlib.Core.Option.{Option, none, some}
use lib.ListN.{get_elem?}
use Rattle.bounded_model.specs.declared.history.Event.{Event}
use Rattle.machine.specs.Words.{Tagged, same, raised, marked, with_second}
use Rattle.machine.proofs.Tests.{same-is, fresh, is_true, is_false, lost, lost_small, lost_none, lost_all}
use Rattle.ring_machine.specs.declared.lines.Walk.{Walk}
use Rattle.ring_machine.specs.declared.lines.Back.{Back}
use Rattle.ring_machine.specs.declared.lines.Back.TheVariants.{ToPut, ToClose, ToCount, ToGauge}
use Rattle.ring_machine.specs.declared.lines.Front.{Front}
use Rattle.ring_machine.specs.declared.lines.Front.TheVariants.{ToTake, ToShut, ToLook, ToCount as ToCountFrom}
use Rattle.ring_machine.specs.declared.lines.Answer.TheVariants.{Len as AnswerLen}
use Rattle.ring_machine.specs.declared.lines.Line.{Line}
use Rattle.ring_machine.specs.declared.lines.Line.TheVariants.{Idle, FetchTail, LoadTail, LoadBack, MoveTail, PutCell, PassTail, MarkBack, LoadHead, LoadFront, MoveHead, TakeCell, PassHead, Stow, ShutFront, CheckFront}
use Rattle.ring_machine.specs.Machine.{Memory, place, behind, empty_at, full_at, stride, further, with_cell, ends, beyond_back, at_back, beyond_front, at_front, put_done, take_done, goes_on, after_slot, after_tail, after_head, wins_put, wins_value, wins_exchange, step, is_idle}
use Rattle.ring_machine.specs.Answers.{shape}
use Rattle.ring_machine.specs.Rule.{IsFine, progress, Good}
use Rattle.step_core.proofs.Falls.{raised_by, Lower, Low, either, swaps}
use Rattle.step_core.proofs.ring.Weight.{was_filled, was_emptied, walking, walking_small, walking_on, walking_far, walking_here, walking_begins, lag, late, lag_small, late_small, turn, turn_grows, front_turn, weight_of, weight, price, back_harm, front_harm, harm, tail_raise, head_raise}
use Rattle.step_core.proofs.ring.Raises.{SameFront, SameBack, put_raises, take_raises, mark_raises, tail_passed, head_passed, filled_front, emptied_back, marked_front, marked_back}

module _ {T : Type 0} where
  -- what the next step of a line costs each other one
  abbrev pub spends : Memory T → Line T → ℕ
  spends m l = cond (wins_exchange m l) (price l) 0

  module _ {n laps cells : ℕ} {m : Memory T} {lines : List (Line T)} {history : List (Event T)} (x : Good T n laps cells m lines history) (q p : ℕ) where
    abbrev Fine : Line T → Type 0
    Fine l = IsFine n laps (progress T n laps m history) l

    -- a hint that was moved as far as it may go names the back, or the front
    tail_there : (w : Walk) (s : Back T) → get_elem? lines q ≡ some (MoveTail w s) → m.tail ≡ w.from → was_filled m.slot w.at ≡ false
    tail_there w s e won =
        let f : Fine (MoveTail w s) = x.fine q (MoveTail w s) e in
        let from : place n m.tail ≡ place n w.from = ap (place n) won in
        let low = x.turned.unput w.at.index w.at.tag f.0.at.slot (omega (arith, x.tail.near, from, f.0.gone)) in
        is_false (was_filled m.slot w.at) (λ b. grind (arith, nat_tests))

    head_there : (w : Walk) (s : Front) → get_elem? lines q ≡ some (MoveHead w s) → m.head ≡ w.from → was_emptied m.slot w.at ≡ false
    head_there w s e won =
        let f : Fine (MoveHead w s) = x.fine q (MoveHead w s) e in
        let from : place n m.head ≡ place n w.from = ap (place n) won in
        let low = x.turned.untaken w.at.index w.at.tag f.at.slot (omega (arith, x.head.near, from, f.gone)) in
        is_false (was_emptied m.slot w.at) (λ b. grind (arith, nat_tests))

    tail_moved : (w : Walk) (s : Back T) → get_elem? lines q ≡ some (MoveTail w s) → m.tail ≡ w.from → lag (after_tail m w.at) ≡ 0
    tail_moved w s e won = lost_none (not (was_filled m.slot w.at)) 6 (ap not (tail_there w s e won))

    head_moved : (w : Walk) (s : Front) → get_elem? lines q ≡ some (MoveHead w s) → m.head ≡ w.from → late (after_head m w.at) ≡ 0
    head_moved w s e won = lost_none (not (was_emptied m.slot w.at)) 6 (ap not (head_there w s e won))

    -- What a step costs the others
    tail_raises : (w : Walk) (s : Back T) → get_elem? lines q ≡ some (MoveTail w s) → m.tail ≡ w.from → (u : Line T) → weight (after_tail m w.at) u ≤ weight m u + 0
    tail_raises w s e won u =
        let after : weight (after_tail m w.at) u ≡ weight_of m.head w.at m.slot 0 (late m) u = ap (λ (g : ℕ). weight_of m.head w.at m.slot g (late m) u) (tail_moved w s e won) in
        omega (arith, after, tail_raise m.head m.tail w.at m.slot (lag m) (late m) u)

    head_raises : (w : Walk) (s : Front) → get_elem? lines q ≡ some (MoveHead w s) → m.head ≡ w.from → (u : Line T) → weight (after_head m w.at) u ≤ weight m u + 0
    head_raises w s e won u =
        let after : weight (after_head m w.at) u ≡ weight_of w.at m.tail m.slot (lag m) 0 u = ap (λ (d : ℕ). weight_of w.at m.tail m.slot (lag m) d u) (head_moved w s e won) in
        omega (arith, after, head_raise m.head w.at m.tail m.slot (lag m) (late m) u)

    -- who passes the tail on found it behind the back
    pass_raised : (w : Walk) → get_elem? lines q ≡ some (PassTail w) → m.tail ≡ w.from → (u : Line T) → weight (after_tail m (behind n w.at)) u ≤ weight m u + 6
    pass_raised w e won u =
        let m' : Memory T = after_tail m (behind n w.at) in
        let f : Fine (PassTail w) = x.fine q (PassTail w) e in
        let from : place n m.tail ≡ place n w.from = ap (place n) won in
        let low = x.turned.put m.tail.index m.tail.tag x.tail.at.slot (omega (arith, from, f.gone, f.before)) in
        let lags : lag m ≡ 6 = lost_all (not (was_filled m.slot m.tail)) 6 (ap not (is_true (was_filled m.slot m.tail) (λ b. grind (arith, nat_tests)))) in
        tail_passed m.head m.tail m'.tail m.slot (lag m) (lag m') (late m) (omega (arith, lags, lag_small m')) (lag_small m') u

    -- a slot that was filled passes no front, and one that was emptied no back; a mark passes neither
    put_raised : (w : Walk) (v : T) (y : Tagged) → get_elem? lines q ≡ some (PutCell w v y) → m.slot w.at.index ≡ y → (u : Line T) → weight (wins_put n m p w v y).memory u ≤ weight m u + 18
    put_raised w v y e won u =
        let m' : Memory T = (wins_put n m p w v y).memory in
        let f : Fine (PutCell w v y) = x.fine q (PutCell w v y) e in
        let front : SameFront m.slot m'.slot = filled_front m.slot w.at.index y (raised y w.cell) won w.at.tag f.2 refl in
        let after : weight m' u ≡ weight_of m.head m.tail m'.slot (lag m') (late m) u = ap (λ (b : Bool). weight_of m.head m.tail m'.slot (lag m') (lost (not b) 6) u) (front m.head) in
        omega (arith, after, put_raises m.head m.tail m.slot m'.slot (lag m) (lag m') (late m) front (lag_small m') (late_small m) u)

    take_raised : (w : Walk) (y : Tagged) → get_elem? lines q ≡ some (TakeCell w y) → m.slot w.at.index ≡ y → (u : Line T) (o : Option (Slot T)) → weight (wins_value n m p w y o).memory u ≤ weight m u + 17
    take_raised w y e won u none = omega arith
    take_raised w y e won u (some None) = omega arith
    take_raised w y e won u (some (Some v)) =
        let m' : Memory T = (wins_value n m p w y (some (Some v))).memory in
        let f : Fine (TakeCell w y) = x.fine q (TakeCell w y) e in
        let back : SameBack m.slot m'.slot = emptied_back m.slot w.at.index y (raised y w.cell) won w.at.tag f.2 refl in
        let after : weight m' u ≡ weight_of m.head m.tail m'.slot (lag m) (late m') u = ap (λ (b : Bool). weight_of m.head m.tail m'.slot (lost (not b) 6) (late m') u) (back m.tail) in
        omega (arith, after, take_raises m.head m.tail m.slot m'.slot (lag m) (late m) (late m') back (lag_small m) (late_small m') u)

    mark_raised : (w : Walk) (y y' : Tagged) → m.slot w.at.index ≡ y → y'.tag ≡ y.tag → (u : Line T) → weight (after_slot m w y') u ≤ weight m u + 14
    mark_raised w y y' won tag u =
        let m' : Memory T = after_slot m w y' in
        let front : SameFront m.slot m'.slot = marked_front m.slot w.at.index y y' won tag in
        let back : SameBack m.slot m'.slot = marked_back m.slot w.at.index y y' won tag in
        let lags : weight m' u ≡ weight_of m.head m.tail m'.slot (lag m) (late m') u = ap (λ (b : Bool). weight_of m.head m.tail m'.slot (lost (not b) 6) (late m') u) (back m.tail) in
        let after : weight_of m.head m.tail m'.slot (lag m) (late m') u ≡ weight_of m.head m.tail m'.slot (lag m) (late m) u = ap (λ (b : Bool). weight_of m.head m.tail m'.slot (lag m) (lost (not b) 6) u) (front m.head) in
        omega (arith, lags, after, mark_raises m.head m.tail m.slot m'.slot (lag m) (late m) front back u)

    pub step_raises : (l u : Line T) → get_elem? lines q ≡ some l → weight (step (shape n laps) m p l).memory u ≤ weight m u + spends m l
    step_raises (Idle c a) u e = omega arith
    step_raises (FetchTail c v) u e = omega arith
    step_raises (LoadTail c s) u e = omega arith
    step_raises (Stow w a) u e = omega arith
    step_raises (LoadBack w s) u e = omega arith
    step_raises (MoveTail w s) u e = raised_by weight m u (LoadTail w.cell s) (same m.tail w.from) (goes_on (after_tail m w.at) (LoadTail w.cell s)) 0 (λ b. tail_raises w s e (same-is m.tail w.from b) u)
    step_raises (PutCell w v y) u e = raised_by weight m u (LoadBack w (ToPut v)) (same (m.slot w.at.index) y) (wins_put n m p w v y) 18 (λ b. put_raised w v y e (same-is (m.slot w.at.index) y b) u)
    step_raises (PassTail w) u e = raised_by weight m u (ends w.cell (put_done n w)) (same m.tail w.from) (goes_on (after_tail m (behind n w.at)) (ends w.cell (put_done n w))) 6 (λ b. pass_raised w e (same-is m.tail w.from b) u)
    step_raises (MarkBack w y) u e = raised_by weight m u _ (same (m.slot w.at.index) y) _ 14 (λ b. mark_raised w y (marked y) (same-is (m.slot w.at.index) y b) refl u)
    step_raises (LoadHead c s) u e = omega arith
    step_raises (LoadFront w s) u e = omega arith
    step_raises (MoveHead w s) u e = raised_by weight m u (LoadHead w.cell s) (same m.head w.from) (goes_on (after_head m w.at) (LoadHead w.cell s)) 0 (λ b. head_raises w s e (same-is m.head w.from b) u)
    step_raises (TakeCell w y) u e = raised_by weight m u (LoadFront w ToTake) (same (m.slot w.at.index) y) (wins_value n m p w y (m.home y.index)) 17 (λ b. take_raised w y e (same-is (m.slot w.at.index) y b) u (m.home y.index))
    step_raises (PassHead w v) u e = raised_by weight m u (Stow w (take_done n w v)) (same m.head w.from) (goes_on (after_head m (behind n w.at)) (Stow w (take_done n w v))) 6 (λ b. let m' = after_head m (behind n w.at) in head_passed m.head m'.head m.tail m.slot (lag m) (late m) (late m') (late_small m') u)
    step_raises (ShutFront w y) u e = raised_by weight m u _ (same (m.slot w.at.index) y) _ 14 (λ b. mark_raised w y (with_second y) (same-is (m.slot w.at.index) y b) refl u)
    step_raises (CheckFront c front back) u e = omega arith

    -- What it leaves to its own call

    here_low : (w : Walk) (s : Back T) → Lower weight harm m 0 (1 + turn m.slot (lag m) (late m) s) (back_harm s) (at_back n (2 * laps) w s (m.slot w.at.index))
    here_low w (ToPut v) =
        let y = m.slot w.at.index in
        either weight harm m 3 24 y.mark _ _ (omega arith, omega arith)
        (either weight harm m 3 24 (eqb y.tag (empty_at w.at.tag)) _ _
        (either weight harm m 3 24 (leb (2 * laps) (y.tag + 1)) _ _ (omega arith, omega arith) (omega (arith, fresh y 14), omega arith))
        (omega arith, omega arith))
    here_low w ToClose = let y = m.slot w.at.index in either weight harm m 2 14 y.mark _ _ (omega arith, omega arith) (omega (arith, fresh y 14), omega arith)
    here_low w (ToCount front) = (omega arith, omega arith)
    here_low w ToGauge = (omega arith, omega arith)

    front_low : (w : Walk) (s : Front) → was_emptied m.slot w.at ≡ false → Lower weight harm m 0 (1 + front_turn (lag m) s) (front_harm s) (at_front w s (m.slot w.at.index))
    front_low w ToTake b =
        let y = m.slot w.at.index in
        either weight harm m 4 23 y.second _ _ (omega arith, omega arith)
        (either weight harm m 4 23 (eqb y.tag (full_at w.at.tag)) _ _ (omega (arith, fresh y 14), omega arith)
        (either weight harm m 4 23 y.mark _ _ (omega arith, omega arith) (omega arith, omega arith)))
    front_low w ToShut b = let y = m.slot w.at.index in either weight harm m 2 14 y.second _ _ (omega arith, omega arith) (omega (arith, fresh y 14), omega arith)
    front_low w ToLook b = (omega arith, omega arith)
    front_low w ToCountFrom b = (omega (arith, lost_none (not (was_emptied m.slot w.at)) (5 + lag m + late m) (ap not b)), omega arith)

    -- each step of a call lowers its weight, and pays what it spends
    pub step_falls : (l : Line T) → get_elem? lines q ≡ some l → is_idle l ≡ false → Low weight harm (step (shape n laps) m p l) (spends m l) (weight m l) (harm l)
    step_falls (Idle c a) e busy = absurd (false≢true (sym busy))
    step_falls (FetchTail c v) e busy =
        (omega (arith, walking_begins (was_filled m.slot m.tail) (lost (same m.tail m.tail) (lag m)) 2 (fresh m.tail (lag m))), omega arith)
    step_falls (LoadTail c s) e busy =
        (omega (arith, walking_begins (was_filled m.slot m.tail) (lost (same m.tail m.tail) (lag m)) (turn m.slot (lag m) (late m) s) (fresh m.tail (lag m))), omega arith)
    step_falls (LoadBack w s) e busy = by_test (was_filled m.slot w.at) refl
      where
        by_test : (b : Bool) → was_filled m.slot w.at ≡ b → Low weight harm (goes_on m (cond b (beyond_back n w s) (at_back n (2 * laps) w s (m.slot w.at.index)))) 0 (walking b w.gone (lost (same m.tail w.from) (lag m)) (turn m.slot (lag m) (late m) s)) (back_harm s)
        by_test true b =
            let f : Fine (LoadBack w s) = x.fine q (LoadBack w s) e in
            let rest = lost (same m.tail w.from) (lag m) in
            let left = turn m.slot (lag m) (late m) s in
            either weight harm m (walking true w.gone rest left) (back_harm s) (eqb (w.gone + 1) stride) (MoveTail (further n w) s) (LoadBack (further n w) s)
            (walking_far w.gone rest left f.0.short, omega arith)
            (walking_on (was_filled m.slot (further n w).at) w.gone rest left f.0.short, omega arith)
        by_test false b =
            let h = here_low w s in
            (omega (arith, h.0, walking_here w.gone (lost (same m.tail w.from) (lag m)) (turn m.slot (lag m) (late m) s)), h.1)
    step_falls (MoveTail w s) e busy =
        swaps weight harm m (same m.tail w.from) (goes_on (after_tail m w.at) (LoadTail w.cell s)) (LoadTail w.cell s) 0 (3 + turn m.slot (lag m) (late m) s) (lag m) (back_harm s)
        (λ b. moved (same-is m.tail w.from b))
        (omega arith, omega arith)
      where
        moved : m.tail ≡ w.from → Lower weight harm (after_tail m w.at) 0 (3 + turn m.slot (lag m) (late m) s) (back_harm s) (LoadTail w.cell s)
        moved won =
            let g = tail_moved w s e won in
            let less : turn m.slot (lag (after_tail m w.at)) (late m) s ≤ turn m.slot (lag m) (late m) s = turn_grows m.slot (lag (after_tail m w.at)) (late m) (lag m) (late m) s (omega (arith, g)) (omega arith) in
            (omega (arith, g, less), omega arith)
    step_falls (PutCell w v y) e busy =
        swaps weight harm m (same (m.slot w.at.index) y) (wins_put n m p w v y) (LoadBack w (ToPut v)) 18 2 14 24 (λ b. passed (eqb (w.gone + 1) stride) (wins_put n m p w v y).memory)
        (let r = lost (same m.tail w.from) (lag m) in omega (arith, walking_small (was_filled m.slot w.at) w.gone r 2, lost_small (same m.tail w.from) (lag m), lag_small m), omega arith)
      where
        passed : (b : Bool) (m' : Memory T) → Lower weight harm m' 18 2 24 (cond b (PassTail (with_cell w y.index)) (ends y.index (put_done n (with_cell w y.index))))
        passed true m' = (omega arith, omega arith)
        passed false m' = (omega arith, omega arith)
    step_falls (PassTail w) e busy = ended (same m.tail w.from)
      where
        ended : (b : Bool) → Low weight harm (cond b (goes_on (after_tail m (behind n w.at)) (ends w.cell (put_done n w))) (goes_on m (ends w.cell (put_done n w)))) (cond b 6 0) 1 6
        ended true = (omega arith, omega arith)
        ended false = (omega arith, omega arith)
    step_falls (MarkBack w y) e busy =
        swaps weight harm m (same (m.slot w.at.index) y) _ (LoadBack w ToClose) 14 1 14 14 (λ b. (omega arith, omega arith))
        (let r = lost (same m.tail w.from) (lag m) in omega (arith, walking_small (was_filled m.slot w.at) w.gone r 1, lost_small (same m.tail w.from) (lag m), lag_small m), omega arith)
    step_falls (LoadHead c s) e busy =
        (omega (arith, walking_begins (was_emptied m.slot m.head) (lost (same m.head m.head) (late m)) (front_turn (lag m) s) (fresh m.head (late m))), omega arith)
    step_falls (LoadFront w s) e busy = by_test (was_emptied m.slot w.at) refl
      where
        by_test : (b : Bool) → was_emptied m.slot w.at ≡ b → Low weight harm (goes_on m (cond b (beyond_front n w s) (at_front w s (m.slot w.at.index)))) 0 (walking b w.gone (lost (same m.head w.from) (late m)) (front_turn (lag m) s)) (front_harm s)
        by_test true b =
            let f : Fine (LoadFront w s) = x.fine q (LoadFront w s) e in
            let rest = lost (same m.head w.from) (late m) in
            let left = front_turn (lag m) s in
            either weight harm m (walking true w.gone rest left) (front_harm s) (eqb (w.gone + 1) stride) (MoveHead (further n w) s) (LoadFront (further n w) s)
            (walking_far w.gone rest left f.short, omega arith)
            (walking_on (was_emptied m.slot (further n w).at) w.gone rest left f.short, omega arith)
        by_test false b =
            let h = front_low w s b in
            (omega (arith, h.0, walking_here w.gone (lost (same m.head w.from) (late m)) (front_turn (lag m) s)), h.1)
    step_falls (MoveHead w s) e busy =
        swaps weight harm m (same m.head w.from) (goes_on (after_head m w.at) (LoadHead w.cell s)) (LoadHead w.cell s) 0 (3 + front_turn (lag m) s) (late m) (front_harm s)
        (λ b. let d = head_moved w s e (same-is m.head w.from b) in (omega (arith, d), omega arith))
        (omega arith, omega arith)
    step_falls (TakeCell w y) e busy =
        swaps weight harm m (same (m.slot w.at.index) y) (wins_value n m p w y (m.home y.index)) (LoadFront w ToTake) 17 3 14 23 (λ b. by_value (m.home y.index))
        (let r = lost (same m.head w.from) (late m) in omega (arith, walking_small (was_emptied m.slot w.at) w.gone r 3, lost_small (same m.head w.from) (late m), late_small m), omega arith)
      where
        by_value : (o : Option (Slot T)) → Low weight harm (wins_value n m p w y o) 17 3 23
        by_value none = (omega arith, omega arith)
        by_value (some None) = (omega arith, omega arith)
        by_value (some (Some v)) = passed (eqb (w.gone + 1) stride) (wins_value n m p w y (some (Some v))).memory
          where
            passed : (b : Bool) (m' : Memory T) → Lower weight harm m' 17 3 23 (cond b (PassHead (with_cell w y.index) v) (Stow (with_cell w y.index) (take_done n (with_cell w y.index) v)))
            passed true m' = (omega arith, omega arith)
            passed false m' = (omega arith, omega arith)
    step_falls (PassHead w v) e busy = ended (same m.head w.from)
      where
        ended : (b : Bool) → Low weight harm (cond b (goes_on (after_head m (behind n w.at)) (Stow w (take_done n w v))) (goes_on m (Stow w (take_done n w v)))) (cond b 6 0) 2 6
        ended true = (omega arith, omega arith)
        ended false = (omega arith, omega arith)
    step_falls (Stow w a) e busy = (omega arith, omega arith)
    step_falls (ShutFront w y) e busy =
        swaps weight harm m (same (m.slot w.at.index) y) _ (LoadFront w ToShut) 14 1 14 14 (λ b. (omega arith, omega arith))
        (let r = lost (same m.head w.from) (late m) in omega (arith, walking_small (was_emptied m.slot w.at) w.gone r 1, lost_small (same m.head w.from) (late m), late_small m), omega arith)
    step_falls (CheckFront c front back) e busy = by_test (was_emptied m.slot front)
      where
        by_test : (b : Bool) → Low weight harm (goes_on m (cond b (LoadHead c ToCountFrom) (ends c (AnswerLen (place n back - place n front))))) 0 (1 + lost (not b) (5 + lag m + late m)) 0
        by_test true = (omega (arith, lost_all false (5 + lag m + late m) refl), omega arith)
        by_test false = (omega arith, omega arith)
