-- By how much an exchange that is won raises the weight of another line of the ring.
use Rattle.std.proofs.Common.{◌≡◌, ℕ, ◌+◌, ◌≤◌, not, Bool, true, false, cond, eqb, ltb, eqb-true, refl, sym, ap, ◌∙◌, arith}
use Rattle.std.proofs.lemmas.Bool.Decides.{nat_tests}
use Rattle.machine.specs.Words.{Tagged, same}
use Rattle.machine.proofs.Tests.{lost, lost_small, lost_more, lost_grows}
use Rattle.ring_machine.specs.declared.lines.Back.{Back}
use Rattle.ring_machine.specs.declared.lines.Back.TheVariants.{ToPut, ToClose, ToCount, ToGauge}
use Rattle.ring_machine.specs.declared.lines.Front.{Front}
use Rattle.ring_machine.specs.declared.lines.Front.TheVariants.{ToTake, ToShut, ToLook, ToCount as ToCountFrom}
use Rattle.ring_machine.specs.declared.lines.Line.{Line}
use Rattle.ring_machine.specs.declared.lines.Line.TheVariants.{Idle, FetchTail, LoadTail, LoadBack, MoveTail, PutCell, PassTail, MarkBack, LoadHead, LoadFront, MoveHead, TakeCell, PassHead, Stow, ShutFront, CheckFront}
use Rattle.ring_machine.specs.Machine.{empty_at, full_at, store_word}
use Rattle.step_core.proofs.ring.Weight.{was_filled, was_emptied, walking, turn, turn_grows, front_turn, weight_of}

-- a walk whose position was passed meanwhile, or whose hint was moved
walking_raised : (b b' : Bool) (gone rest rest' turn turn' more : ℕ) → rest' ≤ 6 → turn' ≤ turn + more → walking b' gone rest' turn' ≤ walking b gone rest turn + (12 + more)
unfolding walking
walking_raised true true gone rest rest' turn turn' more h h' = omega (arith, h, h')
walking_raised true false gone rest rest' turn turn' more h h' = omega (arith, h, h')
walking_raised false true gone rest rest' turn turn' more h h' = omega (arith, h, h')
walking_raised false false gone rest rest' turn turn' more h h' = omega (arith, h, h')

-- and one whose position was not
walking_turned : (b : Bool) (gone rest turn turn' more : ℕ) → turn' ≤ turn + more → walking b gone rest turn' ≤ walking b gone rest turn + more
unfolding walking
walking_turned true gone rest turn turn' more h = omega (arith, h)
walking_turned false gone rest turn turn' more h = omega (arith, h)

walking_hinted : (b : Bool) (gone rest rest' turn turn' more : ℕ) → rest' ≤ rest + more → turn' ≤ turn → walking b gone rest' turn' ≤ walking b gone rest turn + more
unfolding walking
walking_hinted true gone rest rest' turn turn' more h h' = omega (arith, h, h')
walking_hinted false gone rest rest' turn turn' more h h' = omega (arith, h, h')

-- tests that hold together are the same
same_bools : (b c : Bool) → (b ≡ true → c ≡ true) → (c ≡ true → b ≡ true) → b ≡ c
same_bools true c f g = sym (f refl)
same_bools false true f g = g refl
same_bools false false f g = refl

-- no position was passed that was not
abbrev pub SameFront : (slot slot' : ℕ → Tagged) → Type 0
SameFront slot slot' = (w : Tagged) → was_emptied slot' w ≡ was_emptied slot w

abbrev pub SameBack : (slot slot' : ℕ → Tagged) → Type 0
SameBack slot slot' = (w : Tagged) → was_filled slot' w ≡ was_filled slot w

front_turn_raised : (g g' : ℕ) (s : Front) → g' ≤ 6 → front_turn g' s ≤ front_turn g s + 6
front_turn_raised g g' ToTake h = omega arith
front_turn_raised g g' ToShut h = omega arith
front_turn_raised g g' ToLook h = omega arith
front_turn_raised g g' ToCountFrom h = omega (arith, h)

module _ {T : Type 0} where
  -- hints that lag
  turn_lags : (slot slot' : ℕ → Tagged) (g g' e e' : ℕ) (s : Back T) → SameFront slot slot' → g' + e' ≤ g + e + 6 → turn slot' g' e' s ≤ turn slot g e s + 6
  turn_lags slot slot' g g' e e' (ToPut v) same h = omega arith
  turn_lags slot slot' g g' e e' ToClose same h = omega arith
  turn_lags slot slot' g g' e e' ToGauge same h = omega arith
  turn_lags slot slot' g g' e e' (ToCount front) same h =
      let there = was_emptied slot front in
      omega (
        arith,
        ap (λ (b : Bool). lost (not b) (5 + g' + e')) (same front),
        lost_grows (not there) (5 + g' + e') (5 + g + e + 6) (omega (arith, h)),
        lost_more (not there) (5 + g + e) 6,
      )

  -- a front that was passed: a count begins again
  turn_passed : (slot slot' : ℕ → Tagged) (g e e' : ℕ) (s : Back T) → g ≤ 6 → e' ≤ 6 → turn slot' g e' s ≤ turn slot g e s + 17
  turn_passed slot slot' g e e' (ToPut v) h h' = omega arith
  turn_passed slot slot' g e e' ToClose h h' = omega arith
  turn_passed slot slot' g e e' ToGauge h h' = omega arith
  turn_passed slot slot' g e e' (ToCount front) h h' = omega (arith, h, h', lost_small (not (was_emptied slot' front)) (5 + g + e'))

  -- a slot was filled, and the tail may lag
  pub put_raises : (head tail : Tagged) (slot slot' : ℕ → Tagged) (g g' e : ℕ) → SameFront slot slot' → g' ≤ 6 → e ≤ 6 → (l : Line T) → weight_of head tail slot' g' e l ≤ weight_of head tail slot g e l + 18
  put_raises head tail slot slot' g g' e front h h' (Idle c a) = omega arith
  put_raises head tail slot slot' g g' e front h h' (FetchTail c v) = omega (arith, h)
  put_raises head tail slot slot' g g' e front h h' (LoadTail c s) = omega (arith, h, turn_lags slot slot' g g' e e s front (omega (arith, h)))
  put_raises head tail slot slot' g g' e front h h' (LoadBack w s) =
      let stays = same tail w.from in
      walking_raised (was_filled slot w.at) (was_filled slot' w.at) w.gone (lost stays g) (lost stays g') (turn slot g e s) (turn slot' g' e s) 6 (omega (arith, h, lost_small stays g')) (turn_lags slot slot' g g' e e s front (omega (arith, h)))
  put_raises head tail slot slot' g g' e front h h' (MoveTail w s) = omega (arith, h, lost_small (same tail w.from) g', turn_lags slot slot' g g' e e s front (omega (arith, h)))
  put_raises head tail slot slot' g g' e front h h' (PutCell w v y) = omega (arith, lost_small (same (slot' w.at.index) y) 14)
  put_raises head tail slot slot' g g' e front h h' (PassTail w) = omega arith
  put_raises head tail slot slot' g g' e front h h' (MarkBack w y) = omega (arith, lost_small (same (slot' w.at.index) y) 14)
  put_raises head tail slot slot' g g' e front h h' (LoadHead c s) = omega (arith, front_turn_raised g g' s h)
  put_raises head tail slot slot' g g' e front h h' (LoadFront w s) =
      let stays = same head w.from in
      walking_raised (was_emptied slot w.at) (was_emptied slot' w.at) w.gone (lost stays e) (lost stays e) (front_turn g s) (front_turn g' s) 6 (omega (arith, h', lost_small stays e)) (front_turn_raised g g' s h)
  put_raises head tail slot slot' g g' e front h h' (MoveHead w s) = omega (arith, front_turn_raised g g' s h)
  put_raises head tail slot slot' g g' e front h h' (TakeCell w y) = omega (arith, lost_small (same (slot' w.at.index) y) 14)
  put_raises head tail slot slot' g g' e front h h' (PassHead w v) = omega arith
  put_raises head tail slot slot' g g' e front h h' (Stow w a) = omega arith
  put_raises head tail slot slot' g g' e front h h' (ShutFront w y) = omega (arith, lost_small (same (slot' w.at.index) y) 14)
  put_raises head tail slot slot' g g' e front h h' (CheckFront c f back) = omega (arith, turn_lags slot slot' g g' e e (ToCount f) front (omega (arith, h)))

  -- a slot was emptied, and the head may lag
  pub take_raises : (head tail : Tagged) (slot slot' : ℕ → Tagged) (g e e' : ℕ) → SameBack slot slot' → g ≤ 6 → e' ≤ 6 → (l : Line T) → weight_of head tail slot' g e' l ≤ weight_of head tail slot g e l + 17
  take_raises head tail slot slot' g e e' back h h' (Idle c a) = omega arith
  take_raises head tail slot slot' g e e' back h h' (FetchTail c v) = omega arith
  take_raises head tail slot slot' g e e' back h h' (LoadTail c s) = omega (arith, turn_passed slot slot' g e e' s h h')
  take_raises head tail slot slot' g e e' back h h' (LoadBack w s) =
      let rest = lost (same tail w.from) g in
      omega (
        arith,
        ap (λ (b : Bool). walking b w.gone rest (turn slot' g e' s)) (back w.at),
        walking_turned (was_filled slot w.at) w.gone rest (turn slot g e s) (turn slot' g e' s) 17 (turn_passed slot slot' g e e' s h h'),
      )
  take_raises head tail slot slot' g e e' back h h' (MoveTail w s) = omega (arith, turn_passed slot slot' g e e' s h h')
  take_raises head tail slot slot' g e e' back h h' (PutCell w v y) = omega (arith, lost_small (same (slot' w.at.index) y) 14)
  take_raises head tail slot slot' g e e' back h h' (PassTail w) = omega arith
  take_raises head tail slot slot' g e e' back h h' (MarkBack w y) = omega (arith, lost_small (same (slot' w.at.index) y) 14)
  take_raises head tail slot slot' g e e' back h h' (LoadHead c s) = omega (arith, h')
  take_raises head tail slot slot' g e e' back h h' (LoadFront w s) =
      let stays = same head w.from in
      walking_raised (was_emptied slot w.at) (was_emptied slot' w.at) w.gone (lost stays e) (lost stays e') (front_turn g s) (front_turn g s) 5 (omega (arith, h', lost_small stays e')) (omega arith)
  take_raises head tail slot slot' g e e' back h h' (MoveHead w s) = omega (arith, h', lost_small (same head w.from) e')
  take_raises head tail slot slot' g e e' back h h' (TakeCell w y) = omega (arith, lost_small (same (slot' w.at.index) y) 14)
  take_raises head tail slot slot' g e e' back h h' (PassHead w v) = omega arith
  take_raises head tail slot slot' g e e' back h h' (Stow w a) = omega arith
  take_raises head tail slot slot' g e e' back h h' (ShutFront w y) = omega (arith, lost_small (same (slot' w.at.index) y) 14)
  take_raises head tail slot slot' g e e' back h h' (CheckFront c f behind) = omega (arith, turn_passed slot slot' g e e' (ToCount f) h h')

  -- a slot was marked
  pub mark_raises : (head tail : Tagged) (slot slot' : ℕ → Tagged) (g e : ℕ) → SameFront slot slot' → SameBack slot slot' → (l : Line T) → weight_of head tail slot' g e l ≤ weight_of head tail slot g e l + 14
  mark_raises head tail slot slot' g e front back (Idle c a) = omega arith
  mark_raises head tail slot slot' g e front back (FetchTail c v) = omega arith
  mark_raises head tail slot slot' g e front back (LoadTail c s) = omega (arith, turn_lags slot slot' g g e e s front (omega arith))
  mark_raises head tail slot slot' g e front back (LoadBack w s) =
      let rest = lost (same tail w.from) g in
      omega (
        arith,
        ap (λ (b : Bool). walking b w.gone rest (turn slot' g e s)) (back w.at),
        walking_turned (was_filled slot w.at) w.gone rest (turn slot g e s) (turn slot' g e s) 6 (turn_lags slot slot' g g e e s front (omega arith)),
      )
  mark_raises head tail slot slot' g e front back (MoveTail w s) = omega (arith, turn_lags slot slot' g g e e s front (omega arith))
  mark_raises head tail slot slot' g e front back (PutCell w v y) = omega (arith, lost_small (same (slot' w.at.index) y) 14)
  mark_raises head tail slot slot' g e front back (PassTail w) = omega arith
  mark_raises head tail slot slot' g e front back (MarkBack w y) = omega (arith, lost_small (same (slot' w.at.index) y) 14)
  mark_raises head tail slot slot' g e front back (LoadHead c s) = omega arith
  mark_raises head tail slot slot' g e front back (LoadFront w s) = omega (arith, ap (λ (b : Bool). walking b w.gone (lost (same head w.from) e) (front_turn g s)) (front w.at))
  mark_raises head tail slot slot' g e front back (MoveHead w s) = omega arith
  mark_raises head tail slot slot' g e front back (TakeCell w y) = omega (arith, lost_small (same (slot' w.at.index) y) 14)
  mark_raises head tail slot slot' g e front back (PassHead w v) = omega arith
  mark_raises head tail slot slot' g e front back (Stow w a) = omega arith
  mark_raises head tail slot slot' g e front back (ShutFront w y) = omega (arith, lost_small (same (slot' w.at.index) y) 14)
  mark_raises head tail slot slot' g e front back (CheckFront c f behind) = omega (arith, turn_lags slot slot' g g e e (ToCount f) front (omega arith))

  -- the tail was passed on
  pub tail_passed : (head tail tail' : Tagged) (slot : ℕ → Tagged) (g g' e : ℕ) → g' ≤ g → g' ≤ 6 → (l : Line T) → weight_of head tail' slot g' e l ≤ weight_of head tail slot g e l + 6
  tail_passed head tail tail' slot g g' e less h (Idle c a) = omega arith
  tail_passed head tail tail' slot g g' e less h (FetchTail c v) = omega (arith, less)
  tail_passed head tail tail' slot g g' e less h (LoadTail c s) = omega (arith, less, turn_grows slot g' e g e s less (omega arith))
  tail_passed head tail tail' slot g g' e less h (LoadBack w s) =
      walking_hinted (was_filled slot w.at) w.gone (lost (same tail w.from) g) (lost (same tail' w.from) g') (turn slot g e s) (turn slot g' e s) 6 (omega (arith, h, lost_small (same tail' w.from) g')) (turn_grows slot g' e g e s less (omega arith))
  tail_passed head tail tail' slot g g' e less h (MoveTail w s) = omega (arith, h, lost_small (same tail' w.from) g', turn_grows slot g' e g e s less (omega arith))
  tail_passed head tail tail' slot g g' e less h (PutCell w v y) = omega arith
  tail_passed head tail tail' slot g g' e less h (PassTail w) = omega arith
  tail_passed head tail tail' slot g g' e less h (MarkBack w y) = omega arith
  tail_passed head tail tail' slot g g' e less h (LoadHead c s) = omega (arith, front_turn_raised g g' s h)
  tail_passed head tail tail' slot g g' e less h (LoadFront w s) = walking_turned (was_emptied slot w.at) w.gone (lost (same head w.from) e) (front_turn g s) (front_turn g' s) 6 (front_turn_raised g g' s h)
  tail_passed head tail tail' slot g g' e less h (MoveHead w s) = omega (arith, front_turn_raised g g' s h)
  tail_passed head tail tail' slot g g' e less h (TakeCell w y) = omega arith
  tail_passed head tail tail' slot g g' e less h (PassHead w v) = omega arith
  tail_passed head tail tail' slot g g' e less h (Stow w a) = omega arith
  tail_passed head tail tail' slot g g' e less h (ShutFront w y) = omega arith
  tail_passed head tail tail' slot g g' e less h (CheckFront c f back) = omega (arith, turn_grows {T = T} slot g' e g e (ToCount f) less (omega arith))

  -- and the head
  pub head_passed : (head head' tail : Tagged) (slot : ℕ → Tagged) (g e e' : ℕ) → e' ≤ 6 → (l : Line T) → weight_of head' tail slot g e' l ≤ weight_of head tail slot g e l + 6
  head_passed head head' tail slot g e e' h (Idle c a) = omega arith
  head_passed head head' tail slot g e e' h (FetchTail c v) = omega arith
  head_passed head head' tail slot g e e' h (LoadTail c s) = omega (arith, turn_lags slot slot g g e e' s (λ w. refl) (omega (arith, h)))
  head_passed head head' tail slot g e e' h (LoadBack w s) =
      walking_turned (was_filled slot w.at) w.gone (lost (same tail w.from) g) (turn slot g e s) (turn slot g e' s) 6 (turn_lags slot slot g g e e' s (λ w. refl) (omega (arith, h)))
  head_passed head head' tail slot g e e' h (MoveTail w s) = omega (arith, turn_lags slot slot g g e e' s (λ w. refl) (omega (arith, h)))
  head_passed head head' tail slot g e e' h (PutCell w v y) = omega arith
  head_passed head head' tail slot g e e' h (PassTail w) = omega arith
  head_passed head head' tail slot g e e' h (MarkBack w y) = omega arith
  head_passed head head' tail slot g e e' h (LoadHead c s) = omega (arith, h)
  head_passed head head' tail slot g e e' h (LoadFront w s) =
      walking_hinted (was_emptied slot w.at) w.gone (lost (same head w.from) e) (lost (same head' w.from) e') (front_turn g s) (front_turn g s) 6 (omega (arith, h, lost_small (same head' w.from) e')) (omega arith)
  head_passed head head' tail slot g e e' h (MoveHead w s) = omega (arith, h, lost_small (same head' w.from) e')
  head_passed head head' tail slot g e e' h (TakeCell w y) = omega arith
  head_passed head head' tail slot g e e' h (PassHead w v) = omega arith
  head_passed head head' tail slot g e e' h (Stow w a) = omega arith
  head_passed head head' tail slot g e e' h (ShutFront w y) = omega arith
  head_passed head head' tail slot g e e' h (CheckFront c f back) = omega (arith, turn_lags slot slot g g e e' (ToCount f) (λ w. refl) (omega (arith, h)))

-- One slot has another word: which positions it passes
module _ (slot : ℕ → Tagged) (i : ℕ) (y y' : Tagged) (there : slot i ≡ y) where
  same_tests : (test : ℕ → ℕ → Bool) → ((tag : ℕ) → test tag y'.tag ≡ test tag y.tag) → (w : Tagged) → test w.tag (store_word slot i y' w.index).tag ≡ test w.tag (slot w.index).tag
  same_tests test same w = by_test (eqb w.index i) refl
    where
      by_test : (b : Bool) → eqb w.index i ≡ b → test w.tag (cond b y' (slot w.index)).tag ≡ test w.tag (slot w.index).tag
      by_test true e = same w.tag ∙ ap (λ (x : Tagged). test w.tag x.tag) (sym there ∙ ap slot (sym (eqb-true w.index i e)))
      by_test false e = refl

  -- a lap's empty slot was filled: it is not emptied
  pub filled_front : (lap : ℕ) → y.tag ≡ empty_at lap → y'.tag ≡ y.tag + 1 → SameFront slot (store_word slot i y')
  filled_front lap is more = same_tests (λ tag found. ltb (full_at tag) found) (λ tag. same_bools (ltb (full_at tag) y'.tag) (ltb (full_at tag) y.tag) (λ b. grind (arith, nat_tests)) (λ b. grind (arith, nat_tests)))

  -- a full one was emptied: it was filled before
  pub emptied_back : (lap : ℕ) → y.tag ≡ full_at lap → y'.tag ≡ y.tag + 1 → SameBack slot (store_word slot i y')
  emptied_back lap is more = same_tests (λ tag found. ltb (empty_at tag) found) (λ tag. same_bools (ltb (empty_at tag) y'.tag) (ltb (empty_at tag) y.tag) (λ b. grind (arith, nat_tests)) (λ b. grind (arith, nat_tests)))

  -- a slot was marked
  pub marked_front : y'.tag ≡ y.tag → SameFront slot (store_word slot i y')
  marked_front is = same_tests (λ tag found. ltb (full_at tag) found) (λ tag. ap (ltb (full_at tag)) is)

  pub marked_back : y'.tag ≡ y.tag → SameBack slot (store_word slot i y')
  marked_back is = same_tests (λ tag found. ltb (empty_at tag) found) (λ tag. ap (ltb (empty_at tag)) is)
