-- How many steps a line of the ring has left at most while no other pass wins an exchange, by how much an
-- exchange raises that number for another line, and how much the exchanges that its call may yet win do.
use Rattle.std.proofs.Common.{◌≡◌, ℕ, ◌+◌, ◌-◌, ◌≤◌, ◌<◌, not, Bool, true, false, cond, ltb, refl, arith}
use Rattle.machine.specs.Words.{Tagged, same}
use Rattle.machine.proofs.Tests.{lost, lost_small, lost_grows}
use Rattle.ring_machine.specs.declared.lines.Back.{Back}
use Rattle.ring_machine.specs.declared.lines.Back.TheVariants.{ToPut, ToClose, ToCount, ToGauge}
use Rattle.ring_machine.specs.declared.lines.Front.{Front}
use Rattle.ring_machine.specs.declared.lines.Front.TheVariants.{ToTake, ToShut, ToLook, ToCount as ToCountFrom}
use Rattle.ring_machine.specs.declared.lines.Line.{Line}
use Rattle.ring_machine.specs.declared.lines.Line.TheVariants.{Idle, FetchTail, LoadTail, LoadBack, MoveTail, PutCell, PassTail, MarkBack, LoadHead, LoadFront, MoveHead, TakeCell, PassHead, Stow, ShutFront, CheckFront}
use Rattle.ring_machine.specs.Machine.{Memory, empty_at, full_at, stride}

-- a position was put, or taken, as its slot says
abbrev pub was_filled : (ℕ → Tagged) → Tagged → Bool
was_filled slot w = ltb (empty_at w.tag) (slot w.index).tag

abbrev pub was_emptied : (ℕ → Tagged) → Tagged → Bool
was_emptied slot w = ltb (full_at w.tag) (slot w.index).tag

-- what is left to a walk that has gone so far, at a position that was passed or not: where it was, it goes on, and
-- then moves its hint and walks again, `rest` more where the hint is no longer the one that it began at
unfoldable pub walking : Bool → ℕ → ℕ → ℕ → ℕ
walking passed gone rest turn = cond passed (stride - gone + 3 + turn + rest) (1 + turn)

pub walking_small : (b : Bool) (gone rest turn : ℕ) → walking b gone rest turn ≤ 7 + turn + rest
unfolding walking
walking_small true gone rest turn = omega arith
walking_small false gone rest turn = omega arith

pub walking_grows : (b : Bool) (gone rest rest' turn turn' : ℕ) → rest ≤ rest' → turn ≤ turn' → walking b gone rest turn ≤ walking b gone rest' turn'
unfolding walking
walking_grows true gone rest rest' turn turn' h h' = omega (arith, h, h')
walking_grows false gone rest rest' turn turn' h h' = omega (arith, h')

pub walking_on : (b : Bool) (gone rest turn : ℕ) → gone < stride → walking b (gone + 1) rest turn < walking true gone rest turn
unfolding walking
walking_on true gone rest turn h = omega (arith, h)
walking_on false gone rest turn h = omega arith

pub walking_far : (gone rest turn : ℕ) → gone < stride → 3 + turn + rest < walking true gone rest turn
unfolding walking
walking_far gone rest turn h = omega (arith, h)

pub walking_here : (gone rest turn : ℕ) → walking false gone rest turn ≡ 1 + turn
unfolding walking
walking_here gone rest turn = refl

pub walking_begins : (b : Bool) (rest turn : ℕ) → rest ≡ 0 → walking b 0 rest turn < 2 + turn + lost (not b) 6
unfolding walking lost
walking_begins true rest turn h = omega (arith, h)
walking_begins false rest turn h = omega arith

-- where the front was found, and no other pass is in the way
abbrev pub front_turn : ℕ → Front → ℕ
front_turn g ToTake = 3
front_turn g ToShut = 1
front_turn g ToLook = 0
front_turn g ToCountFrom = 3 + g

front_turn_small : (g : ℕ) (s : Front) → front_turn g s ≤ 3 + g
front_turn_small g ToTake = omega arith
front_turn_small g ToShut = omega arith
front_turn_small g ToLook = omega arith
front_turn_small g ToCountFrom = omega arith

front_turn_grows : (g g' : ℕ) (s : Front) → g ≤ g' → front_turn g s ≤ front_turn g' s
front_turn_grows g g' ToTake h = omega arith
front_turn_grows g g' ToShut h = omega arith
front_turn_grows g g' ToLook h = omega arith
front_turn_grows g g' ToCountFrom h = omega (arith, h)

abbrev pub front_harm : Front → ℕ
front_harm ToTake = 23
front_harm ToShut = 14
front_harm ToLook = 0
front_harm ToCountFrom = 0

front_harm_small : (s : Front) → front_harm s ≤ 24
front_harm_small ToTake = omega arith
front_harm_small ToShut = omega arith
front_harm_small ToLook = omega arith
front_harm_small ToCountFrom = omega arith

module _ {T : Type 0} where
  -- what a hint that lags costs who begins at it
  abbrev pub lag : Memory T → ℕ
  lag m = lost (not (was_filled m.slot m.tail)) 6

  abbrev pub late : Memory T → ℕ
  late m = lost (not (was_emptied m.slot m.head)) 6

  -- how many steps are left where the back, or the front, was found, and no other pass is in the way
  abbrev pub turn : (ℕ → Tagged) → ℕ → ℕ → Back T → ℕ
  turn slot g e (ToPut v) = 2
  turn slot g e ToClose = 1
  turn slot g e (ToCount front) = 1 + lost (not (was_emptied slot front)) (5 + g + e)
  turn slot g e ToGauge = 0

  abbrev pub weight_of : (head tail : Tagged) (slot : ℕ → Tagged) (g e : ℕ) → Line T → ℕ
  weight_of head tail slot g e (Idle c a) = 0
  weight_of head tail slot g e (FetchTail c v) = 4 + g
  weight_of head tail slot g e (LoadTail c s) = 2 + turn slot g e s + g
  weight_of head tail slot g e (LoadBack w s) = walking (was_filled slot w.at) w.gone (lost (same tail w.from) g) (turn slot g e s)
  weight_of head tail slot g e (MoveTail w s) = 3 + turn slot g e s + lost (same tail w.from) g
  weight_of head tail slot g e (PutCell w v y) = 2 + lost (same (slot w.at.index) y) 14
  weight_of head tail slot g e (PassTail w) = 1
  weight_of head tail slot g e (MarkBack w y) = 1 + lost (same (slot w.at.index) y) 14
  weight_of head tail slot g e (LoadHead c s) = 2 + front_turn g s + e
  weight_of head tail slot g e (LoadFront w s) = walking (was_emptied slot w.at) w.gone (lost (same head w.from) e) (front_turn g s)
  weight_of head tail slot g e (MoveHead w s) = 3 + front_turn g s + lost (same head w.from) e
  weight_of head tail slot g e (TakeCell w y) = 3 + lost (same (slot w.at.index) y) 14
  weight_of head tail slot g e (PassHead w v) = 2
  weight_of head tail slot g e (Stow w a) = 1
  weight_of head tail slot g e (ShutFront w y) = 1 + lost (same (slot w.at.index) y) 14
  weight_of head tail slot g e (CheckFront c front back) = turn slot g e (ToCount front)

  abbrev pub weight : Memory T → Line T → ℕ
  weight m l = weight_of m.head m.tail m.slot (lag m) (late m) l

  -- what an exchange costs another line where it is won. One that moves a hint as far as it may go costs nobody
  abbrev pub price : Line T → ℕ
  price (PutCell w v y) = 18
  price (PassTail w) = 6
  price (MarkBack w y) = 14
  price (TakeCell w y) = 17
  price (PassHead w v) = 6
  price (ShutFront w y) = 14
  price l = 0

  -- and what the call may still cost another line
  abbrev pub back_harm : Back T → ℕ
  back_harm (ToPut v) = 24
  back_harm ToClose = 14
  back_harm (ToCount front) = 0
  back_harm ToGauge = 0

  abbrev pub harm : Line T → ℕ
  harm (Idle c a) = 0
  harm (FetchTail c v) = 24
  harm (LoadTail c s) = back_harm s
  harm (LoadBack w s) = back_harm s
  harm (MoveTail w s) = back_harm s
  harm (PutCell w v y) = 24
  harm (PassTail w) = 6
  harm (MarkBack w y) = 14
  harm (LoadHead c s) = front_harm s
  harm (LoadFront w s) = front_harm s
  harm (MoveHead w s) = front_harm s
  harm (TakeCell w y) = 23
  harm (PassHead w v) = 6
  harm (Stow w a) = 0
  harm (ShutFront w y) = 14
  harm (CheckFront c front back) = 0

module _ {T : Type 0} where
  turn_small : (slot : ℕ → Tagged) (g e : ℕ) (s : Back T) → turn slot g e s ≤ 6 + g + e
  turn_small slot g e (ToPut v) = omega arith
  turn_small slot g e ToClose = omega arith
  turn_small slot g e (ToCount front) = omega (arith, lost_small (not (was_emptied slot front)) (5 + g + e))
  turn_small slot g e ToGauge = omega arith

  back_harm_small : (s : Back T) → back_harm s ≤ 24
  back_harm_small (ToPut v) = omega arith
  back_harm_small ToClose = omega arith
  back_harm_small (ToCount front) = omega arith
  back_harm_small ToGauge = omega arith

  pub lag_small : (m : Memory T) → lag m ≤ 6
  lag_small m = lost_small (not (was_filled m.slot m.tail)) 6

  pub late_small : (m : Memory T) → late m ≤ 6
  late_small m = lost_small (not (was_emptied m.slot m.head)) 6

  -- where hints lag less, no step of a call to the back, or to the front, is left more
  pub turn_grows : (slot : ℕ → Tagged) (g e g' e' : ℕ) (s : Back T) → g ≤ g' → e ≤ e' → turn slot g e s ≤ turn slot g' e' s
  turn_grows slot g e g' e' (ToPut v) h h' = omega arith
  turn_grows slot g e g' e' ToClose h h' = omega arith
  turn_grows slot g e g' e' (ToCount front) h h' = omega (arith, lost_grows (not (was_emptied slot front)) (5 + g + e) (5 + g' + e') (omega (arith, h, h')))
  turn_grows slot g e g' e' ToGauge h h' = omega arith

  -- the tail has come to the back: no line weighs more
  pub tail_raise : (head tail tail' : Tagged) (slot : ℕ → Tagged) (g e : ℕ) (l : Line T) → weight_of head tail' slot 0 e l ≤ weight_of head tail slot g e l
  tail_raise head tail tail' slot g e (Idle c a) = omega arith
  tail_raise head tail tail' slot g e (FetchTail c v) = omega arith
  tail_raise head tail tail' slot g e (LoadTail c s) = omega (arith, turn_grows slot 0 e g e s (omega arith) (omega arith))
  tail_raise head tail tail' slot g e (LoadBack w s) = walking_grows (was_filled slot w.at) w.gone (lost (same tail' w.from) 0) (lost (same tail w.from) g) (turn slot 0 e s) (turn slot g e s) (omega (arith, lost_small (same tail' w.from) 0)) (turn_grows slot 0 e g e s (omega arith) (omega arith))
  tail_raise head tail tail' slot g e (MoveTail w s) = omega (arith, lost_small (same tail' w.from) 0, turn_grows slot 0 e g e s (omega arith) (omega arith))
  tail_raise head tail tail' slot g e (PutCell w v y) = omega arith
  tail_raise head tail tail' slot g e (PassTail w) = omega arith
  tail_raise head tail tail' slot g e (MarkBack w y) = omega arith
  tail_raise head tail tail' slot g e (LoadHead c s) = omega (arith, front_turn_grows 0 g s (omega arith))
  tail_raise head tail tail' slot g e (LoadFront w s) = walking_grows (was_emptied slot w.at) w.gone (lost (same head w.from) e) (lost (same head w.from) e) (front_turn 0 s) (front_turn g s) (omega arith) (front_turn_grows 0 g s (omega arith))
  tail_raise head tail tail' slot g e (MoveHead w s) = omega (arith, front_turn_grows 0 g s (omega arith))
  tail_raise head tail tail' slot g e (TakeCell w y) = omega arith
  tail_raise head tail tail' slot g e (PassHead w v) = omega arith
  tail_raise head tail tail' slot g e (Stow w a) = omega arith
  tail_raise head tail tail' slot g e (ShutFront w y) = omega arith
  tail_raise head tail tail' slot g e (CheckFront c front back) = turn_grows slot 0 e g e (ToCount front) (omega arith) (omega arith)

  -- and the head to the front
  pub head_raise : (head head' tail : Tagged) (slot : ℕ → Tagged) (g e : ℕ) (l : Line T) → weight_of head' tail slot g 0 l ≤ weight_of head tail slot g e l
  head_raise head head' tail slot g e (Idle c a) = omega arith
  head_raise head head' tail slot g e (FetchTail c v) = omega arith
  head_raise head head' tail slot g e (LoadTail c s) = omega (arith, turn_grows slot g 0 g e s (omega arith) (omega arith))
  head_raise head head' tail slot g e (LoadBack w s) = walking_grows (was_filled slot w.at) w.gone (lost (same tail w.from) g) (lost (same tail w.from) g) (turn slot g 0 s) (turn slot g e s) (omega arith) (turn_grows slot g 0 g e s (omega arith) (omega arith))
  head_raise head head' tail slot g e (MoveTail w s) = omega (arith, turn_grows slot g 0 g e s (omega arith) (omega arith))
  head_raise head head' tail slot g e (PutCell w v y) = omega arith
  head_raise head head' tail slot g e (PassTail w) = omega arith
  head_raise head head' tail slot g e (MarkBack w y) = omega arith
  head_raise head head' tail slot g e (LoadHead c s) = omega arith
  head_raise head head' tail slot g e (LoadFront w s) = walking_grows (was_emptied slot w.at) w.gone (lost (same head' w.from) 0) (lost (same head w.from) e) (front_turn g s) (front_turn g s) (omega (arith, lost_small (same head' w.from) 0)) (omega arith)
  head_raise head head' tail slot g e (MoveHead w s) = omega (arith, lost_small (same head' w.from) 0)
  head_raise head head' tail slot g e (TakeCell w y) = omega arith
  head_raise head head' tail slot g e (PassHead w v) = omega arith
  head_raise head head' tail slot g e (Stow w a) = omega arith
  head_raise head head' tail slot g e (ShutFront w y) = omega arith
  head_raise head head' tail slot g e (CheckFront c front back) = turn_grows slot g 0 g e (ToCount front) (omega arith) (omega arith)

  pub weight_small : (m : Memory T) (l : Line T) → weight m l ≤ 31
  weight_small m (Idle c a) = omega arith
  weight_small m (FetchTail c v) = omega (arith, lag_small m)
  weight_small m (LoadTail c s) = omega (arith, lag_small m, late_small m, turn_small m.slot (lag m) (late m) s)
  weight_small m (LoadBack w s) =
      let r = lost (same m.tail w.from) (lag m) in
      omega (arith, lag_small m, late_small m, turn_small m.slot (lag m) (late m) s, walking_small (was_filled m.slot w.at) w.gone r (turn m.slot (lag m) (late m) s), lost_small (same m.tail w.from) (lag m))
  weight_small m (MoveTail w s) = omega (arith, lag_small m, late_small m, turn_small m.slot (lag m) (late m) s, lost_small (same m.tail w.from) (lag m))
  weight_small m (PutCell w v y) = omega (arith, lost_small (same (m.slot w.at.index) y) 14)
  weight_small m (PassTail w) = omega arith
  weight_small m (MarkBack w y) = omega (arith, lost_small (same (m.slot w.at.index) y) 14)
  weight_small m (LoadHead c s) = omega (arith, lag_small m, late_small m, front_turn_small (lag m) s)
  weight_small m (LoadFront w s) =
      let r = lost (same m.head w.from) (late m) in
      omega (arith, lag_small m, late_small m, front_turn_small (lag m) s, walking_small (was_emptied m.slot w.at) w.gone r (front_turn (lag m) s), lost_small (same m.head w.from) (late m))
  weight_small m (MoveHead w s) = omega (arith, lag_small m, late_small m, front_turn_small (lag m) s, lost_small (same m.head w.from) (late m))
  weight_small m (TakeCell w y) = omega (arith, lost_small (same (m.slot w.at.index) y) 14)
  weight_small m (PassHead w v) = omega arith
  weight_small m (Stow w a) = omega arith
  weight_small m (ShutFront w y) = omega (arith, lost_small (same (m.slot w.at.index) y) 14)
  weight_small m (CheckFront c front back) = omega (arith, lag_small m, late_small m, turn_small m.slot (lag m) (late m) (ToCount front))

  pub harm_small : (l : Line T) → harm l ≤ 24
  harm_small (Idle c a) = omega arith
  harm_small (FetchTail c v) = omega arith
  harm_small (LoadTail c s) = back_harm_small s
  harm_small (LoadBack w s) = back_harm_small s
  harm_small (MoveTail w s) = back_harm_small s
  harm_small (PutCell w v y) = omega arith
  harm_small (PassTail w) = omega arith
  harm_small (MarkBack w y) = omega arith
  harm_small (LoadHead c s) = front_harm_small s
  harm_small (LoadFront w s) = front_harm_small s
  harm_small (MoveHead w s) = front_harm_small s
  harm_small (TakeCell w y) = omega arith
  harm_small (PassHead w v) = omega arith
  harm_small (Stow w a) = omega arith
  harm_small (ShutFront w y) = omega arith
  harm_small (CheckFront c front back) = omega arith

  pub price_small : (l : Line T) → price l ≤ 18
  price_small (Idle c a) = omega arith
  price_small l = omega arith
