-- Each step of a pass of the ring keeps what its line tells of the history.
use Rattle.std.proofs.Common.{◌≡◌, ◌≢◌, ℕ, ◌+◌, ◌-◌, ◌*◌, ◌≤◌, Bool, true, false, cond, eqb, leb, ltb, List, [], ◌∷◌, ◌++◌, length, refl, sym, ◌∙◌, eqb-true, Option as Slot, Some, None, Ok, Err, arith}
use Rattle.std.proofs.lemmas.Bool.Decides.{nat_tests}
use mathlib.Core.Option.{Option, none, some}
use lib.ListN.{get_elem?}
use Rattle.bounded_model.specs.declared.answers.Word.TheVariants.{Next as NextWord}
use Rattle.bounded_model.specs.declared.answers.PutRefused.TheVariants.{Full as PutFull, Closed as PutClosed, Spent as PutSpent}
use Rattle.bounded_model.specs.declared.answers.TakeRefused.TheVariants.{Empty as TakeEmpty, Closed as TakeClosed, Shut as TakeShut}
use Rattle.bounded_model.specs.declared.history.Event.{Event}
use Rattle.bounded_model.specs.declared.history.Event.TheVariants.{Hold, Put, Take, Free, Close, Shut}
use Rattle.bounded_model.specs.Histories.{Later, own, pass_of}
use Rattle.bounded_model.specs.Justified.{Sometime, Justifies, Looked}
use Rattle.bounded_model.proofs.Histories.{Later-refl, Later-trans, own-other}
use Rattle.bounded_model.proofs.Adding.{Sometime-now, Sometime-wider}
use Rattle.machine.specs.Words.{Tagged}
use Rattle.machine.proofs.Tests.{cases}
use Rattle.machine.proofs.Program.{Cases, by_cases, Apart, adds_own}
use Rattle.ring_machine.specs.declared.lines.Walk.{Walk}
use Rattle.ring_machine.specs.declared.lines.Back.{Back}
use Rattle.ring_machine.specs.declared.lines.Back.TheVariants.{ToPut, ToClose, ToCount, ToGauge}
use Rattle.ring_machine.specs.declared.lines.Front.{Front}
use Rattle.ring_machine.specs.declared.lines.Front.TheVariants.{ToTake, ToShut, ToLook, ToCount as ToCountFrom}
use Rattle.ring_machine.specs.declared.lines.Answer.{Answer}
use Rattle.ring_machine.specs.declared.lines.Answer.TheVariants.{Put as AnswerPut, Take as AnswerTake, Close as AnswerClose, Shut as AnswerShut, Len as AnswerLen}
use Rattle.ring_machine.specs.declared.lines.Line.{Line}
use Rattle.ring_machine.specs.declared.lines.Line.TheVariants.{Idle, FetchTail, LoadTail, LoadBack, MoveTail, PutCell, PassTail, MarkBack, LoadHead, LoadFront, MoveHead, TakeCell, PassHead, Stow, ShutFront, CheckFront}
use Rattle.ring_machine.specs.Machine.{Memory, memories, Outcome, place, empty_at, full_at, stride, further, with_cell, ends, beyond_back, at_back, beyond_front, at_front, put_done, take_done, has_put, table, cell_of, resting, step, wins_value}
use Rattle.ring_machine.specs.Answers.{shape, state, IsRight}
use Rattle.ring_machine.specs.Rule.{IsBefore, IsFine, Tells, progress, Good}
use Rattle.ring_machine.proofs.Answers.{takes_grow, puts_here, closed_now, gauged_now, open_now, full_now, all_values_now, spent_now, all_puts_now, takes_here, shut_now, unshut_now, empty_tag, empty_now, closed_at_front, open_at_front, some_now}

module _ {T : Type 0} where
  -- an answer that was right stays so when its pass has seen more
  pub right_wider : (n laps : ℕ) (begun seen newer : List (Event T)) (a : Answer T) → Later seen newer → IsRight n laps begun seen a → IsRight n laps begun newer a
  right_wider n laps begun seen newer (AnswerPut (Err (PutFull v))) l r = Sometime-wider (Later-refl begun) l r
  right_wider n laps begun seen newer (AnswerPut (Ok done)) l r = tt
  right_wider n laps begun seen newer (AnswerTake (Ok done)) l r = tt
  right_wider n laps begun seen newer (AnswerClose true) l r = tt
  right_wider n laps begun seen newer (AnswerShut true) l r = tt
  right_wider n laps begun seen newer a l r = Sometime-wider (Later-refl begun) l r

  module _ {n laps cells : ℕ} {m : Memory T} {lines : List (Line T)} {history : List (Event T)} (x : Good T n laps cells m lines history) (q p : ℕ)
      (begun seen : List (Event T)) (before : Later begun seen) (now : Later seen history) where
    since : Later begun history
    since = Later-trans before now

    -- what is so now justifies an answer
    now_right : {P : List (Event T) → Type 0} → P history → Sometime begun history P
    now_right h = Sometime-now since h

    abbrev Says : Line T → Type 0
    Says l = Tells n laps begun history l

    abbrev Fine : Line T → Type 0
    Fine l = IsFine n laps (progress T n laps m history) l

    back_tells : (w : Walk) (s : Back T) → Fine (LoadBack w s) → (m.slot w.at.index).tag ≤ empty_at w.at.tag → Says (at_back n (2 * laps) w s (m.slot w.at.index))
    back_tells w (ToPut v) f le =
        let y = m.slot w.at.index in
        let closed : Line T = Stow w (AnswerPut (Err (PutClosed v))) in
        let spent : Line T = Stow w (AnswerPut (Err (PutSpent v (NextWord w.at.index) y.tag))) in
        let full : Line T = Stow w (AnswerPut (Err (PutFull v))) in
        cases Says y.mark closed (cond (eqb y.tag (empty_at w.at.tag)) (cond (leb (2 * laps) (y.tag + 1)) spent (PutCell w v y)) full)
        (λ b. now_right (closed_now x w.at f.0.at le b))
        (λ b. cases Says (eqb y.tag (empty_at w.at.tag)) (cond (leb (2 * laps) (y.tag + 1)) spent (PutCell w v y)) full
        (λ b'. cases Says (leb (2 * laps) (y.tag + 1)) spent (PutCell w v y)
        (λ b''.
        let is = eqb-true y.tag (empty_at w.at.tag) b' in
        let last : 2 * laps ≤ y.tag + 1 = grind (arith, nat_tests) in
        now_right (spent_now x w.at f.0.at le is last, all_puts_now x w.at f.0.at le is last))
        (λ b''. tt))
        (λ b'.
        let full : y.tag ≢ empty_at w.at.tag = λ z. grind (arith, nat_tests) in
        now_right ((full_now x w.at f.0.at le full, open_now x w.at f.0.at le b), all_values_now x w.at f.0.at le full)))
    back_tells w ToClose f le =
        let y = m.slot w.at.index in
        cases Says y.mark (ends w.cell (AnswerClose false)) (MarkBack w y) (λ b. now_right (closed_now x w.at f.0.at le b)) (λ b. tt)
    back_tells w (ToCount front) f le = record { puts = puts_here x w.at f.0.at le; takes = f.1.before; balance = x.told.balance }
    back_tells w ToGauge f le = now_right (gauged_now x w.at f.0.at le (m.slot w.at.index).mark refl)

    front_tells : (w : Walk) (s : Front) → Fine (LoadFront w s) → (m.slot w.at.index).tag ≤ full_at w.at.tag → Says (at_front w s (m.slot w.at.index))
    front_tells w ToTake f le =
        let y = m.slot w.at.index in
        let shut : Line T = ends w.cell (AnswerTake (Err TakeShut)) in
        let closed : Line T = ends w.cell (AnswerTake (Err TakeClosed)) in
        let empty : Line T = ends w.cell (AnswerTake (Err TakeEmpty)) in
        cases Says y.second shut (cond (eqb y.tag (full_at w.at.tag)) (TakeCell w y) (cond y.mark closed empty))
        (λ b. now_right (shut_now x w.at f.at le b))
        (λ b. cases Says (eqb y.tag (full_at w.at.tag)) (TakeCell w y) (cond y.mark closed empty)
        (λ b'. tt)
        (λ b'. let low = empty_tag x w.at f.at le (λ z. grind (arith, nat_tests)) in
        cases Says y.mark closed empty
        (λ b''. now_right (empty_now x w.at f.at le low, closed_at_front x w.at f.at le b'', unshut_now x w.at f.at le b))
        (λ b''. now_right (empty_now x w.at f.at le low, open_at_front x w.at f.at le low b'', unshut_now x w.at f.at le b))))
    front_tells w ToShut f le =
        let y = m.slot w.at.index in
        cases Says y.second (ends w.cell (AnswerShut false)) (ShutFront w y) (λ b. now_right (shut_now x w.at f.at le b)) (λ b. tt)
    front_tells w ToLook f le = look (eqb (m.slot w.at.index).tag (empty_at w.at.tag)) refl
      where
        look : (b : Bool) → eqb (m.slot w.at.index).tag (empty_at w.at.tag) ≡ b → Sometime begun history (λ k. Justifies (shape n laps) k (Looked b))
        look true e = now_right (empty_now x w.at f.at le (let is = eqb-true (m.slot w.at.index).tag (empty_at w.at.tag) e in omega (arith, is)))
        look false e = now_right (some_now x w.at f.at le (λ z. grind (arith, nat_tests)))
    front_tells w ToCountFrom f le = tt

    put_tells : (w : Walk) (v : T) (y : Tagged) → Tells n laps begun (Put p (v ∷ []) (place n w.at) ∷ Hold p ∷ history) (has_put n (with_cell w y.index))
    put_tells w v y = let w' = with_cell w y.index in
        cases (Tells n laps begun (Put p (v ∷ []) (place n w.at) ∷ Hold p ∷ history)) (eqb (w.gone + 1) stride) (PassTail w') (ends y.index (put_done n w')) (λ b. tt) (λ b. tt)

    value_tells : (w : Walk) (y : Tagged) (o : Option (Slot T)) → let out = wins_value n m p w y o in Tells n laps begun (out.events ++ history) out.line
    value_tells w y none = tt
    value_tells w y (some None) = tt
    value_tells w y (some (Some v)) = let w' = with_cell w y.index in
        cases (Tells n laps begun (Free p 1 ∷ Take p v (place n w.at) ∷ history)) (eqb (w.gone + 1) stride) (PassHead w' v) (Stow w' (take_done n w' v)) (λ b. tt) (λ b. tt)

    -- what an outcome tells of the history with its events
    abbrev Told : Outcome T → Type 0
    Told o = Tells n laps begun (o.events ++ history) o.line

    told : (l : Line T) → get_elem? lines q ≡ some l → Tells n laps begun seen l → Cases memories (resting (cell_of l)) m p Told l (table n (2 * laps) l)
    told (Idle c (Some a)) e t = right_wider n laps begun seen history a now t
    told (Idle c None) e t = tt
    told (FetchTail c v) e t = tt
    told (LoadTail c s) e t = tt
    told (Stow w a) e t = right_wider n laps begun seen history a now t
    told (LoadBack w s) e t =
        let y = m.slot w.at.index in
        cases Says (ltb (empty_at w.at.tag) y.tag) (beyond_back n w s) (at_back n (2 * laps) w s y)
        (λ b. cases Says (eqb (w.gone + 1) stride) (MoveTail (further n w) s) (LoadBack (further n w) s) (λ b'. tt) (λ b'. tt))
        (λ b. back_tells w s (x.fine q (LoadBack w s) e) (grind (arith, nat_tests)))
    told (MoveTail w s) e t = (λ won. tt, tt)
    told (PutCell w v y) e t = (λ won. put_tells w v y, tt)
    told (PassTail w) e t = (λ won. tt, tt)
    told (MarkBack w y) e t = (λ won. tt, tt)
    told (LoadHead c s) e t = tt
    told (LoadFront w s) e t =
        let y = m.slot w.at.index in
        cases Says (ltb (full_at w.at.tag) y.tag) (beyond_front n w s) (at_front w s y)
        (λ b. cases Says (eqb (w.gone + 1) stride) (MoveHead (further n w) s) (LoadFront (further n w) s) (λ b'. tt) (λ b'. tt))
        (λ b. front_tells w s (x.fine q (LoadFront w s) e) (grind (arith, nat_tests)))
    told (MoveHead w s) e t = (λ won. tt, tt)
    told (TakeCell w y) e t = (λ won. value_tells w y (m.home y.index), tt)
    told (PassHead w v) e t = (λ won. tt, tt)
    told (ShutFront w y) e t = (λ won. tt, tt)
    told (CheckFront c front back) e t =
        let y = m.slot front.index in
        let f : Fine (CheckFront c front back) = x.fine q (CheckFront c front back) e in
        cases Says (ltb (full_at front.tag) y.tag) (LoadHead c ToCountFrom) (ends c (AnswerLen (place n back - place n front)))
        (λ b. tt)
        (λ b. record { at = seen; since = before; until = now; holds = counted f (grind (arith, nat_tests)) })
      where
        counted : IsBefore n (state n laps history).takes front → (m.slot front.index).tag ≤ full_at front.tag → length (state n laps seen).values ≡ place n back - place n front
        counted f le = omega (arith, takes_here x front f le, t.puts, t.takes, t.balance, takes_grow (shape n laps) now)

    pub tells_kept : (l : Line T) → get_elem? lines q ≡ some l → Tells n laps begun seen l → let o = step (shape n laps) m p l in Tells n laps begun (o.events ++ history) o.line
    tells_kept l e t = by_cases memories (resting (cell_of l)) m p Told l (table n (2 * laps) l) (told l e t)

-- each event of a step is of the pass that makes it
module _ {T : Type 0} (n laps : ℕ) (m : Memory T) (p q : ℕ) (other : q ≢ p) (history : List (Event T)) where
  another : (e : Event T) (h : List (Event T)) → pass_of e ≡ p → own q (e ∷ h) ≡ own q h
  another e h mine = own-other q e h (λ z. other (sym z ∙ mine))

  took_apart : (w : Walk) (y : Tagged) (o : Option (Slot T)) → own q ((wins_value n m p w y o).events ++ history) ≡ own q history
  took_apart w y none = refl
  took_apart w y (some None) = refl
  took_apart w y (some (Some v)) = another (Free p 1) (Take p v (place n w.at) ∷ history) refl ∙ another (Take p v (place n w.at)) history refl

  apart : (l : Line T) → Apart memories (resting (cell_of l)) m p q history (table n (2 * laps) l)
  apart (PutCell w v y) = another (Put p (v ∷ []) (place n w.at)) (Hold p ∷ history) refl ∙ another (Hold p) history refl
  apart (MarkBack w y) = another (Close p) history refl
  apart (TakeCell w y) = took_apart w y (m.home y.index)
  apart (ShutFront w y) = another (Shut p) history refl
  apart l = tt

  pub step_apart : (l : Line T) → own q ((step (shape n laps) m p l).events ++ history) ≡ own q history
  step_apart l = adds_own memories (resting (cell_of l)) m p q history l (table n (2 * laps) l) (apart l)
