-- All that a step of a ring adds to the history is moves of hands, but for the one effect of its call.
use Rattle.std.proofs.Common.{◌≡◌, ℕ, ◌*◌, inl, inr, List, [], ◌∷◌, refl, sym, ap, ◌∙◌, subst, Option as Slot, Some, None}
use mathlib.Core.Option.{Option, none, some}
use Rattle.bounded_model.specs.declared.history.Event.{Event}
use Rattle.bounded_model.specs.declared.history.Event.TheVariants.{Hold, Put, Take, Close, Shut}
use Rattle.bounded_model.specs.declared.views.PassView.{PassView}
use Rattle.bounded_model.specs.Alone.{without_hands}
use Rattle.bounded_model.specs.Histories.{own}
use Rattle.bounded_model.proofs.Histories.{own-between, own-mine}
use Rattle.machine.specs.Words.{Tagged}
use Rattle.machine.specs.Seats.{Saw}
use Rattle.machine.proofs.Ahead.{Ahead}
use Rattle.machine.proofs.Program.{Cases, by_cases}
use Rattle.ring_machine.specs.declared.lines.Walk.{Walk}
use Rattle.ring_machine.specs.declared.lines.Call.{Call}
use Rattle.ring_machine.specs.declared.lines.Call.TheVariants.{Put as CallPut, Take as CallTake, Close as CallClose, Shut as CallShut}
use Rattle.ring_machine.specs.declared.lines.Line.{Line}
use Rattle.ring_machine.specs.declared.lines.Line.TheVariants.{MoveTail, PutCell, PassTail, MarkBack, MoveHead, TakeCell, PassHead, ShutFront}
use Rattle.ring_machine.specs.Machine.{Memory, memories, Outcome, place, table, cell_of, resting, step, wins_put, wins_value}
use Rattle.ring_machine.specs.Answers.{shape}
use Rattle.ring_machine.specs.Deeds.{Deeds}
use Rattle.ring_machine.proofs.Doing.{meanwhile}
use Rattle.running.proofs.Changed.{unchanged}
use Rattle.running.specs.Ties.{Adds, changed_by}
use Rattle.ring_table.specs.Effects.{effect_of}

-- A step of pass p, in a call that was begun after the history `begun`. The step finds this memory and the history h
module _ {T : Type 0} (n laps : ℕ) (m : Memory T) (p : ℕ) (call : Call T) (begun h : List (Event T)) where
  abbrev Is : Outcome T → Type 0
  Is o = Adds (effect_of call p) p begun h o.events

  abbrev At : Line T → Type 0
  At l = Deeds n p call l begun h

  -- a pass that takes a cell changes nothing
  unchanged_by_hold : changed_by p (Hold p ∷ h) ≡ changed_by p h
  unchanged_by_hold = ap without_hands (own-mine p (Hold p) h refl)

  -- one event is an effect of the call, whichever of its names the call goes by
  of : (call' : Call T) (e : Event T) → call ≡ call' → effect_of call' p e → effect_of call p e
  of call' e is effect = subst (λ (c : Call T). effect_of c p e) (sym is) effect

  -- a put takes a cell and puts its value in one step
  puts : (w : Walk) (v : T) (y : Tagged) → At (PutCell w v y) → Is (wins_put n m p w v y)
  puts w v y d =
      let put_now : Event T = Put p (v ∷ []) (place n w.at) in
      ((tt, inl refl), inr (of (CallPut v) put_now d.made.0 (place n w.at, refl), unchanged_by_hold ∙ unchanged p begun [] d.between d.is d.made.1 refl))

  -- a take takes a value and gives its cell back in one step. It adds nothing if the cell of the slot has no value
  takes : (w : Walk) (y : Tagged) → At (TakeCell w y) → (o : Option (Slot T)) → Is (wins_value n m p w y o)
  takes w y d none = tt
  takes w y d (some None) = tt
  takes w y d (some (Some v)) =
      let take_now : Event T = Take p v (place n w.at) in
      ((tt, inr (of CallTake take_now d.made.0 (v, place n w.at, refl), unchanged p begun [] d.between d.is d.made.1 refl)), inl refl)

  adds : (l : Line T) → At l → Cases memories (resting (cell_of l)) m p Is l (table n (2 * laps) l)
  adds (MoveTail w s) d = (λ won. tt, tt)
  adds (PutCell w v y) d = (λ won. puts w v y d, tt)
  adds (PassTail w) d = (λ won. tt, tt)
  adds (MarkBack w y) d = (λ won. (tt, inr (of CallClose (Close p) d.made.0 refl, unchanged p begun [] d.between d.is d.made.1 refl)), tt)
  adds (MoveHead w s) d = (λ won. tt, tt)
  adds (TakeCell w y) d = (λ won. takes w y d (m.home y.index), tt)
  adds (PassHead w v) d = (λ won. tt, tt)
  adds (ShutFront w y) d = (λ won. (tt, inr (of CallShut (Shut p) d.made.0 refl, unchanged p begun [] d.between d.is d.made.1 refl)), tt)
  adds l d = tt

-- others alone may have added to the history that the pass has seen, so the pass has still done what it had done by then
pub ring_effects : {T : Type 0} (n laps : ℕ) (m : Memory T) (p : PassView T) (call : Call T) (begun h : List (Event T)) (l : Line T) → Deeds n p.number call l begun p.seen → Saw h p
    → Adds (effect_of call p.number) p.number begun h (step (shape n laps) m p.number l).events
ring_effects {T} n laps m p call begun h l d saw =
    let none_own : own p.number saw.seen.more ≡ [] = own-between p.number saw.seen.more p.seen (sym (ap (own p.number) saw.seen.is) ∙ saw.own_events) in
    let ahead : Ahead p.number p.seen h = record { rest = saw.seen.more; is = saw.seen.is; none_own = none_own } in
    by_cases memories (resting (cell_of l)) m p.number (λ (o : Outcome T). Adds (effect_of call p.number) p.number begun h o.events) l (table n (2 * laps) l)
    (adds n laps m p.number call begun h l (meanwhile n p.number call begun p.seen h l ahead d))
