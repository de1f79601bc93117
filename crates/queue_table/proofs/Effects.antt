-- All that a step of a queue adds to the history is moves of hands, but for the one effect of its operation.
use Rattle.std.proofs.Common.{◌≡◌, ℕ, inl, inr, false, List, [], ◌∷◌, refl, sym, ap, ◌∙◌, subst, Option as Slot, Some, None}
use mathlib.Core.Option.{Option, none, some}
use Rattle.bounded_model.specs.declared.history.Event.{Event}
use Rattle.bounded_model.specs.declared.history.Event.TheVariants.{Hold, Put, Take, Free, Close, Shut}
use Rattle.bounded_model.specs.Alone.{changes}
use Rattle.bounded_model.specs.Histories.{own}
use Rattle.bounded_model.proofs.Histories.{own-between}
use Rattle.machine.specs.Words.{Tagged}
use Rattle.machine.proofs.Ahead.{Ahead}
use Rattle.machine.proofs.Program.{Cases, by_cases}
use Rattle.queue_machine.specs.declared.lines.Call.{Call}
use Rattle.queue_machine.specs.declared.lines.Line.{Line}
use Rattle.queue_machine.specs.declared.lines.Line.TheVariants.{Idle, TakeCell, TakeNode, CheckTail, SwingTail, LinkNext, SwingToLinked, MarkNext, CheckHead, SwingTailToTake, TakeHead, GiveNode, GiveCell, CheckHeadToLook, CheckHeadToCount, CheckNextToGauge, ShutHead}
use Rattle.queue_machine.specs.Machine.{Memory, memories, Outcome, table, wins_value}
use Rattle.queue_machine.specs.Deeds.{Deeds}
use Rattle.queue_machine.proofs.Doing.{meanwhile}
use Rattle.queue_table.specs.Core.{core}
use Rattle.queue_table.specs.Lines.{call_of}
use Rattle.running.specs.Machine.{Sight}
use Rattle.running.proofs.Changed.{unchanged}
use Rattle.running.specs.Ties.{Adds, changed_by}
use Rattle.queue_table.specs.Effects.{effect, effect_of}
use Rattle.queue_table.specs.declared.operation.Operation.{Operation}

module _ {T : Type 0} (limit : ℕ) (m : Memory T) (p : ℕ) (call : Call T) (begun h : List (Event T)) where
  abbrev Is : Outcome T → Type 0
  Is o = Adds (effect_of call p) p begun h o.events

  abbrev At : Line T → Type 0
  At l = Deeds p call l begun h

  hand : (e : Event T) → changes e ≡ false → Adds (effect_of call p) p begun h (e ∷ [])
  hand e moves = (tt, inl moves)

  does : (e : Event T) → effect_of call p e → changed_by p h ≡ changed_by p begun → Adds (effect_of call p) p begun h (e ∷ [])
  does e is same = (tt, inr (is, same))

  took : (u y : Tagged) (k : ℕ) → At (TakeHead u y k) → (o : Option (Slot T)) → Is (wins_value m p u y k o)
  took u y k d none = tt
  took u y k d (some None) = tt
  took u y k d (some (Some v)) = does (Take p v u.tag) (subst (λ (c : Call T). effect_of c p (Take p v u.tag)) (sym d.made.0) (v, u.tag, refl)) (unchanged p begun [] d.between d.is d.made.1 refl)

  adds : (l : Line T) → At l → Cases memories (Idle None) m p Is l (table limit l)
  adds (TakeCell v w k) d = (λ won. hand (Hold p) refl, tt)
  adds (TakeNode put w k) d = (λ won. tt, tt)
  adds (CheckTail s w y) d = (λ won. tt, tt)
  adds (SwingTail s w y) d = (λ won. tt, tt)
  adds (LinkNext link w y) d =
      let put_now : Event T = Put p (link.value ∷ []) w.tag in
      (λ won. does put_now (subst (λ (c : Call T). effect_of c p put_now) (sym d.made.0) (w.tag, refl)) (unchanged p begun (Hold p ∷ []) d.between d.is d.made.1 refl), tt)
  adds (SwingToLinked v w y) d = (λ won. tt, tt)
  adds (MarkNext w y) d = (λ won. does (Close p) (subst (λ (c : Call T). effect_of c p (Close p)) (sym d.made.0) refl) (unchanged p begun [] d.between d.is d.made.1 refl), tt)
  adds (CheckHead u w y) d = (λ won. tt, tt)
  adds (SwingTailToTake w y) d = (λ won. tt, tt)
  adds (TakeHead u y k) d = (λ won. took u y k d (m.home k), tt)
  adds (GiveNode give w) d = (λ won. tt, tt)
  adds (GiveCell give w) d = (λ won. hand (Free p 1) refl, tt)
  adds (CheckHeadToLook u y) d = (λ won. tt, tt)
  adds (CheckHeadToCount u w y) d = (λ won. tt, tt)
  adds (CheckNextToGauge w y) d = (λ won. tt, tt)
  adds (ShutHead u) d = (λ won. does (Shut p) (subst (λ (c : Call T). effect_of c p (Shut p)) (sym d.made.0) refl) (unchanged p begun [] d.between d.is d.made.1 refl), tt)
  adds l d = tt

pub queue_effects : {T : Type 0} (n limit : ℕ) → (o : Operation T) (m : Memory T) (s : Sight (core T n limit) m) → Deeds s.pass.number (call_of o) s.at.line s.begun s.pass.seen → Adds (effect o s.pass.number) s.pass.number s.begun s.at.history ((core T n limit).adds m s.pass.number s.at.line)
queue_effects {T} n limit o m s d =
    let p = s.pass in
    let h = s.at.history in
    let ahead : Ahead p.number p.seen h = record { rest = s.saw.seen.more; is = s.saw.seen.is; none_own = own-between p.number s.saw.seen.more p.seen (sym (ap (own p.number) s.saw.seen.is) ∙ s.saw.own_events) } in
    by_cases memories (Idle None) m p.number (λ (x : Outcome T). Adds (effect_of (call_of o) p.number) p.number s.begun h x.events) s.at.line (table limit s.at.line)
    (adds limit m p.number (call_of o) s.begun h s.at.line (meanwhile p.number (call_of o) s.begun p.seen h s.at.line ahead d))
