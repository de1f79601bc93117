-- All that a step of a stack adds to the history is moves of hands, but for the one effect of its call.
use Rattle.std.proofs.Common.{◌≡◌, ℕ, ◌<◌, ◌≤◌, inl, inr, false, List, [], ◌∷◌, ◌++◌, length, refl, sym, ap, ◌∙◌, subst, arith, Option as Slot, Some, None}
use Rattle.std.proofs.lemmas.List.{length-take-le, take-append-drop}
use mathlib.Core.Option.{Option, none, some}
use lib.ListN.{get_elem?}
use Rattle.bounded_model.specs.declared.history.Event.{Event}
use Rattle.bounded_model.specs.declared.history.Event.TheVariants.{Hold, Put, Take, TakeAll, Free, Close, Shut}
use Rattle.bounded_model.specs.declared.views.PassView.{PassView}
use Rattle.bounded_model.specs.Alone.{changes}
use Rattle.bounded_model.specs.Histories.{own}
use Rattle.bounded_model.specs.Laws.{holds_of}
use Rattle.bounded_model.specs.Machine.{Shape}
use Rattle.bounded_model.proofs.Histories.{own-between}
use Rattle.machine.specs.Chains.{values_in, chain_from}
use Rattle.machine.specs.Seats.{Saw}
use Rattle.machine.specs.Words.{Tagged}
use Rattle.machine.proofs.Ahead.{Ahead}
use Rattle.machine.proofs.Program.{Cases, by_cases}
use Rattle.stack_machine.specs.declared.lines.Call.{Call}
use Rattle.stack_machine.specs.declared.lines.Call.TheVariants.{Put as CallPut, Take as CallTake, Close as CallClose, Shut as CallShut}
use Rattle.stack_machine.specs.declared.lines.Line.{Line}
use Rattle.stack_machine.specs.declared.lines.Line.TheVariants.{Idle, TakeFree, SwapTop, TakeTop, TakeChain, GiveBack, MarkTop, ShutTop}
use Rattle.stack_machine.specs.declared.lines.Putting.{Putting}
use Rattle.stack_machine.specs.declared.lines.Taking.TheVariants.{One, Whole}
use Rattle.stack_machine.specs.Answers.{shape}
use Rattle.stack_machine.specs.Deeds.{IsPut, Deeds}
use Rattle.stack_machine.specs.Machine.{Memory, memories, Outcome, table, placed, unplaced, wins_value, step}
use Rattle.stack_machine.specs.Rule.{Lists, IsFine, Kept}
use Rattle.stack_machine.proofs.Doing.{meanwhile}
use Rattle.running.proofs.Changed.{holds_change_nothing, unchanged}
use Rattle.running.specs.Ties.{Adds, PutsSome, changed_by}
use Rattle.stack_table.specs.Effects.{effect_of}

module _ {T : Type 0} where
  -- a call with one value puts that value
  pub one_put : (p : ℕ) (v : T) (e : Event T) → PutsSome p (v ∷ []) e → (k : ℕ) × (e ≡ Put p (v ∷ []) k)
  one_put p v e x = (x.number, x.is ∙ ap (λ (vs : List T). Put p vs x.number) (whole x.values x.left x.some_value x.all))
    where
      whole : (values left : List T) → 0 < length values → values ++ left ≡ v ∷ [] → values ≡ v ∷ []
      whole [] left some_value all = absurd (omega arith)
      whole (w ∷ []) left some_value all = cc
      whole (w ∷ u ∷ values) left some_value all = cc

  -- a put with a node for each of its first values puts these
  puts_some : (p : ℕ) (put : Putting T) (k : ℕ) → 0 < length put.chain → length put.chain ≤ length put.values → (call : Call T) → IsPut p call put.values → effect_of call p (Put p (placed put) k)
  puts_some p put k some_node few (CallPut v others) is = record {
    values = placed put;
    left = unplaced put;
    number = k;
    some_value = omega (arith, length-take-le (length put.chain) put.values few);
    all = take-append-drop (length put.chain) put.values ∙ is;
    is = refl;
  }
  puts_some p put k some_node few call is = absurd is

module _ {T : Type 0} (n limit : ℕ) (m : Memory T) (g : Lists) (p : ℕ) (call : Call T) (begun h : List (Event T)) where
  abbrev c : Shape
  c = shape n limit

  abbrev Is : Outcome T → Type 0
  Is o = Adds (effect_of call p) p begun h o.events

  abbrev At : Line T → Type 0
  At l = Deeds c p call l begun h

  hand : (e : Event T) → changes e ≡ false → Adds (effect_of call p) p begun h (e ∷ [])
  hand e moves = (tt, inl moves)

  does : (e : Event T) → effect_of call p e → changed_by p h ≡ changed_by p begun → Adds (effect_of call p) p begun h (e ∷ [])
  does e is same = (tt, inr (is, same))

  -- the effect of a call that has made no event
  first : (call' : Call T) (e : Event T) (between : List (Event T)) → h ≡ between ++ begun → (call ≡ call') × (own p between ≡ []) → effect_of call' p e → Adds (effect_of call p) p begun h (e ∷ [])
  first call' e between is made effect = does e (subst (λ (k : Call T). effect_of k p e) (sym made.0) effect) (unchanged p begun [] between is made.1 refl)

  took : (w : Tagged) (k : ℕ) → At (TakeTop w k) → (o : Option (Slot T)) → Is (wins_value m p w k o)
  took w k d none = tt
  took w k d (some None) = tt
  took w k d (some (Some v)) = first (CallTake One) (Take p v w.tag) d.between d.is d.made (v, w.tag, refl)

  adds : (l : Line T) → IsFine limit m g l → At l → Cases memories (Idle None) m p Is l (table c l)
  adds (TakeFree put w k) f d = (λ won. hand (Hold p) refl, tt)
  adds (SwapTop put w) f d =
      let k : ℕ = length put.chain in
      let same : changed_by p h ≡ changed_by p begun = unchanged p begun (holds_of p k) d.between d.is d.made.1 (holds_change_nothing p k) in
      (λ won. does (Put p (placed put) w.tag) (puts_some p put w.tag f.0.some_node f.0.few call d.made.0) same, tt)
  adds (TakeTop w k) f d = (λ won. took w k d (m.home w.index), tt)
  adds (TakeChain way w) f d =
      let values : List T = values_in m.home (chain_from n m.link w.index) in
      (λ won. first (CallTake (Whole way)) (TakeAll p values w.tag) d.between d.is d.made (values, w.tag, refl), tt)
  adds (GiveBack give w) f d = (λ won. hand (Free p (length give.chain)) refl, tt)
  adds (MarkTop w) f d = (λ won. first CallClose (Close p) d.between d.is d.made refl, tt)
  adds (ShutTop w) f d = (λ won. first CallShut (Shut p) d.between d.is d.made refl, tt)
  adds l f d = tt

-- The machine's rule holds of the lines, and the pass is at one of them: so a put that goes to the top has a node for at least one value
pub stack_effects : {T : Type 0} (n limit : ℕ) (m : Memory T) (p : PassView T) (call : Call T) (begun h : List (Event T)) (l : Line T)
    → (of : ℕ → Option ℕ) (lines : List (Line T)) (q : ℕ) → Kept T n limit m of lines h → get_elem? lines q ≡ some l
    → Deeds (shape n limit) p.number call l begun p.seen → Saw h p → Adds (effect_of call p.number) p.number begun h (step (shape n limit) m p.number l).events
stack_effects {T} n limit m p call begun h l of lines q kept here d saw =
    let none_own : own p.number saw.seen.more ≡ [] = own-between p.number saw.seen.more p.seen (sym (ap (own p.number) saw.seen.is) ∙ saw.own_events) in
    let ahead : Ahead p.number p.seen h = record { rest = saw.seen.more; is = saw.seen.is; none_own = none_own } in
    by_cases memories (Idle None) m p.number (λ (x : Outcome T). Adds (effect_of call p.number) p.number begun h x.events) l (table (shape n limit) l)
    (adds n limit m kept.lists p.number call begun h l (kept.good.linked.fine q l here) (meanwhile (shape n limit) p.number call begun p.seen h l ahead d))
