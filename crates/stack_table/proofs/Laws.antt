-- The stack's machine on its table, with all its laws.
use Rattle.std.proofs.Common.{◌≡◌, ℕ, ◌+◌, ◌⊎◌, ⊎_elim, true, List, [], ◌∷◌, ◌++◌, length, set, refl, sym, ap, ◌∙◌, subst, arith}
use Rattle.std.proofs.lemmas.Bool.{false≢true}
use Rattle.std.specs.Prelude.{None}
use mathlib.Core.Option.{Option, some}
use lib.ListN.{get_elem?}
use Rattle.atomic_table.proofs.Lists.{at_snoc}
use Rattle.bounded_model.specs.declared.history.Event.{Event}
use Rattle.bounded_model.specs.declared.views.PassView.{PassView}
use Rattle.bounded_model.specs.Histories.{own}
use Rattle.bounded_model.proofs.Histories.{own-between}
use Rattle.machine.proofs.Sums.{total_snoc}
use Rattle.machine.specs.Words.{times, total}
use Rattle.machine.specs.Seats.{Saw}
use Rattle.machine.proofs.Ahead.{Ahead}
use Rattle.stack_machine.specs.declared.lines.Line.{Line}
use Rattle.stack_machine.specs.declared.lines.Line.TheVariants.{Idle}
use Rattle.stack_machine.specs.Machine.{Memory, is_idle, held, step}
use Rattle.stack_machine.specs.Answers.{shape, state}
use Rattle.stack_machine.specs.Rule.{Lists, IsFine, putting, Tells, Good, Kept}
use Rattle.stack_machine.specs.Deeds.{Deeds}
use Rattle.stack_machine.proofs.Moves.{good_goes}
use Rattle.stack_machine.proofs.Places.{wins_unheld}
use Rattle.stack_machine.proofs.Start.{reads_good}
use Rattle.stack_machine.proofs.Step.{step_kept}
use Rattle.stack_machine.proofs.Tells.{tells_kept, step_apart}
use Rattle.stack_machine.proofs.Doing.{begins, meanwhile, step_does}
use Rattle.running.specs.Laws.{Laws, Lawful}
use Rattle.running.specs.Ties.{IsTie}
use Rattle.running.proofs.Uniting.{alike}
use Rattle.stack_table.specs.declared.operation.Operation.{Operation}
use Rattle.stack_table.specs.declared.operation.Operation.TheVariants.{Put as PutFirst}
use Rattle.stack_table.specs.Lines.{begins_busy, names, call_of, first_line}
use Rattle.stack_table.specs.Core.{core, stack_with}
use Rattle.stack_table.proofs.Does.{does}
use Rattle.stack_table.proofs.Effects.{stack_effects}
-- callers' proofs may name the machine from here too
pub use Rattle.stack_table.specs.Core.{stack}

-- the rule goes by the sums over lines and by each line
reseated : {T : Type 0} (n limit : ℕ) (m : Memory T) (g : Lists) (of of' : ℕ → Option ℕ) (lines lines' : List (Line T)) (h : List (Event T)) → Good T n limit m g of lines h → (lines' ≡ lines) ⊎ (lines' ≡ lines ++ Idle None ∷ [])
    → ((q p : ℕ) (l : Line T) → get_elem? lines' q ≡ some l → of' q ≡ some p → (state n limit h).hand p ≡ length (held l)) → ((q r p : ℕ) → of' q ≡ some p → of' r ≡ some p → q ≡ r) → Good T n limit m g of' lines' h
reseated {T} n limit m g of of' lines lines' h x which hands alone = record {
  linked = record {
    small = x.linked.small;
    free_stands = x.linked.free_stands;
    top_stands = x.linked.top_stands;
    once = λ i. ap (λ (k : ℕ). times i g.frees + times i g.stack + k) (sums (λ l. times i (held l)) refl) ∙ x.linked.once i;
    fine = λ q l at. ⊎_elim
        (λ e. x.linked.fine q l (ap (λ (ls : List (Line T)). get_elem? ls q) (sym e) ∙ at))
        (λ e. ⊎_elim (λ t. x.linked.fine q l t) (λ t. subst (IsFine limit m g) t tt) (at_snoc lines (Idle None) l q (ap (λ (ls : List (Line T)). get_elem? ls q) (sym e) ∙ at)))
        which;
  };
  filled = x.filled;
  told = record {
    legal = x.told.legal;
    room = x.told.room;
    out = x.told.out ∙ sym (sums (λ l. length (held l)) refl);
    listed = x.told.listed;
    hands = hands;
    alone = alone;
    closed = x.told.closed;
    shut = x.told.shut;
    free_tag = x.told.free_tag;
    top_tag = x.told.top_tag;
    free_limit = x.told.free_limit;
    top_limit = x.told.top_limit;
    spare = let s = x.told.spare in let t = sums (λ l. length (putting l)) refl in omega arith;
  };
}
  where
    sums : (f : Line T → ℕ) → f (Idle None) ≡ 0 → total f lines' ≡ total f lines
    sums f none_held = ⊎_elim (λ e. ap (total f) e) (λ e. ap (total f) e ∙ total_snoc f lines (Idle None) ∙ omega arith) which

module _ {T : Type 0} where
  -- a line that holds nothing
  pub record Empty (l : Line T) : Type 0 where
    pub none_held : held l ≡ []
    pub none_put : putting l ≡ []

  pub first_empty : (o : Operation T) → Empty (first_line o)
  first_empty (PutFirst v others) = record { none_held = refl; none_put = refl }
  first_empty o = record { none_held = refl; none_put = refl }

  first_fine : (limit : ℕ) (m : Memory T) (g : Lists) (o : Operation T) → IsFine limit m g (first_line o)
  first_fine limit m g (PutFirst v others) = record { chained = tt; wants = omega arith }
  first_fine limit m g o = tt

  pub idle_holds : (l : Line T) → is_idle l ≡ true → held l ≡ []
  idle_holds (Idle a) e = refl
  idle_holds l e = absurd (false≢true e)

  first_tells : (n limit : ℕ) (h : List (Event T)) (o : Operation T) → Tells n limit h h (first_line o)
  first_tells n limit h (PutFirst v others) = tt
  first_tells n limit h o = tt

module _ {T : Type 0} (n limit : ℕ) where
  -- a pass with nothing in hand goes to another such line
  goes_empty : (m : Memory T) (of : ℕ → Option ℕ) (lines : List (Line T)) (h : List (Event T)) (q : ℕ) (l l' : Line T) (k : Kept T n limit m of lines h) → get_elem? lines q ≡ some l → held l ≡ [] → Empty l' → IsFine limit m k.lists l' → Kept T n limit m of (set lines q l') h
  goes_empty m of lines h q l l' k e nothing after fine =
      let same_hand : held l' ≡ held l = after.none_held ∙ sym nothing in
      record { lists = k.lists; good = good_goes q l l' k.good e (λ i. ap (times i) same_hand) (ap length same_hand) (omega (arith, ap length after.none_put)) fine }

  deeds : (o : Operation T) (m : Memory T) (of : ℕ → Option ℕ) (lines : List (Line T)) (h : List (Event T)) (q : ℕ) (l : Line T) (k : Kept T n limit m of lines h) (e : get_elem? lines q ≡ some l) (p : PassView T) (b : List (Event T)) → Saw h p → Deeds (shape n limit) p.number (call_of o) l b p.seen
      → Deeds (shape n limit) p.number (call_of o) (step (shape n limit) m p.number l).line b ((step (shape n limit) m p.number l).events ++ h)
  deeds o m of lines h q l k e p b saw d =
      let ahead : Ahead p.number p.seen h = record { rest = saw.seen.more; is = saw.seen.is; none_own = own-between p.number saw.seen.more p.seen (sym (ap (own p.number) saw.seen.is) ∙ saw.own_events) } in
      step_does n limit p.number (call_of o) b h m k.lists l (reads_good n limit m k.lists of lines h q l k.good e) (k.good.linked.fine q l e) (meanwhile (shape n limit) p.number (call_of o) b p.seen h l ahead d)

  pub laws : Laws {T = T} names (core T n limit)
  laws = record {
    fresh = λ p. refl;
    stocked = tt;
    gives_quiet = λ out l is more. refl;
    gives_stock = λ out l is more. tt;
    takes_stock = λ out l k is quiet. tt;
    empty = λ l e. ap length (idle_holds l e);
    begins = λ m s o idle. goes_empty m s.who s.lines s.history s.seat s.line (first_line o) s.good s.here (idle_holds s.line idle) (first_empty o) (first_fine limit m s.good.lists o);
    quiets = λ m s idle. goes_empty m s.who s.lines s.history s.seat s.line (Idle None) s.good s.here (idle_holds s.line idle) (record { none_held = refl; none_put = refl }) tt;
    reseats = λ m r. record { lists = r.good.lists; good = reseated n limit m r.good.lists r.who r.who' r.lines r.lines' r.history r.good.good (alike (Idle None) is_idle (λ o rest. first_line o) (λ i. true) (λ o rest. begins_busy o) (core T n limit) r.lines r.lines' r.shared) r.hands r.alone };
    kept = λ m t. step_kept n limit m t.at.who t.at.lines t.at.history t.at.seat t.pass t.is t.at.good t.at.line t.at.here;
    legal = λ m of lines h k. k.good.told.legal;
    hands = λ m t. t.at.good.good.told.hands t.at.seat t.pass t.at.line t.at.here t.is;
    apart = λ m p l h q ne. step_apart (shape n limit) m p q ne h l;
    deeds = λ o m s d. deeds o m s.at.who s.at.lines s.at.history s.at.seat s.at.line s.at.good s.at.here s.pass s.begun s.saw d;
    tells = λ m s before t. tells_kept s.at.good.good s.pass.number s.begun s.pass.seen before s.saw.seen s.at.line t;
    first_deeds = λ p h o rest. begins (shape n limit) p h (call_of o);
    first_tells = λ h o rest. first_tells n limit h o;
    unheld = λ m s p. wins_unheld s.good.good s.seat p s.line s.here;
    free = λ m s o line idle seats. tt;
    effects = λ o m s d. stack_effects n limit m s.pass (call_of o) s.begun s.at.history s.at.line s.at.who s.at.lines s.at.seat s.at.good s.at.here d s.saw;
    does = λ words homes t sane. does n limit words homes sane t.at.who t.at.lines t.at.history t.at.seat t.at.good t.pass t.at.line t.at.here;
  }

  -- with any rule of a client
  pub lawful : (rule : List (Event T) → Type 0) → IsTie rule → Lawful (stack_with T n limit rule)
  lawful rule tie = record { laws = laws; tie = tie }
