-- The queue's machine on its table, with all its laws.
use Rattle.std.proofs.Common.{◌≡◌, ℕ, ◌+◌, ◌⊎◌, ⊎_elim, true, List, [], ◌∷◌, ◌++◌, length, set, refl, sym, ap, ◌∙◌, subst, arith}
use Rattle.std.proofs.lemmas.Bool.{false≢true}
use Rattle.std.specs.Prelude.{None}
use mathlib.Core.Option.{Option, some}
use lib.ListN.{get_elem?}
use Rattle.atomic_table.proofs.Lists.{at_snoc}
use Rattle.bounded_model.specs.declared.history.Event.{Event}
use Rattle.bounded_model.specs.declared.views.PassView.{PassView}
use Rattle.bounded_model.specs.Histories.{own}
use Rattle.bounded_model.proofs.Histories.{own-between}
use Rattle.machine.proofs.Sums.{total_snoc}
use Rattle.machine.specs.Words.{times, total}
use Rattle.machine.specs.Seats.{Saw}
use Rattle.machine.proofs.Ahead.{Ahead}
use Rattle.queue_machine.specs.declared.lines.Line.{Line}
use Rattle.queue_machine.specs.declared.lines.Line.TheVariants.{Idle}
use Rattle.queue_machine.specs.Machine.{Memory, is_idle, held_cells, held_nodes, step}
use Rattle.queue_machine.specs.Answers.{shape, state}
use Rattle.queue_machine.specs.Rule.{Lists, IsFine, bare, wanting, putting, Tells, Good, Kept}
use Rattle.queue_machine.specs.Deeds.{Deeds}
use Rattle.queue_machine.proofs.Places.{wins_unheld}
use Rattle.queue_machine.proofs.StepKinds.{Alike, good_goes}
use Rattle.queue_machine.proofs.Step.{step_kept}
use Rattle.queue_machine.proofs.Tells.{tells_kept, step_apart}
use Rattle.queue_machine.proofs.Doing.{begins, meanwhile, step_does}
use Rattle.running.specs.Laws.{Laws, Lawful}
use Rattle.running.specs.Ties.{IsTie}
use Rattle.running.proofs.Uniting.{alike as all_same}
use Rattle.queue_table.specs.declared.operation.Operation.{Operation}
use Rattle.queue_table.specs.declared.operation.Operation.TheVariants.{Put as PutFirst}
use Rattle.queue_table.specs.Lines.{begins_busy, names, call_of, first_line}
use Rattle.queue_table.specs.Core.{core, queue_with}
use Rattle.queue_table.proofs.Does.{does}
use Rattle.queue_table.proofs.Effects.{queue_effects}
-- callers' proofs may name the machine from here too
pub use Rattle.queue_table.specs.Core.{queue}

module _ {T : Type 0} where
  -- a line that holds nothing and is of no put that has its cell
  pub record Empty (l : Line T) : Type 0 where
    pub cells : held_cells l ≡ []
    pub nodes : held_nodes l ≡ []
    none_bare : bare l ≡ 0
    none_wanting : wanting l ≡ 0
    none_putting : putting l ≡ 0

  alike : (l l' : Line T) → Empty l → Empty l' → Alike l l'
  alike l l' e e' = record {
    cells = e'.cells ∙ sym e.cells;
    nodes = e'.nodes ∙ sym e.nodes;
    bare_same = e'.none_bare ∙ sym e.none_bare;
    wanting_less = omega (arith, e'.none_wanting);
    putting_less = omega (arith, e'.none_putting);
  }

  pub first_empty : (o : Operation T) → Empty (first_line o)
  first_empty (PutFirst v) = record { cells = refl; nodes = refl; none_bare = refl; none_wanting = refl; none_putting = refl }
  first_empty o = record { cells = refl; nodes = refl; none_bare = refl; none_wanting = refl; none_putting = refl }

  pub idle_empty : (l : Line T) → is_idle l ≡ true → Empty l
  idle_empty (Idle a) e = record { cells = refl; nodes = refl; none_bare = refl; none_wanting = refl; none_putting = refl }
  idle_empty l e = absurd (false≢true e)

  first_fine : (limit : ℕ) (m : Memory T) (g : Lists) (o : Operation T) → IsFine limit m g (first_line o)
  first_fine limit m g (PutFirst v) = tt
  first_fine limit m g o = tt

  first_tells : (n limit : ℕ) (h : List (Event T)) (o : Operation T) → Tells n limit h h (first_line o)
  first_tells n limit h (PutFirst v) = tt
  first_tells n limit h o = tt

-- the rule goes by the sums over lines and by each line
reseated : {T : Type 0} (n limit : ℕ) (m : Memory T) (g : Lists) (of of' : ℕ → Option ℕ) (lines lines' : List (Line T)) (h : List (Event T)) → Good T n limit m g of lines h → (lines' ≡ lines) ⊎ (lines' ≡ lines ++ Idle None ∷ [])
    → ((q p : ℕ) (l : Line T) → get_elem? lines' q ≡ some l → of' q ≡ some p → (state n limit h).hand p ≡ length (held_cells l)) → ((q r p : ℕ) → of' q ≡ some p → of' r ≡ some p → q ≡ r) → Good T n limit m g of' lines' h
reseated {T} n limit m g of of' lines lines' h x which hands alone = record {
  linked = record {
    small = x.linked.small;
    cells_stand = x.linked.cells_stand;
    nodes_stand = x.linked.nodes_stand;
    chained = x.linked.chained;
    named = x.linked.named;
    cells_once = λ i. ap (λ (k : ℕ). times i g.cells + times i g.queued + k) (sums (λ l. times i (held_cells l)) refl) ∙ x.linked.cells_once i;
    nodes_once = λ j. ap (λ (k : ℕ). times j g.nodes + times j g.chain + k) (sums (λ l. times j (held_nodes l)) refl) ∙ x.linked.nodes_once j;
    fine = λ q l at. ⊎_elim
        (λ e. x.linked.fine q l (ap (λ (ls : List (Line T)). get_elem? ls q) (sym e) ∙ at))
        (λ e. ⊎_elim (λ t. x.linked.fine q l t) (λ t. subst (IsFine limit m g) t tt) (at_snoc lines (Idle None) l q (ap (λ (ls : List (Line T)). get_elem? ls q) (sym e) ∙ at)))
        which;
  };
  filled = x.filled;
  numbered = record {
    cells_limit = x.numbered.cells_limit;
    nodes_tag = let s = x.numbered.nodes_tag in let t = sums wanting refl in omega arith;
    next_limit = x.numbered.next_limit;
    next_small = x.numbered.next_small;
    fresh = x.numbered.fresh;
  };
  told = record {
    legal = x.told.legal;
    room = x.told.room;
    spare = let s = x.told.spare in let t = sums bare refl in omega arith;
    out = x.told.out ∙ sym (sums (λ l. length (held_cells l)) refl);
    listed = x.told.listed;
    hands = hands;
    alone = alone;
    closed_marked = x.told.closed_marked;
    marked_closed = x.told.marked_closed;
    shut = x.told.shut;
    cells_tag = x.told.cells_tag;
    head_tag = x.told.head_tag;
    balance = x.told.balance;
    ahead = let s = x.told.ahead in let t = sums putting refl in omega arith;
  };
}
  where
    sums : (f : Line T → ℕ) → f (Idle None) ≡ 0 → total f lines' ≡ total f lines
    sums f none_held = ⊎_elim (λ e. ap (total f) e) (λ e. ap (total f) e ∙ total_snoc f lines (Idle None) ∙ omega arith) which

module _ {T : Type 0} (n limit : ℕ) where
  -- a pass with nothing in hand goes to another such line
  goes_empty : (m : Memory T) (of : ℕ → Option ℕ) (lines : List (Line T)) (h : List (Event T)) (q : ℕ) (l l' : Line T) → Kept T n limit m of lines h → get_elem? lines q ≡ some l → Empty l → Empty l' → ((g : Lists) → IsFine limit m g l') → Kept T n limit m of (set lines q l') h
  goes_empty m of lines h q l l' k e none_held none_after fine = record { lists = k.lists; good = good_goes q l l' k.good e (alike l l' none_held none_after) (fine k.lists) }

  deeds : (o : Operation T) (m : Memory T) (of : ℕ → Option ℕ) (lines : List (Line T)) (h : List (Event T)) (q : ℕ) (l : Line T) (k : Kept T n limit m of lines h) (e : get_elem? lines q ≡ some l) (p : PassView T) (b : List (Event T)) → Saw h p → Deeds p.number (call_of o) l b p.seen
      → Deeds p.number (call_of o) (step (shape n limit) m p.number l).line b ((step (shape n limit) m p.number l).events ++ h)
  deeds o m of lines h q l k e p b saw d =
      let ahead : Ahead p.number p.seen h = record { rest = saw.seen.more; is = saw.seen.is; none_own = own-between p.number saw.seen.more p.seen (sym (ap (own p.number) saw.seen.is) ∙ saw.own_events) } in
      step_does k.good q p.number (call_of o) b l e (meanwhile p.number (call_of o) b p.seen h l ahead d)

  pub laws : Laws {T = T} names (core T n limit)
  laws = record {
    fresh = λ p. refl;
    stocked = tt;
    gives_quiet = λ out l is more. refl;
    gives_stock = λ out l is more. tt;
    takes_stock = λ out l k is quiet. tt;
    empty = λ l e. ap length (idle_empty l e).cells;
    begins = λ m s o idle. goes_empty m s.who s.lines s.history s.seat s.line (first_line o) s.good s.here (idle_empty s.line idle) (first_empty o) (λ g. first_fine limit m g o);
    quiets = λ m s idle. goes_empty m s.who s.lines s.history s.seat s.line (Idle None) s.good s.here (idle_empty s.line idle) (idle_empty (Idle None) refl) (λ g. tt);
    reseats = λ m r. record { lists = r.good.lists; good = reseated n limit m r.good.lists r.who r.who' r.lines r.lines' r.history r.good.good (all_same (Idle None) is_idle (λ o rest. first_line o) (λ i. true) (λ o rest. begins_busy o) (core T n limit) r.lines r.lines' r.shared) r.hands r.alone };
    kept = λ m t. step_kept n limit m t.at.who t.at.lines t.at.history t.at.seat t.pass t.is t.at.good t.at.line t.at.here;
    legal = λ m of lines h k. k.good.told.legal;
    hands = λ m t. t.at.good.good.told.hands t.at.seat t.pass t.at.line t.at.here t.is;
    apart = λ m p l h q ne. step_apart (shape n limit) m p q ne h l;
    deeds = λ o m s d. deeds o m s.at.who s.at.lines s.at.history s.at.seat s.at.line s.at.good s.at.here s.pass s.begun s.saw d;
    tells = λ m s before t. tells_kept s.at.good.good s.at.seat s.pass.number s.begun s.pass.seen before s.saw.seen s.at.line s.at.here t;
    first_deeds = λ p h o rest. begins p h (call_of o);
    first_tells = λ h o rest. first_tells n limit h o;
    unheld = λ m s p. wins_unheld s.good.good s.seat p s.line s.here;
    free = λ m s o line idle seats. tt;
    effects = λ o m s d. queue_effects n limit o m s d;
    does = λ words homes t sane. does n limit words homes sane t.pass t.at.who t.at.lines t.at.history t.at.seat t.at.good t.is t.at.line t.at.here;
  }

  -- with any rule of a client
  pub lawful : (rule : List (Event T) → Type 0) → IsTie rule → Lawful (queue_with T n limit rule)
  lawful rule tie = record { laws = laws; tie = tie }
