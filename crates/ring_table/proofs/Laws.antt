-- The ring's machine on its table, with all its laws.
use Rattle.std.proofs.Common.{◌≡◌, ◌≢◌, ℕ, zero, suc, ◌+◌, ◌*◌, ◌<◌, ◌⊎◌, inl, inr, ⊎_elim, true, false, List, [], ◌∷◌, ◌++◌, length, set, refl, sym, ap, ◌∙◌, subst, arith}
use Rattle.std.proofs.lemmas.Bool.{false≢true}
use mathlib.Core.Option.{some, some-injective, some-ne-none}
use lib.ListN.{get_elem?}
use Rattle.atomic_table.proofs.Lists.{set_again}
use Rattle.bounded_model.specs.declared.history.Event.{Event}
use Rattle.bounded_model.specs.declared.views.PassView.{PassView}
use Rattle.bounded_model.specs.Histories.{own, Later}
use Rattle.bounded_model.specs.Machine as bounded
use Rattle.bounded_model.proofs.Histories.{own-between}
use Rattle.machine.specs.Words.{times}
use Rattle.machine.specs.Program.{does as done}
use Rattle.machine.specs.Places.{IsHeld}
use Rattle.machine.specs.Seats.{Saw}
use Rattle.machine.proofs.Ahead.{Ahead}
use Rattle.machine.proofs.Lists.{times_here}
use Rattle.ring_machine.specs.declared.lines.Call.{Call}
use Rattle.ring_machine.specs.declared.lines.Call.TheVariants.{Put as CallPut, Take as CallTake, Close as CallClose, Shut as CallShut, Look as CallLook, Len as CallLen, Gauge as CallGauge}
use Rattle.ring_machine.specs.declared.lines.Line.{Line}
use Rattle.ring_machine.specs.declared.lines.Line.TheVariants.{Idle}
use Rattle.ring_machine.specs.Machine.{Memory, memories, table, step, cell_of, is_home, held_cells, resting, starts, first_of}
use Rattle.ring_machine.specs.Machine as ring
use Rattle.ring_machine.specs.Answers.{shape}
use Rattle.ring_machine.specs.Rule.{cells_in, IsFine, progress, Good, Tells}
use Rattle.ring_machine.specs.Places.{NothingTwice}
use Rattle.ring_machine.specs.Deeds.{Deeds}
use Rattle.ring_machine.proofs.StepKinds.{good_goes}
use Rattle.ring_machine.proofs.Step.{step_kept}
use Rattle.ring_machine.proofs.Tells.{tells_kept, step_apart}
use Rattle.ring_machine.proofs.Doing.{begins, meanwhile, step_does}
use Rattle.ring_machine.proofs.Cells.{cell_in}
use Rattle.ring_machine.proofs.Places.{nothing_twice, wins_unheld}
use Rattle.running.specs.Machine.{Core, Shared, Cuts, Unites}
use Rattle.running.specs.Laws.{Laws, Lawful}
use Rattle.running.specs.Ties.{Adds, IsTie}
use Rattle.ring_table.specs.declared.line.SeatLine.{SeatLine}
use Rattle.ring_table.specs.declared.line.SeatLine.TheVariants.{At, Stock}
use Rattle.ring_table.specs.declared.operation.Operation.{Operation}
use Rattle.ring_table.specs.Lines.{call_of}
use Rattle.ring_table.specs.Seats.{passes_of, each_resting, cells_from, names, quiet, first, gives, takes, both, is_idle, IsStock, deed_at}
use Rattle.ring_table.specs.Effects.{effect}
use Rattle.ring_table.specs.Free.{IsFree, FreeAt}
use Rattle.ring_table.specs.Core.{cells, core, ring_with, DeedsAt, TellsAt, WinsUnheldAt}
use Rattle.ring_table.proofs.Seats.{Found, found, Same, same_all, Halves, same_cut, Whole, same_union, rests_with}
use Rattle.ring_table.proofs.Shapes.{state_same, legal_same}
use Rattle.ring_table.proofs.Lifted.{Alike, does_alike}
use Rattle.ring_table.proofs.Does.{does}
use Rattle.ring_table.proofs.Effects.{ring_effects}
-- callers' proofs may name the machine from here too
pub use Rattle.ring_table.specs.Core.{ring_on}

cells_many : (c k : ℕ) → length (cells_from c k) ≡ k
cells_many c zero = refl
cells_many c (suc k) = ap suc (cells_many (c + 1) k)

-- Lines at which a pass begins

module _ {T : Type 0} where
  first_fine : (n laps : ℕ) (m : Memory T) (h : List (Event T)) (c : ℕ) (call : Call T) → IsFine n laps (progress T n laps m h) (first_of c call)
  first_fine n laps m h c (CallPut v) = tt
  first_fine n laps m h c CallTake = tt
  first_fine n laps m h c CallClose = tt
  first_fine n laps m h c CallShut = tt
  first_fine n laps m h c CallLook = tt
  first_fine n laps m h c CallLen = tt
  first_fine n laps m h c CallGauge = tt

  first_cell : (c : ℕ) (call : Call T) → cell_of (first_of c call) ≡ c
  first_cell c (CallPut v) = refl
  first_cell c CallTake = refl
  first_cell c CallClose = refl
  first_cell c CallShut = refl
  first_cell c CallLook = refl
  first_cell c CallLen = refl
  first_cell c CallGauge = refl

  idle_home : (l : Line T) → ring.is_idle l ≡ true → is_home l ≡ true
  idle_home (Idle c a) idle = refl
  idle_home l idle = absurd (false≢true idle)

  first_tells : (n laps c : ℕ) (call : Call T) (seen : List (Event T)) → Tells n laps seen seen (first_of c call)
  first_tells n laps c (CallPut v) seen = tt
  first_tells n laps c CallTake seen = tt
  first_tells n laps c CallClose seen = tt
  first_tells n laps c CallShut seen = tt
  first_tells n laps c CallLook seen = tt
  first_tells n laps c CallLen seen = tt
  first_tells n laps c CallGauge seen = tt

  -- Lines of seats

  given_quiet : (s : SeatLine T) → quiet (gives s).1 ≡ (gives s).1
  given_quiet (At l) = refl
  given_quiet (Stock []) = refl
  given_quiet (Stock (c ∷ cs)) = refl

  gives_stock : (passes out : ℕ) (s : SeatLine T) → IsStock passes out s → out < passes → IsStock passes (out + 1) (gives s).0
  gives_stock passes out (At l) is less = absurd is
  gives_stock passes out (Stock []) is less = absurd (omega (arith, is))
  gives_stock passes out (Stock (c ∷ cs)) is less = omega (arith, is)

  takes_stock : (passes out : ℕ) (s t : SeatLine T) → IsStock passes (out + 1) s → quiet t ≡ t → IsStock passes out (takes s t)
  takes_stock passes out (At l) t is q = absurd is
  takes_stock passes out (Stock cs) t is q = let r = rests_with t q in subst (λ (u : SeatLine T). IsStock passes out (takes (Stock cs) u)) (sym r.1) (omega (arith, is))

  -- How a seat's line is cut in two, and how two are made one

  gives_halves : (passes out : ℕ) (s : SeatLine T) → IsStock passes out s → out < passes → Halves s (gives s).0 (gives s).1
  gives_halves passes out (At l) is less = absurd is
  gives_halves passes out (Stock []) is less = absurd (omega (arith, is))
  gives_halves passes out (Stock (c ∷ cs)) is less = record {
    sums = λ f. omega arith;
    first = λ i l at. (suc i, at);
    second = λ i l at. (0, one i l at);
  }
    where
      one : (i : ℕ) (l : Line T) → get_elem? (resting c ∷ []) i ≡ some l → some (resting c) ≡ some l
      one zero l at = at
      one (suc i) l at = absurd (some-ne-none l (sym at))

  both_halves : (c d : ℕ) → Halves (both (At (resting {T = T} c)) (At (resting d))) (At (resting c)) (At (resting d))
  both_halves c d = record { sums = λ f. omega arith; first = λ i l at. (0, one c i l at); second = λ i l at. (1, one d i l at) }
    where
      one : (e i : ℕ) (l : Line T) → get_elem? (resting e ∷ []) i ≡ some l → some (resting e) ≡ some l
      one e zero l at = at
      one e (suc i) l at = absurd (some-ne-none l (sym at))

  none_halves : (s : SeatLine T) → Halves s s (Stock [])
  none_halves s = record { sums = λ f. omega arith; first = λ i l at. (i, at); second = λ i l at. absurd (some-ne-none l (sym at)) }

  takes_whole : (passes out : ℕ) (s : SeatLine T) (c : ℕ) → IsStock passes out s → Whole s (At (resting c)) (takes s (At (resting c)))
  takes_whole passes out (At l) c is = absurd is
  takes_whole passes out (Stock cs) c is = record { sums = λ f. omega arith; parts = one }
    where
      one : (i : ℕ) (l : Line T) → get_elem? (resting c ∷ each_resting cs) i ≡ some l → ((r : ℕ) × (get_elem? (each_resting cs) r ≡ some l)) ⊎ ((r : ℕ) × (get_elem? (resting {T = T} c ∷ []) r ≡ some l))
      one zero l at = inr (0, at)
      one (suc i) l at = inl (i, at)

  both_whole : (c d : ℕ) → Whole (At (resting {T = T} c)) (At (resting d)) (both (At (resting c)) (At (resting d)))
  both_whole c d = record { sums = λ f. omega arith; parts = one }
    where
      one : (i : ℕ) (l : Line T) → get_elem? (resting c ∷ resting d ∷ []) i ≡ some l → ((r : ℕ) × (get_elem? (resting {T = T} c ∷ []) r ≡ some l)) ⊎ ((r : ℕ) × (get_elem? (resting {T = T} d ∷ []) r ≡ some l))
      one zero l at = inl (0, at)
      one (suc zero) l at = inr (0, at)
      one (suc (suc i)) l at = absurd (some-ne-none l (sym at))

  none_whole : (s : SeatLine T) → Whole s (Stock []) s
  none_whole s = record { sums = λ f. omega arith; parts = λ i l at. inl (i, at) }

module _ {T : Type 0} (n laps passes : ℕ) where
  abbrev K : Memory T → List (SeatLine T) → List (Event T) → Type 0
  K m seats h = Good T n laps (cells T n laps passes) m (passes_of seats) h

  -- seats that stand for the same passes keep the rule
  same_good : (m : Memory T) (seats seats' : List (SeatLine T)) (h : List (Event T)) → Same seats seats' → K m seats h → K m seats' h
  same_good m seats seats' h s k = record {
    tail = k.tail;
    head = k.head;
    turned = k.turned;
    marked = k.marked;
    filled = k.filled;
    spares = λ q l at home. let r = s.from q l at in k.spares r.0 l r.1 home;
    once = λ c. let e = s.sums (λ l. times c (held_cells l)) in let o = k.once c in omega arith;
    told = k.told;
    fine = λ q l at. let r = s.from q l at in k.fine r.0 l r.1;
  }

  shared_same : (seats seats' : List (SeatLine T)) → Shared names (core T n laps passes) seats seats' → Same seats seats'
  shared_same seats seats' which = ⊎_elim (same_all seats seats') (λ t. ⊎_elim cut_same union_same t) which
    where
      cut_same : Cuts names (core T n laps passes) seats seats' → Same seats seats'
      cut_same k =
          let halves : Halves k.line k.parts.0 k.parts.1 = ⊎_elim
          (λ t. subst (λ (p : SeatLine T × SeatLine T). Halves k.line p.0 p.1) (sym t.1) (gives_halves passes t.0.0 k.line t.0.1 t.0.2))
          (λ t. ⊎_elim
          (λ p. let c = rests_with k.parts.0 p.first in let d = rests_with k.parts.1 p.second in
          subst (λ (u : SeatLine T). Halves u k.parts.0 k.parts.1) (sym p.were)
          (subst (λ (u : SeatLine T). Halves (both u k.parts.1) u k.parts.1) (sym c.1) (subst (λ (u : SeatLine T). Halves (both (At (resting c.0)) u) (At (resting c.0)) u) (sym d.1) (both_halves c.0 d.0))))
          (λ e. subst (λ (p : SeatLine T × SeatLine T). Halves k.line p.0 p.1) (sym e) (none_halves k.line))
          t)
          k.how in
          subst (Same seats) (sym k.after) (same_cut seats k.seat k.line k.parts.0 k.parts.1 k.here halves)

      union_same : Unites names (core T n laps passes) seats seats' → Same seats seats'
      union_same k =
          let whole : Whole k.line k.line' k.both = ⊎_elim
          (λ t. let c = rests_with k.line' t.1 in
          subst (Whole k.line k.line') (sym t.2) (subst (λ (u : SeatLine T). Whole k.line u (takes k.line u)) (sym c.1) (takes_whole passes t.0.0 k.line c.0 t.0.1)))
          (λ t. ⊎_elim
          (λ p. let c = rests_with k.line p.0 in let d = rests_with k.line' p.1 in
          subst (Whole k.line k.line') (sym p.2)
          (subst (λ (u : SeatLine T). Whole u k.line' (both u k.line')) (sym c.1) (subst (λ (u : SeatLine T). Whole (At (resting c.0)) u (both (At (resting c.0)) u)) (sym d.1) (both_whole c.0 d.0))))
          (λ p. subst (λ (u : SeatLine T). Whole k.line u k.both) (sym p.0) (subst (Whole k.line (Stock [])) (sym p.1) (none_whole k.line)))
          t)
          k.how in
          subst (Same seats) (sym k.after) (same_union seats k.seat k.other k.line k.line' k.both k.apart k.here k.there whole)

  -- The seat at q is at this line
  module _ (m : Memory T) (seats : List (SeatLine T)) (h : List (Event T)) (q : ℕ) (k : K m seats h) where
    goes_at : (l l' : Line T) → get_elem? seats q ≡ some (At l) → cell_of l' ≡ cell_of l → (is_home l' ≡ true → is_home l ≡ true) → IsFine n laps (progress T n laps m h) l' → K m (set seats q (At l')) h
    goes_at l l' e same rests fine =
        let f = found seats q l e in
        subst (λ (ls : List (Line T)). Good T n laps (cells T n laps passes) m ls h) (sym (f.sets l')) (good_goes f.place l l' k f.there same rests fine)

    begins_good : (o : Operation T) (s : SeatLine T) → get_elem? seats q ≡ some s → is_idle s ≡ true → K m (set seats q (first o s)) h
    begins_good o (At l) e idle = goes_at l (starts (call_of o) l) e (first_cell (cell_of l) (call_of o)) (λ home. idle_home l idle) (first_fine n laps m h (cell_of l) (call_of o))
    begins_good o (Stock cs) e idle = absurd (false≢true idle)

    quiets_good : (s : SeatLine T) → get_elem? seats q ≡ some s → is_idle s ≡ true → K m (set seats q (quiet s)) h
    quiets_good (At l) e idle = goes_at l (resting (cell_of l)) e refl (λ home. idle_home l idle) tt
    quiets_good (Stock cs) e idle = absurd (false≢true idle)

    -- a step of the machine, as one of the seat
    step_alike : (p : ℕ) (l : Line T) → Alike memories (resting (cell_of l)) m p (done memories (At (resting (cell_of l))) m p (At l) (deed_at (table n (2 * laps) l))) (step (shape n laps) m p l)
    step_alike p l = does_alike memories (resting (cell_of l)) m p l (table n (2 * laps) l)

    abbrev X : Core T (SeatLine T) (Operation T)
    X = core T n laps passes

    kept_good : (p : ℕ) (s : SeatLine T) → get_elem? seats q ≡ some s → K (X.after m p s) (set seats q (X.lands m p s)) (X.adds m p s ++ h)
    kept_good p (At l) e =
        let f = found seats q l e in
        let o = step (shape n laps) m p l in
        let a = step_alike p l in
        let kept : K o.memory (set seats q (At o.line)) (o.events ++ h) = subst (λ (ls : List (Line T)). Good T n laps (cells T n laps passes) o.memory ls (o.events ++ h)) (sym (f.sets o.line)) (step_kept n laps (cells T n laps passes) m (passes_of seats) h f.place p k l f.there) in
        subst (λ (y : Memory T). K y (set seats q (X.lands m p (At l))) (X.adds m p (At l) ++ h)) (sym a.memory)
        (subst (λ (u : SeatLine T). K o.memory (set seats q u) (X.adds m p (At l) ++ h)) (sym a.line)
        (subst (λ (es : List (Event T)). K o.memory (set seats q (At o.line)) (es ++ h)) (sym a.events) kept))
    kept_good p (Stock cs) e = subst (λ (ss : List (SeatLine T)). K m ss h) (sym (set_again seats q (Stock cs) e)) k

    deeds_good : (o : Operation T) (s : SeatLine T) → get_elem? seats q ≡ some s → (v : PassView T) (b : List (Event T)) → Saw h v → DeedsAt n o v.number s b v.seen
        → DeedsAt n o v.number (X.lands m v.number s) b (X.adds m v.number s ++ h)
    deeds_good o (At l) e v b saw d =
        let f = found seats q l e in
        let a = step_alike v.number l in
        let z = step (shape n laps) m v.number l in
        let ahead : Ahead v.number v.seen h = record { rest = saw.seen.more; is = saw.seen.is; none_own = own-between v.number saw.seen.more v.seen (sym (ap (own v.number) saw.seen.is) ∙ saw.own_events) } in
        subst (λ (u : SeatLine T). DeedsAt n o v.number u b (X.adds m v.number (At l) ++ h)) (sym a.line)
        (subst (λ (es : List (Event T)). Deeds n v.number (call_of o) z.line b (es ++ h)) (sym a.events)
        (step_does k f.place v.number (call_of o) b l f.there (meanwhile n v.number (call_of o) b v.seen h l ahead d)))
    deeds_good o (Stock cs) e v b saw d = tt

    tells_good : (s : SeatLine T) → get_elem? seats q ≡ some s → (v : PassView T) (b : List (Event T)) → Later b v.seen → Saw h v → TellsAt n laps b v.seen s → TellsAt n laps b (X.adds m v.number s ++ h) (X.lands m v.number s)
    tells_good (At l) e v b before saw t =
        let f = found seats q l e in
        let a = step_alike v.number l in
        let z = step (shape n laps) m v.number l in
        subst (λ (u : SeatLine T). TellsAt n laps b (X.adds m v.number (At l) ++ h) u) (sym a.line)
        (subst (λ (es : List (Event T)). Tells n laps b (es ++ h) z.line) (sym a.events)
        (tells_kept k f.place v.number b v.seen before saw.seen l f.there t))
    tells_good (Stock cs) e v b before saw t = tt

    unheld_good : (p : ℕ) (s : SeatLine T) → get_elem? seats q ≡ some s → WinsUnheldAt n m seats s (X.lands m p s)
    unheld_good p (At l) e =
        let f = found seats q l e in
        subst (WinsUnheldAt n m seats (At l)) (sym (step_alike p l).line) (wins_unheld k f.place p l f.there)
    unheld_good p (Stock cs) e = tt

    -- The cell of a seat that begins is in that seat's hand alone, and so in no slot and with no other seat
    free_good : (line : ℕ → SeatLine T) → ((p : ℕ) → is_idle (line p) ≡ false → (j : ℕ) × (get_elem? seats j ≡ some (line p))) → (o : Operation T) (s : SeatLine T) → get_elem? seats q ≡ some s → is_idle s ≡ true → FreeAt n (cells T n laps passes) m line (first o s)
    free_good line seat_of o (At l) e idle = subst (IsFree n (cells T n laps passes) m.slot line) (sym (first_cell (cell_of l) (call_of o))) (record {
      is_cell = once.no_others (cell_of l) (inr (inr mine));
      in_no_slot = λ i low same. once.inside_or_held (cell_of l) (subst (λ (c : ℕ). 0 < times c (cells_in n m.slot)) same (cell_in n i m.slot low)) mine;
      with_no_pass = λ p l' at busy same.
          let t = seat_of p (ap is_idle at ∙ busy) in
          let g = found seats t.0 l' (t.1 ∙ ap (λ (u : SeatLine T). some u) at) in
          let theirs : IsHeld held_cells (passes_of seats) (cell_of l) = record { pass = g.place; line = l'; at = g.there; has = has l' same } in
          let one : f.place ≡ g.place = once.one_hand (cell_of l) mine theirs in
          let both : l ≡ l' = some-injective l l' (sym f.there ∙ ap (get_elem? (passes_of seats)) one ∙ g.there) in
          false≢true (sym busy ∙ ap ring.is_idle (sym both) ∙ idle);
    })
      where
        once : NothingTwice n (cells T n laps passes) m (passes_of seats)
        once = nothing_twice k

        f : Found seats q l
        f = found seats q l e

        has : (l' : Line T) → cell_of l' ≡ cell_of l → 0 < times (cell_of l) (held_cells l')
        has l' same = subst (λ (c : ℕ). 0 < times (cell_of l) (c ∷ [])) (sym same) (omega (arith, times_here (cell_of l) []))

        mine : IsHeld held_cells (passes_of seats) (cell_of l)
        mine = record { pass = f.place; line = l; at = f.there; has = has l refl }
    free_good line seat_of o (Stock cs) e idle = absurd (false≢true idle)

  apart_good : (m : Memory T) (p : ℕ) (s : SeatLine T) (h : List (Event T)) (q : ℕ) → q ≢ p → own q ((core T n laps passes).adds m p s ++ h) ≡ own q h
  apart_good m p (At l) h q ne = ap (λ (es : List (Event T)). own q (es ++ h)) (does_alike memories (resting (cell_of l)) m p l (table n (2 * laps) l)).events ∙ step_apart n laps m p q ne h l
  apart_good m p (Stock cs) h q ne = refl

  effects_at : (o : Operation T) (m : Memory T) (s : SeatLine T) (p : PassView T) (begun h : List (Event T)) → DeedsAt n o p.number s begun p.seen → Saw h p → Adds (effect o p.number) p.number begun h ((core T n laps passes).adds m p.number s)
  effects_at o m (At l) p begun h d saw = subst (Adds (effect o p.number) p.number begun h) (sym (does_alike memories (resting (cell_of l)) m p.number l (table n (2 * laps) l)).events) (ring_effects n laps m p (call_of o) begun h l d saw)
  effects_at o m (Stock cs) p begun h d saw = tt

  first_deeds : (p : ℕ) (h : List (Event T)) (o : Operation T) (s : SeatLine T) → DeedsAt n o p (first o s) h h
  first_deeds p h o (At l) = begins n p h (cell_of l) (call_of o)
  first_deeds p h o (Stock cs) = tt

  tells_first : (h : List (Event T)) (o : Operation T) (s : SeatLine T) → TellsAt n laps h h (first o s)
  tells_first h o (At l) = first_tells n laps (cell_of l) (call_of o) h
  tells_first h o (Stock cs) = tt

  pub laws : Laws {T = T} names (core T n laps passes)
  laws = record {
    fresh = λ p. refl;
    stocked = let many = cells_many n passes in omega arith;
    gives_quiet = λ out s is more. given_quiet s;
    gives_stock = gives_stock passes;
    takes_stock = takes_stock passes;
    empty = λ s e. refl;
    begins = λ m s o idle. begins_good m s.lines s.history s.seat s.good o s.line s.here idle;
    quiets = λ m s idle. quiets_good m s.lines s.history s.seat s.good s.line s.here idle;
    kept = λ m t. kept_good m t.at.lines t.at.history t.at.seat t.at.good t.pass t.at.line t.at.here;
    reseats = λ m r. same_good m r.lines r.lines' r.history (shared_same r.lines r.lines' r.shared) r.good;
    legal = λ m of seats h k. legal_same (shape n laps) passes h k.told.legal;
    hands = λ m t. ap (λ (s : bounded.State T). s.hand t.pass) (state_same (shape n laps) passes t.at.history) ∙ t.at.good.told.hands t.pass;
    apart = λ m p s h q ne. apart_good m p s h q ne;
    deeds = λ o m s d. deeds_good m s.at.lines s.at.history s.at.seat s.at.good o s.at.line s.at.here s.pass s.begun s.saw d;
    tells = λ m s before t. tells_good m s.at.lines s.at.history s.at.seat s.at.good s.at.line s.at.here s.pass s.begun before s.saw t;
    first_deeds = first_deeds;
    first_tells = tells_first;
    unheld = λ m s p. unheld_good m s.lines s.history s.seat s.good p s.line s.here;
    free = λ m s o line idle seat_of. free_good m s.lines s.history s.seat s.good line seat_of o s.line s.here idle;
    effects = λ o m s d. effects_at o m s.at.line s.pass s.begun s.at.history d s.saw;
    does = λ words homes t sane. does n laps passes words homes sane t.pass t.at.lines t.at.history t.at.seat t.at.good t.at.line t.at.here;
  }

  -- with any rule of a client
  pub lawful : (rule : List (Event T) → Type 0) → IsTie rule → Lawful (ring_with T n laps passes rule)
  lawful rule tie = record { laws = laws; tie = tie }
