-- The cells that are free, as passes that rest with them: one is taken out, or laid back.
use Rattle.std.proofs.Common.{◌≡◌, ℕ, zero, suc, ◌+◌, ◌<◌, ⊎_elim, Bool, true, false, cond, eqb, List, [], ◌∷◌, set, refl, sym, ap, ◌∙◌, subst, arith}
use Rattle.std.proofs.lemmas.Bool.Decides.{eqb_tells}
use mathlib.Core.Option.{none, some, some-injective, some-ne-none}
use lib.ListN.{get_elem?}
use Rattle.machine.specs.Words.{times, total}
use Rattle.machine.proofs.Sums.{total_set, at_set}
use Rattle.ring_machine.specs.declared.lines.Line.{Line}
use Rattle.ring_machine.specs.Machine.{held_cells, resting}
use Rattle.ring_table.specs.declared.line.SeatLine.{SeatLine}
use Rattle.ring_table.specs.declared.line.SeatLine.TheVariants.{At, Stock}
use Rattle.ring_table.specs.Seats.{each_resting, passes_at, passes_of}
use Rattle.ring_table.proofs.Seats.{among, at_seat, sum_at, total_passes, Same}
use Rattle.runs.proofs.ring.Pool.{without}

without_here : (c d : ℕ) (ds : List ℕ) → eqb c d ≡ true → without c (d ∷ ds) ≡ ds
without_here c d ds e = ap (λ (b : Bool). cond b ds (d ∷ without c ds)) e

without_else : (c d : ℕ) (ds : List ℕ) → eqb c d ≡ false → without c (d ∷ ds) ≡ d ∷ without c ds
without_else c d ds e = ap (λ (b : Bool). cond b ds (d ∷ without c ds)) e

-- c is not the first, so it is behind
behind : (c d : ℕ) (ds : List ℕ) → eqb c d ≡ false → 0 < times c (d ∷ ds) → 0 < times c ds
behind c d ds e h = omega (arith, h, ap {B = ℕ} (λ (b : Bool). cond b 1 0) e)

pub count_free : (T : Type 0) (c : ℕ) (ds : List ℕ) → total (λ (l : Line T). times c (held_cells l)) (each_resting ds) ≡ times c ds
count_free T c [] = refl
count_free T c (d ∷ ds) = omega (arith, count_free T c ds)

module _ {T : Type 0} where
  none_there : (l : Line T) → none ≡ some l → ⊥
  none_there l e = some-ne-none l (sym e)

  abbrev Is : List ℕ → Line T → Type 0
  Is ds l = (r : ℕ) × (get_elem? (each_resting ds) r ≡ some l)

  total_without : (f : Line T → ℕ) (c : ℕ) (ds : List ℕ) → 0 < times c ds → total f (each_resting ds) ≡ f (resting c) + total f (each_resting (without c ds))
  total_without f c [] h = absurd (omega (arith, h))
  total_without f c (d ∷ ds) h = ⊎_elim
      (λ t. omega (arith, ap (λ (xs : List ℕ). total f (each_resting xs)) (without_here c d ds t.0), ap (λ (k : ℕ). f (resting k)) t.1))
      (λ t. omega (arith, ap (λ (xs : List ℕ). total f (each_resting xs)) (without_else c d ds t.0), total_without f c ds (behind c d ds t.0 h)))
      (eqb_tells c d)

  -- what is left was there
  from_without : (c : ℕ) (ds : List ℕ) (q : ℕ) (l : Line T) → get_elem? (each_resting (without c ds)) q ≡ some l → Is ds l
  from_without c [] q l e = (q, e)
  from_without c (d ∷ ds) q l e = ⊎_elim
      (λ t. (suc q, subst (λ (xs : List ℕ). get_elem? (each_resting xs) q ≡ some l) (without_here c d ds t.0) e))
      (λ t. left q (λ k. from_without c ds k l) (subst (λ (xs : List ℕ). get_elem? (each_resting xs) q ≡ some l) (without_else c d ds t.0) e))
      (eqb_tells c d)
    where
      left : (q : ℕ) → ((k : ℕ) → get_elem? (each_resting (without c ds)) k ≡ some l → Is ds l) → get_elem? (each_resting (d ∷ without c ds)) q ≡ some l → Is (d ∷ ds) l
      left zero behind_it e = (0, e)
      left (suc q) behind_it e = let r = behind_it q e in (suc r.0, r.1)

  is_there : (c : ℕ) (ds : List ℕ) → 0 < times c ds → Is ds (resting c)
  is_there c [] h = absurd (omega (arith, h))
  is_there c (d ∷ ds) h = ⊎_elim
      (λ t. (0, ap (λ (k : ℕ). some (resting k)) (sym t.1)))
      (λ t. let r = is_there c ds (behind c d ds t.0 h) in (suc r.0, r.1))
      (eqb_tells c d)

  -- a sum over the passes of a stock and of other seats
  pub sum_seats : (f : Line T → ℕ) (free : List ℕ) (seats : List (SeatLine T)) → total f (passes_of (Stock free ∷ seats)) ≡ total f (each_resting free) + total (sum_at f) seats
  sum_seats f free seats = total_passes f (Stock free ∷ seats)

  -- a seat with no pass takes a cell out of the stock
  pub taken_out : (free : List ℕ) (seats : List (SeatLine T)) (p c : ℕ) → 0 < times c free → get_elem? seats p ≡ some (Stock [])
      → Same (Stock free ∷ seats) (Stock (without c free) ∷ set seats p (At (resting c)))
  taken_out free seats p c h e = record {
    sums = λ f. omega (
      arith,
      sum_seats f free seats,
      sum_seats f (without c free) (set seats p (At (resting c))),
      total_without f c free h,
      total_set (sum_at f) seats p (Stock []) (At (resting c)) e,
    );
    from = λ q l at. let a = among (Stock (without c free) ∷ set seats p (At (resting c))) q l at in from_seat a.seat a.at a.place l a.there a.here;
  }
    where
      only : (i : ℕ) (l : Line T) → get_elem? (resting c ∷ []) i ≡ some l → resting c ≡ l
      only zero l e = some-injective (resting c) l e
      only (suc i) l e = absurd (none_there l e)

      from_seat : (j : ℕ) (s : SeatLine T) (i : ℕ) (l : Line T) → get_elem? (Stock (without c free) ∷ set seats p (At (resting c))) j ≡ some s → get_elem? (passes_at s) i ≡ some l
          → (r : ℕ) × (get_elem? (passes_of (Stock free ∷ seats)) r ≡ some l)
      from_seat zero s i l there here =
          let r = from_without c free i l (subst (λ (u : SeatLine T). get_elem? (passes_at u) i ≡ some l) (sym (some-injective (Stock (without c free)) s there)) here) in
          at_seat (Stock free ∷ seats) l 0 (Stock free) r.0 refl r.1
      from_seat (suc j) s i l there here = ⊎_elim
          (λ t. let same = only i l (subst (λ (u : SeatLine T). get_elem? (passes_at u) i ≡ some l) (sym t.1) here) in
          let r = is_there c free h in at_seat (Stock free ∷ seats) l 0 (Stock free) r.0 refl (r.1 ∙ ap some same))
          (λ t. at_seat (Stock free ∷ seats) l (suc j) s i t.1 here)
          (at_set seats p j (At (resting c)) s there)

  -- and lays one back
  pub laid_back : (free : List ℕ) (seats : List (SeatLine T)) (p c : ℕ) → get_elem? seats p ≡ some (At (resting c)) → Same (Stock free ∷ seats) (Stock (c ∷ free) ∷ set seats p (Stock []))
  laid_back free seats p c e = record {
    sums = λ f. omega (
      arith,
      sum_seats f free seats,
      sum_seats f (c ∷ free) (set seats p (Stock [])),
      total_set (sum_at f) seats p (At (resting c)) (Stock []) e,
    );
    from = λ q l at. let a = among (Stock (c ∷ free) ∷ set seats p (Stock [])) q l at in from_seat a.seat a.at a.place l a.there a.here;
  }
    where
      in_stock : (i : ℕ) (l : Line T) → get_elem? (each_resting (c ∷ free)) i ≡ some l → (r : ℕ) × (get_elem? (passes_of (Stock free ∷ seats)) r ≡ some l)
      in_stock zero l here = at_seat (Stock free ∷ seats) l (suc p) (At (resting c)) 0 e here
      in_stock (suc i) l here = at_seat (Stock free ∷ seats) l 0 (Stock free) i refl here

      none_at : (i : ℕ) (l : Line T) (s : SeatLine T) → Stock [] ≡ s → get_elem? (passes_at s) i ≡ some l → ⊥
      none_at i l s same here = none_there l (subst (λ (u : SeatLine T). get_elem? (passes_at u) i ≡ some l) (sym same) here)

      from_seat : (j : ℕ) (s : SeatLine T) (i : ℕ) (l : Line T) → get_elem? (Stock (c ∷ free) ∷ set seats p (Stock [])) j ≡ some s → get_elem? (passes_at s) i ≡ some l
          → (r : ℕ) × (get_elem? (passes_of (Stock free ∷ seats)) r ≡ some l)
      from_seat zero s i l there here = in_stock i l (subst (λ (u : SeatLine T). get_elem? (passes_at u) i ≡ some l) (sym (some-injective (Stock (c ∷ free)) s there)) here)
      from_seat (suc j) s i l there here = ⊎_elim
          (λ t. absurd (none_at i l s t.1 here))
          (λ t. at_seat (Stock free ∷ seats) l (suc j) s i t.1 here)
          (at_set seats p j (Stock []) s there)
