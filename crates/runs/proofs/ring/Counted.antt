-- The ring with a pool makes no fewer steps of a call than the ring, and others win no more exchanges meanwhile.
use Rattle.std.proofs.Common.{◌≡◌, ◌≢◌, ⊎_elim, ℕ, ◌+◌, ◌≤◌, not, Bool, true, false, cond, eqb, List, [], ◌∷◌, ◌++◌, refl, sym, ap, ◌∙◌, subst, arith}
use Rattle.std.proofs.lemmas.Bool.{false≢true}
use Rattle.std.proofs.lemmas.Bool.Decides.{eqb_tells}
use mathlib.Core.Option.{Option, none, some}
use lib.ListN.{get_elem?}
use Rattle.machine.specs.Bound.{is_busy, wins_at, counted, own_steps}
use Rattle.machine.specs.Progress.{others_win}
use Rattle.machine.specs.Schedule.{Act, Begin, Step, Schedule, having_begun, begun, acts_at, next, run}
use Rattle.machine.proofs.Scheduled.{set_same, set_other}
use Rattle.machine.proofs.Sums.{at_map}
use Rattle.ring_table.specs.declared.line.SeatLine.{SeatLine}
use Rattle.ring_table.specs.declared.line.SeatLine.TheVariants.{At, Stock}
use Rattle.ring_table.specs.Seats.{is_idle}
use Rattle.ring_machine.specs.Machine.{Memory}
use Rattle.runs.specs.ring.Machine.{From, Pass, State, cell_ring}
use Rattle.runs.specs.ring.Machine as on_seats
use Rattle.runs.proofs.ring.Pool.{PoolPass, PoolState, Goes, wins_in, waiting, pool_ring}
use Rattle.runs.proofs.ring.Follows.{goes, lift, twice, none_map, one_act}
use Rattle.runs.proofs.ring.Rings.{FreshFrom, Keeps, with_pool, kept_run}

more : (b b' : Bool) (k r r' : ℕ) → b' ≡ b → r ≤ r' → cond b (k + r) 0 ≤ cond b' (k + r') 0
more true true k r r' e le = omega (arith, le)
more false false k r r' e le = omega arith
more true false k r r' e le = absurd (false≢true e)
more false true k r r' e le = absurd (false≢true (sym e))

at_most : (b : Bool) (k r r' : ℕ) → k ≡ 0 → r ≤ r' → cond b (k + r) 0 ≤ r'
at_most true k r r' e le = omega (arith, e, le)
at_most false k r r' e le = omega arith

at_least : (b : Bool) (k r r' : ℕ) → (b ≡ false → r' ≡ 0) → r' ≤ r → r' ≤ cond b (k + r) 0
at_least true k r r' e le = omega (arith, le)
at_least false k r r' e le = omega (arith, e refl)

-- a begin counts for nothing
no_begin : (b : Bool) → cond {A = ℕ} b 0 0 ≡ 0
no_begin true = refl
no_begin false = refl

module _ {T : Type 0} (n laps passes q : ℕ) where
  -- how many steps q makes, and how many exchanges others win, in the ring and in the one with a pool
  abbrev mine : Schedule (From T) → State T → ℕ
  mine schedule s = own_steps (cell_ring n laps passes) q schedule s

  abbrev mine_in : Schedule (From T) → PoolState T → ℕ
  mine_in schedule s = own_steps (pool_ring waiting n laps passes) q schedule s

  abbrev others : Schedule (From T) → State T → ℕ
  others schedule s = others_win (cell_ring n laps passes) q schedule s

  abbrev others_in : Schedule (From T) → PoolState T → ℕ
  others_in schedule s = others_win (pool_ring waiting n laps passes) q schedule s

  abbrev busy : State T → Bool
  busy s = is_busy (cell_ring n laps passes) (get_elem? s.passes q)

  abbrev busy_in : PoolState T → Bool
  busy_in s = is_busy (pool_ring waiting n laps passes) (get_elem? s.passes q)

  same_busy : (s : State T) (free : List ℕ) → busy_in (lift free s) ≡ busy s
  same_busy s free = by_pass (get_elem? s.passes q) refl
    where
      by_pass : (o : Option (Pass T)) → get_elem? s.passes q ≡ o → busy_in (lift free s) ≡ is_busy (cell_ring n laps passes) o
      by_pass none e = ap (is_busy (pool_ring waiting n laps passes)) (none_map goes s.passes q e)
      by_pass (some v) e = ap (is_busy (pool_ring waiting n laps passes)) (at_map goes s.passes q v e)

  -- who is in no call makes no step of one, and nobody is counted against it
  none_mine : (schedule : Schedule (From T)) (s : PoolState T) → busy_in s ≡ false → mine_in schedule s ≡ 0
  none_mine [] s e = refl
  none_mine (a ∷ rest) s e = ap (λ (b : Bool). cond b (cond (eqb a.0 q) (counted (pool_ring waiting n laps passes) a.1) 0 + mine_in rest (next (pool_ring waiting n laps passes) s a)) 0) e

  none_others : (schedule : Schedule (From T)) (s : PoolState T) → busy_in s ≡ false → others_in schedule s ≡ 0
  none_others [] s e = refl
  none_others (a ∷ rest) s e = ap (λ (b : Bool). cond b (cond (eqb a.0 q) 0 (cond (wins_at (pool_ring waiting n laps passes) s.memory a.1 (get_elem? s.passes a.0)) 1 0) + others_in rest (next (pool_ring waiting n laps passes) s a)) 0) e

  -- One act, and what comes behind
  pub record Counts (s : State T) (free : List ℕ) (p : ℕ) (a : Act (From T)) (o : Option (Pass T)) (rest : Schedule (From T)) (end : PoolState T) : Type 0 where
    pub own : (r : ℕ) → r ≤ mine_in rest end → cond (busy s) (cond (eqb p q) (counted (cell_ring n laps passes) a) 0 + r) 0 ≤ mine_in (twice p a o ++ rest) (lift free s)
    pub wins : (r : ℕ) → others_in rest end ≤ r → others_in (twice p a o ++ rest) (lift free s) ≤ cond (busy s) (cond (eqb p q) 0 (cond (wins_at (cell_ring n laps passes) s.memory a o) 1 0) + r) 0

  -- an act that does nothing
  nothing : (s : State T) (free : List ℕ) (p : ℕ) (a : Act (From T)) (o : Option (Pass T)) (rest : Schedule (From T)) → (busy s ≡ true → cond (eqb p q) (counted (cell_ring n laps passes) a) 0 ≡ 0)
      → (r : ℕ) → r ≤ mine_in rest (lift free s) → cond (busy s) (cond (eqb p q) (counted (cell_ring n laps passes) a) 0 + r) 0 ≤ mine_in rest (lift free s)
  nothing s free p a o rest none_own r le = by_test (busy s) none_own
    where
      by_test : (b : Bool) → (b ≡ true → cond (eqb p q) (counted (cell_ring n laps passes) a) 0 ≡ 0) → cond b (cond (eqb p q) (counted (cell_ring n laps passes) a) 0 + r) 0 ≤ mine_in rest (lift free s)
      by_test true e = omega (arith, e refl, le)
      by_test false e = omega arith

  nothing_won : (s : State T) (free : List ℕ) (k : ℕ) (rest : Schedule (From T)) (r : ℕ) → others_in rest (lift free s) ≤ r → others_in rest (lift free s) ≤ cond (busy s) (k + r) 0
  nothing_won s free k rest r le = at_least (busy s) k r (others_in rest (lift free s)) (λ e. none_others rest (lift free s) (same_busy s free ∙ e)) le

  none_counts : (s : State T) (free : List ℕ) (p : ℕ) (a : Act (From T)) (rest : Schedule (From T)) → get_elem? s.passes p ≡ none → Counts s free p a none rest (lift free s)
  none_counts s free p a rest at = record {
    own = nothing s free p a none rest (λ b. ⊎_elim (λ t. absurd (false≢true (sym (ap (is_busy (cell_ring n laps passes)) (ap (get_elem? s.passes) (sym t.1) ∙ at)) ∙ b))) (λ t. ap (λ (c : Bool). cond c (counted (cell_ring n laps passes) a) 0) t.0) (eqb_tells p q));
    wins = nothing_won s free (cond (eqb p q) 0 (cond (wins_at (cell_ring n laps passes) s.memory a none) 1 0)) rest;
  }

  same_wins : (m : Memory T) (free : List ℕ) (l : SeatLine T) → wins_in (record { memory = m; free = free }) (Goes l) ≡ on_seats.wins_at m l
  same_wins m free (At l) = refl
  same_wins m free (Stock cs) = refl

  step_counts : (s : State T) (free : List ℕ) (p : ℕ) (v : Pass T) (rest : Schedule (From T)) → get_elem? s.passes p ≡ some v → Counts s free p Step (some v) rest (next (pool_ring waiting n laps passes) (lift free s) (p, Step))
  step_counts s free p v rest at =
      let end : PoolState T = next (pool_ring waiting n laps passes) (lift free s) (p, Step) in
      let won : wins_at (pool_ring waiting n laps passes) (lift free s).memory Step (get_elem? (lift free s).passes p) ≡ on_seats.wins_at s.memory v.line =
      ap (wins_at (pool_ring waiting n laps passes) (lift free s).memory Step) (at_map goes s.passes p v at) ∙ same_wins s.memory free v.line in
      record {
        own = λ r le. more (busy s) (busy_in (lift free s)) (cond (eqb p q) 1 0) r (mine_in rest end) (same_busy s free) le;
        wins = λ r le. subst (λ (w : Bool). cond (busy_in (lift free s)) (cond (eqb p q) 0 (cond w 1 0) + others_in rest end) 0 ≤ cond (busy s) (cond (eqb p q) 0 (cond (on_seats.wins_at s.memory v.line) 1 0) + r) 0) (sym won)
            (more (busy_in (lift free s)) (busy s) (cond (eqb p q) 0 (cond (on_seats.wins_at s.memory v.line) 1 0)) (others_in rest end) r (sym (same_busy s free)) le);
      }

  -- a begin: by two acts, neither a step of a call that q is in, nor one that wins
  module _ (s : State T) (free : List ℕ) (p : ℕ) (v : Pass T) (rest : Schedule (From T)) (at : get_elem? s.passes p ≡ some v) (from : From T) where
    abbrev y : PoolState T
    y = lift free s

    abbrev u : PoolPass T
    u = having_begun (pool_ring waiting n laps passes) y (goes v) from

    abbrev y1 : PoolState T
    y1 = begun (pool_ring waiting n laps passes) y p (goes v) from

    abbrev y2 : PoolState T
    y2 = next (pool_ring waiting n laps passes) y1 (p, Step)

    -- the pool's machine after both
    module _ (idle : is_idle v.line ≡ true) where
      first_is : next (pool_ring waiting n laps passes) y (p, Begin from) ≡ y1
      first_is = ap (acts_at (pool_ring waiting n laps passes) y p (Begin from)) (at_map goes s.passes p v at) ∙ ap (λ (b : Bool). cond b y1 y) idle

      not_mine : busy s ≡ true → p ≢ q
      not_mine b same = false≢true (sym (ap (is_busy (cell_ring n laps passes)) (ap (get_elem? s.passes) (sym same) ∙ at) ∙ ap not idle) ∙ b)

      still : busy s ≡ true → busy_in y1 ≡ true
      still b = ap (is_busy (pool_ring waiting n laps passes)) (set_other y.passes p q u (not_mine b)) ∙ same_busy s free ∙ b

      no_win : wins_at (pool_ring waiting n laps passes) y1.memory Step (get_elem? y1.passes p) ≡ false
      no_win = ap (wins_at (pool_ring waiting n laps passes) y1.memory Step) (set_same y.passes p (goes v) u (at_map goes s.passes p v at))

      abbrev both : Schedule (From T)
      both = (p, Begin from) ∷ (p, Step) ∷ rest

      second_own : ℕ
      second_own = cond (busy_in y1) (cond (eqb p q) 1 0 + mine_in rest y2) 0

      own_is : mine_in both y ≡ cond (busy_in y) (cond (eqb p q) 0 0 + cond (busy_in y1) (cond (eqb p q) 1 0 + mine_in rest y2) 0) 0
      own_is = ap (λ (z : PoolState T). cond (busy_in y) (cond (eqb p q) 0 0 + cond (busy_in z) (cond (eqb p q) 1 0 + mine_in rest (next (pool_ring waiting n laps passes) z (p, Step))) 0) 0) first_is

      wins_is : others_in both y ≡ cond (busy_in y) (cond (eqb p q) 0 0 + cond (busy_in y1) (cond (eqb p q) 0 (cond (wins_at (pool_ring waiting n laps passes) y1.memory Step (get_elem? y1.passes p)) 1 0) + others_in rest y2) 0) 0
      wins_is = ap (λ (z : PoolState T). cond (busy_in y) (cond (eqb p q) 0 0 + cond (busy_in z) (cond (eqb p q) 0 (cond (wins_at (pool_ring waiting n laps passes) z.memory Step (get_elem? z.passes p)) 1 0) + others_in rest (next (pool_ring waiting n laps passes) z (p, Step))) 0) 0) first_is

      begin_own : (r : ℕ) → r ≤ mine_in rest y2 → cond (busy s) (cond (eqb p q) 0 0 + r) 0 ≤ mine_in both y
      begin_own r le = omega (arith, own_is, by_test (busy s) refl)
        where
          by_test : (b : Bool) → busy s ≡ b → cond b (cond (eqb p q) 0 0 + r) 0 ≤ cond (busy_in y) (cond (eqb p q) 0 0 + cond (busy_in y1) (cond (eqb p q) 1 0 + mine_in rest y2) 0) 0
          by_test false b = omega arith
          by_test true b = omega (
            arith,
            le,
            no_begin (eqb p q),
            ap (λ (c : Bool). cond c (cond (eqb p q) 0 0 + cond (busy_in y1) (cond (eqb p q) 1 0 + mine_in rest y2) 0) 0) (same_busy s free ∙ b),
            ap (λ (c : Bool). cond c (cond (eqb p q) 1 0 + mine_in rest y2) 0) (still b),
          )

      begin_wins : (r : ℕ) → others_in rest y2 ≤ r → others_in both y ≤ cond (busy s) (cond (eqb p q) 0 0 + r) 0
      begin_wins r le = omega (arith, wins_is, by_test (busy s) refl)
        where
          by_test : (b : Bool) → busy s ≡ b
              → cond (busy_in y) (cond (eqb p q) 0 0 + cond (busy_in y1) (cond (eqb p q) 0 (cond (wins_at (pool_ring waiting n laps passes) y1.memory Step (get_elem? y1.passes p)) 1 0) + others_in rest y2) 0) 0 ≤ cond b (cond (eqb p q) 0 0 + r) 0
          by_test false b = omega (
            arith,
            ap (λ (c : Bool). cond c (cond (eqb p q) 0 0 + cond (busy_in y1) (cond (eqb p q) 0 (cond (wins_at (pool_ring waiting n laps passes) y1.memory Step (get_elem? y1.passes p)) 1 0) + others_in rest y2) 0) 0) (same_busy s free ∙ b),
          )
          by_test true b = omega (
            arith,
            le,
            no_begin (eqb p q),
            ap (λ (c : Bool). cond c (cond (eqb p q) 0 0 + cond (busy_in y1) (cond (eqb p q) 0 (cond (wins_at (pool_ring waiting n laps passes) y1.memory Step (get_elem? y1.passes p)) 1 0) + others_in rest y2) 0) 0) (same_busy s free ∙ b),
            ap (λ (c : Bool). cond c (cond (eqb p q) 0 (cond (wins_at (pool_ring waiting n laps passes) y1.memory Step (get_elem? y1.passes p)) 1 0) + others_in rest y2) 0) (still b),
            ap {B = ℕ} (λ (c : Bool). cond (eqb p q) 0 (cond c 1 0)) no_win,
          )

    abbrev acts_of : Bool → Schedule (From T)
    acts_of b = cond b ((p, Begin from) ∷ (p, Step) ∷ []) []

    -- both parts of `Counts`, by the test that `twice` makes
    abbrev Own : Bool → Type 0
    Own b = (r : ℕ) → r ≤ mine_in rest (run (pool_ring waiting n laps passes) (acts_of b) y) → cond (busy s) (cond (eqb p q) 0 0 + r) 0 ≤ mine_in (acts_of b ++ rest) y

    abbrev Wins : Bool → Type 0
    Wins b = (r : ℕ) → others_in rest (run (pool_ring waiting n laps passes) (acts_of b) y) ≤ r → others_in (acts_of b ++ rest) y ≤ cond (busy s) (cond (eqb p q) 0 0 + r) 0

    -- the end of a begin, which does something or nothing
    begin_counts : Counts s free p (Begin from) (some v) rest (run (pool_ring waiting n laps passes) (twice p (Begin from) (some v)) y)
    begin_counts = by_test (is_idle v.line) refl
      where
        by_test : (b : Bool) → is_idle v.line ≡ b → Counts s free p (Begin from) (some v) rest (run (pool_ring waiting n laps passes) (twice p (Begin from) (some v)) y)
        by_test true idle = record {
          own = subst Own (sym idle) (λ r le. begin_own idle r (subst (λ (z : PoolState T). r ≤ mine_in rest (next (pool_ring waiting n laps passes) z (p, Step))) (first_is idle) le));
          wins = subst Wins (sym idle) (λ r le. begin_wins idle r (subst (λ (z : PoolState T). others_in rest (next (pool_ring waiting n laps passes) z (p, Step)) ≤ r) (first_is idle) le));
        }
        by_test false idle = record {
          own = subst Own (sym idle) (nothing s free p (Begin from) (some v) rest (λ b. no_begin (eqb p q)));
          wins = subst Wins (sym idle) (nothing_won s free (cond (eqb p q) 0 0) rest);
        }

  act_counts : (s : State T) (free : List ℕ) (p : ℕ) (a : Act (From T)) (o : Option (Pass T)) (rest : Schedule (From T)) → get_elem? s.passes p ≡ o → Counts s free p a o rest (run (pool_ring waiting n laps passes) (twice p a o) (lift free s))
  act_counts s free p a none rest at = none_counts s free p a rest at
  act_counts s free p Step (some v) rest at = step_counts s free p v rest at
  act_counts s free p (Begin from) (some v) rest at = begin_counts s free p v rest at from

  -- a whole schedule
  pub record Compared (schedule : Schedule (From T)) (s : State T) (free : List ℕ) : Type 0 where
    pub own : mine schedule s ≤ mine_in (with_pool n laps passes schedule s) (lift free s)
    pub wins : others_in (with_pool n laps passes schedule s) (lift free s) ≤ others schedule s

  pub compared : (schedule : Schedule (From T)) (s : State T) (free : List ℕ) → Keeps n laps passes (lift free s) → FreshFrom n laps passes schedule s → Compared schedule s free
  compared [] s free k fresh = record { own = omega arith; wins = omega arith }
  compared (a ∷ later) s free k fresh =
      let o = one_act waiting n laps passes s free a.0 a.1 (get_elem? s.passes a.0) k.rule refl fresh.0 in
      let first : Schedule (From T) = twice a.0 a.1 (get_elem? s.passes a.0) in
      let s' : State T = next (cell_ring n laps passes) s a in
      let rest : Schedule (From T) = with_pool n laps passes later s' in
      let r = compared later s' o.free' (subst (Keeps n laps passes) o.ends (kept_run n laps passes first (lift free s) k)) fresh.1 in
      let c = act_counts s free a.0 a.1 (get_elem? s.passes a.0) rest refl in
      record {
        own = c.own (mine later s') (subst (λ (z : PoolState T). mine later s' ≤ mine_in rest z) (sym o.ends) r.own);
        wins = c.wins (others later s') (subst (λ (z : PoolState T). others_in rest z ≤ others later s') (sym o.ends) r.wins);
      }
