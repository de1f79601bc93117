-- The steps of a pass in a call that goes on are all of that call.
use Rattle.std.proofs.Common.{◌≡◌, ◌≢◌, ℕ, ◌+◌, ◌==◌, ⊎_elim, Bool, true, false, not, cond, [], ◌∷◌, ◌++◌, refl, sym, ap, ◌∙◌, subst, eq-eqb, ne_eqb, arith}
use Rattle.std.proofs.lemmas.Bool.{false≢true}
use Rattle.std.proofs.lemmas.Bool.Decides.{eqb_tells}
use mathlib.Core.Option.{Option, none, some}
use lib.ListN.{get_elem?}
use Rattle.machine.specs.Seats.{Acts}
use Rattle.machine.specs.Schedule.{Machine, Pass, State, Act, Begin, Step, Schedule, having_begun, having_stepped, begun, stepped, acts_at, next, run}
use Rattle.machine.specs.Bound.{is_busy, counted, own_steps}
use Rattle.machine.proofs.Tests.{cases}
use Rattle.machine.proofs.Scheduled.{set_other}
use Rattle.running.specs.Acts.{Doing, Begins, Steps, Looks, Hears, sum_of}
use Rattle.runs.specs.Runs.{one, schedule_of}

abbrev pub begun_by : {C : Type 0} → Act C → ℕ
begun_by (Begin call) = 1
begun_by Step = 0

module _ {M L C E : Type 0} (x : Machine M L C E) (p : ℕ) where
  abbrev pub sum_by : (Act C → ℕ) → Schedule C → ℕ
  sum_by f [] = 0
  sum_by f (a ∷ more) = cond (a.0 == p) (f a.1) 0 + sum_by f more

  abbrev pub busy : State M L C E → Bool
  busy s = is_busy x (get_elem? s.passes p)

  pub same_there : (s : State M L C E) (q : ℕ) (a : Act C) → q ≢ p → (o : Option (Pass L C E)) → get_elem? (acts_at x s q a o).passes p ≡ get_elem? s.passes p
  same_there s q a ne none = refl
  same_there s q (Begin call) ne (some v) = cases (λ (z : State M L C E). get_elem? z.passes p ≡ get_elem? s.passes p) (x.is_idle v.line) (begun x s q v call) s (λ _. set_other s.passes q p (having_begun x s v call) ne) (λ _. refl)
  same_there s q Step ne (some v) = cases (λ (z : State M L C E). get_elem? z.passes p ≡ get_elem? s.passes p) (x.is_idle v.line) s (stepped x s q v (x.step s.memory q v.line)) (λ _. refl) (λ _. set_other s.passes q p (having_stepped x s v (x.step s.memory q v.line)) ne)

  not_false : (b : Bool) → not b ≡ false → b ≡ true
  not_false true e = refl
  not_false false e = absurd (false≢true (sym e))

  idle_step : (s : State M L C E) (o : Option (Pass L C E)) → is_busy x o ≡ false → acts_at x s p Step o ≡ s
  idle_step s none e = refl
  idle_step s (some v) e = ap (λ (b : Bool). cond b s (stepped x s p v (x.step s.memory p v.line))) (not_false (x.is_idle v.line) e)

  -- who is in no call stays so, but for a begin
  one_idle : (s : State M L C E) (q : ℕ) (a : Act C) → busy s ≡ false → cond (q == p) (begun_by a) 0 ≡ 0 → busy (next x s (q, a)) ≡ false
  one_idle s q a e none_begun = ⊎_elim
      (λ t. mine a (ap (λ (b : Bool). cond b (begun_by a) 0) (sym t.0) ∙ none_begun) t.1)
      (λ t. ap (is_busy x) (same_there s q a t.1 (get_elem? s.passes q)) ∙ e)
      (eqb_tells q p)
    where
      mine : (a : Act C) → begun_by a ≡ 0 → q ≡ p → busy (next x s (q, a)) ≡ false
      mine (Begin call) none_is same = absurd (omega (arith, none_is))
      mine Step none_is same = subst (λ (k : ℕ). busy (next x s (k, Step)) ≡ false) (sym same) (ap (λ (z : State M L C E). busy z) (idle_step s (get_elem? s.passes p) e) ∙ e)

  idle_stays : (schedule : Schedule C) (s : State M L C E) → busy s ≡ false → sum_by begun_by schedule ≡ 0 → busy (run x schedule s) ≡ false
  idle_stays [] s e none_begun = e
  idle_stays (a ∷ more) s e none_begun = idle_stays more (next x s a) (one_idle s a.0 a.1 e (omega (arith, none_begun))) (omega (arith, none_begun))

  -- in a schedule at whose end p is in a call, and in which it begins none, its steps are all of that call
  pub all_own : (schedule : Schedule C) (s : State M L C E) → busy (run x schedule s) ≡ true → sum_by begun_by schedule ≡ 0 → own_steps x p schedule s ≡ sum_by (counted x) schedule
  all_own [] s e none_begun = refl
  all_own (a ∷ more) s e none_begun = by_test (busy s) refl (all_own more (next x s a) e (omega (arith, none_begun)))
    where
      by_test : (b : Bool) → busy s ≡ b → own_steps x p more (next x s a) ≡ sum_by (counted x) more
          → cond b (cond (a.0 == p) (counted x a.1) 0 + own_steps x p more (next x s a)) 0 ≡ cond (a.0 == p) (counted x a.1) 0 + sum_by (counted x) more
      by_test true b rest = ap (λ (k : ℕ). cond (a.0 == p) (counted x a.1) 0 + k) rest
      by_test false b rest = absurd (false≢true (sym (idle_stays (a ∷ more) s b none_begun) ∙ e))

  -- an act of another pass at the end counts nothing
  none_more : (b : Bool) → cond b (0 + 0) 0 ≡ 0
  none_more true = refl
  none_more false = refl

  pub own_others : (xs : Schedule C) (q : ℕ) (a : Act C) (s : State M L C E) → q ≢ p → own_steps x p (xs ++ (q, a) ∷ []) s ≡ own_steps x p xs s
  own_others [] q a s ne = rw (ne_eqb q p ne) (none_more (busy s))
  own_others (b ∷ xs) q a s ne = ap (λ (k : ℕ). cond (busy s) (cond (b.0 == p) (counted x b.1) 0 + k) 0) (own_others xs q a (next x s b) ne)

  -- a step of p at the end, in a call, is of that call
  pub own_one : (xs : Schedule C) (s : State M L C E) → busy (run x xs s) ≡ true → sum_by begun_by xs ≡ 0 → own_steps x p (xs ++ (p, Step) ∷ []) s ≡ own_steps x p xs s + 1
  own_one [] s e none_begun = let here : is_busy x (get_elem? s.passes p) ≡ true = e in rw (here, eq-eqb p p refl) refl
  own_one (a ∷ xs) s e none_begun = by_test (busy s) refl (own_one xs (next x s a) e (omega (arith, none_begun)))
    where
      by_test : (b : Bool) → busy s ≡ b → own_steps x p (xs ++ (p, Step) ∷ []) (next x s a) ≡ own_steps x p xs (next x s a) + 1
          → cond b (cond (a.0 == p) (counted x a.1) 0 + own_steps x p (xs ++ (p, Step) ∷ []) (next x s a)) 0 ≡ cond b (cond (a.0 == p) (counted x a.1) 0 + own_steps x p xs (next x s a)) 0 + 1
      by_test true b rest = omega (arith, rest)
      by_test false b rest = absurd (false≢true (sym (idle_stays (a ∷ xs) s b none_begun) ∙ e))

  sum_append : (f : Act C → ℕ) (xs ys : Schedule C) → sum_by f (xs ++ ys) ≡ sum_by f xs + sum_by f ys
  sum_append f [] ys = omega arith
  sum_append f (a ∷ xs) ys = let r = sum_append f xs ys in omega arith

  -- and they are the steps among the acts
  module _ (call_at : L → C) (f : Act C → ℕ) (g : Doing L → ℕ) (begins : (first : L) → f (Begin (call_at first)) ≡ g (Begins first)) (steps : f Step ≡ g Steps) (looks : g Looks ≡ 0) (hears : g Hears ≡ 0) where
    same_test : (q : ℕ) (k : ℕ) → cond (q == p) k 0 ≡ cond (p == q) k 0
    same_test q k = ⊎_elim
        (λ t. ap (λ (b : Bool). cond b k 0) (t.0 ∙ sym (eq-eqb p q (sym t.1))))
        (λ t. ap (λ (b : Bool). cond b k 0) (t.0 ∙ sym (ne_eqb p q (λ e. t.1 (sym e)))))
        (eqb_tells q p)

    nothing : (b : Bool) (k : ℕ) → k ≡ 0 → 0 ≡ cond b k 0
    nothing true k e = sym e
    nothing false k e = refl

    one_same : (q : ℕ) (d : Doing L) → sum_by f (one call_at q d) ≡ cond (p == q) (g d) 0
    one_same q (Begins first) = let e = same_test q (f (Begin (call_at first))) in let e' = ap (λ (k : ℕ). cond (p == q) k 0) (begins first) in omega (arith, e, e')
    one_same q Steps = let e = same_test q (f Step) in let e' = ap (λ (k : ℕ). cond (p == q) k 0) steps in omega (arith, e, e')
    one_same q Looks = nothing (p == q) (g Looks) looks
    one_same q Hears = nothing (p == q) (g Hears) hears

    pub sums_same : (done : Acts L) → sum_by f (schedule_of call_at done) ≡ sum_of g p done
    sums_same [] = refl
    sums_same (a ∷ older) =
        let e = sum_append f (schedule_of call_at older) (one call_at a.0 a.1) in
        let e' = one_same a.0 a.1 in
        let r = sums_same older in
        omega arith
