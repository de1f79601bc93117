-- All passes of a ring have made no more steps together than their calls cost.
use Rattle.std.proofs.Common.{◌≡◌, ◌<◌, ◌≤◌, ℕ, suc, ◌+◌, ◌*◌, ◌-◌, Bool, true, false, cond, List, [], ◌∷◌, ◌++◌, map, refl, sym, ap, ◌∙◌, subst, arith}
use Rattle.std.proofs.lemmas.List.{map-set}
use mathlib.Core.Option.{Option, none, some}
use lib.ListN.{get_elem?}
use Rattle.bounded_model.specs.declared.views.RootView.{RootView}
use Rattle.bounded_model.specs.Laws.{IsSound, NoneOut}
use Rattle.machine.specs.Progress.{steps_made, calls_ended, calls_cost, in_call, AtOnce}
use Rattle.machine.specs.Schedule.{Act, Begin, Step, Schedule, having_begun, begun, acts_at, next, run, start}
use Rattle.machine.specs.Words.{total}
use Rattle.machine.proofs.Paying.{all_paid}
use Rattle.machine.proofs.Scheduled.{run_kept, start_at}
use Rattle.machine.proofs.Stories.{rule_holds}
use Rattle.machine.proofs.Sums.{at_map, total_set}
use Rattle.ring_machine.specs.Machine.{cell_of}
use Rattle.ring_machine.specs.Machine as ring
use Rattle.ring_table.specs.declared.line.SeatLine.{SeatLine}
use Rattle.ring_table.specs.declared.line.SeatLine.TheVariants.{At, Stock}
use Rattle.ring_table.specs.Seats.{is_idle, cells_from}
use Rattle.ring_table.specs.Core.{ring_on, shape_for}
use Rattle.ring_table.proofs.Seats.{sum_at}
use Rattle.running.specs.Ends.{IsRun}
use Rattle.runs.specs.Runs.{Below, schedule_of}
use Rattle.runs.specs.Work.{in_all, is_look, IsPaid}
use Rattle.runs.proofs.Costs.{no_looks}
use Rattle.runs.proofs.Work.{below, is_paid}
use Rattle.step_core.specs.ring.Costs.{cost}
use Rattle.ring_machine.specs.declared.lines.Line.{Line}
use Rattle.runs.specs.ring.Machine.{From, Pass, State, cell_ring, starts}
use Rattle.runs.specs.ring.Bounded.{call_in, call_at}
use Rattle.runs.specs.ring.Work.{fee, TotalWork}
use Rattle.runs.proofs.ring.AtOnce.{few_seats}
use Rattle.runs.proofs.ring.Fees.{fee_small, worth}
use Rattle.runs.proofs.ring.Pool.{PoolPass, PoolState, Goes, idle_in, waiting, giving_up, pool_ring}
use Rattle.runs.proofs.ring.PoolRule.{counts, first_busy, pool_stays}
use Rattle.runs.proofs.ring.Follows.{goes, lift, twice, from_map, Kept, one_act, start_is}
use Rattle.runs.proofs.ring.Rings.{FreshFrom, with_pool, fresh_all}
use Rattle.runs.proofs.ring.Paid.{IsPass, alone_in, harms_in, weighed, priced, harmed, RuleOf, NoStory, Holding, told, pays, steps_in, costs_in, price_of, one_each, act_sums}
use Rattle.runs.proofs.ring.Running.{running}

module _ {T : Type 0} where
  abbrev one : Line T → ℕ
  one l = 1

  -- a pass in an operation is one that counts
  busy_one : (l : SeatLine T) → IsPass (Goes l) → cond (idle_in (Goes l)) 0 1 ≡ sum_at one (counts (Goes l))
  busy_one (At l) is = by_test (ring.is_idle l)
    where
      by_test : (b : Bool) → cond b 0 1 ≡ sum_at one (cond b (Stock []) (At l))
      by_test true = refl
      by_test false = refl
  busy_one (Stock cs) is = absurd is

  busy_sum : (vs : List (Pass T)) → ((q : ℕ) (v : Pass T) → get_elem? vs q ≡ some v → IsPass (Goes v.line))
      → total (λ (v : PoolPass T). cond (idle_in v.line) 0 1) (map goes vs) ≡ total (sum_at one) (map counts (map (λ (v : PoolPass T). v.line) (map goes vs)))
  busy_sum [] all = refl
  busy_sum (v ∷ vs) all = omega (arith, busy_one v.line (all 0 v refl), busy_sum vs (λ q u at. all (suc q) u at))

module _ {T : Type 0} (n laps passes : ℕ) where
  -- the passes of the ring are at lines of passes
  passes_at : (s : State T) (free : List ℕ) → Holding n laps passes (lift free s) → (q : ℕ) (v : Pass T) → get_elem? s.passes q ≡ some v → IsPass (Goes v.line)
  passes_at s free k q v at = k.1 q (Goes v.line) (at_map (λ (u : PoolPass T). u.line) (map goes s.passes) q (goes v) (at_map goes s.passes q v at))

  few_busy : (s : State T) (free : List ℕ) → Holding n laps passes (lift free s) → in_call (pool_ring giving_up n laps passes) (lift free s) ≤ passes
  few_busy s free k = omega (arith, busy_sum s.passes (passes_at s free k), few_seats n laps passes s.memory free (map counts (map (λ (v : PoolPass T). v.line) (map goes s.passes))) s.history k.0)

  kept_run : (schedule : Schedule (From T)) (s : PoolState T) → Holding n laps passes s → Holding n laps passes (run (pool_ring giving_up n laps passes) schedule s)
  kept_run schedule s k = run_kept (pool_ring giving_up n laps passes) (Holding n laps passes) (rule_holds (pool_ring {T = T} giving_up n laps passes) (RuleOf n laps passes) (NoStory n laps passes) (told n laps passes)) schedule s k

  abbrev Few : Schedule (From T) → PoolState T → Type 0
  Few schedule s = AtOnce (pool_ring giving_up n laps passes) (suc (passes - 1)) schedule s

  ended_append : (xs ys : Schedule (From T)) (s : PoolState T) → calls_ended (pool_ring giving_up n laps passes) (xs ++ ys) s ≡ calls_ended (pool_ring giving_up n laps passes) xs s + calls_ended (pool_ring giving_up n laps passes) ys (run (pool_ring giving_up n laps passes) xs s)
  ended_append [] ys s = omega arith
  ended_append (a ∷ xs) ys s = omega (arith, ended_append xs ys (next (pool_ring giving_up n laps passes) s a))

  abbrev calls_in : PoolState T → ℕ
  calls_in s = in_call (pool_ring giving_up n laps passes) s

  starts_busy : (from : From T) → is_idle (starts from) ≡ false
  starts_busy (At l, call) = first_busy (cell_of l) call
  starts_busy (Stock cs, call) = refl

  -- a pass that has begun is in a call, with a cell and without
  same_calls : (s : State T) (free free' : List ℕ) (p : ℕ) (v : Pass T) (from : From T) → get_elem? s.passes p ≡ some v
      → calls_in (begun (pool_ring giving_up n laps passes) (lift free s) p (goes v) from) ≡ calls_in (lift free' (begun (cell_ring n laps passes) s p v from))
  same_calls s free free' p v from at =
      let f : PoolPass T → ℕ = λ u. cond (idle_in u.line) 0 1 in
      let u : PoolPass T = having_begun (pool_ring giving_up n laps passes) (lift free s) (goes v) from in
      let w : Pass T = having_begun (cell_ring n laps passes) s v from in
      let there : get_elem? (map goes s.passes) p ≡ some (goes v) = at_map goes s.passes p v at in
      let busy : f (goes w) ≡ 1 = ap {B = ℕ} (λ (b : Bool). cond b 0 1) (starts_busy from) in
      omega (
        arith,
        total_set f (map goes s.passes) p (goes v) u there,
        total_set f (map goes s.passes) p (goes v) (goes w) there,
        ap (λ (us : List (PoolPass T)). total f us) (map-set goes s.passes p w),
        busy,
      )

  -- so many are in a call at once, at one act and behind it
  few_act : (s : State T) (free : List ℕ) (p : ℕ) (a : Act (From T)) (o : Option (Pass T)) (rest : Schedule (From T)) (free' : List ℕ) → Holding n laps passes (lift free s) → get_elem? s.passes p ≡ o
      → run (pool_ring giving_up n laps passes) (twice p a o) (lift free s) ≡ lift free' (acts_at (cell_ring n laps passes) s p a o) → Holding n laps passes (lift free' (acts_at (cell_ring n laps passes) s p a o))
      → Few rest (lift free' (acts_at (cell_ring n laps passes) s p a o)) → Few (twice p a o ++ rest) (lift free s)
  few_act s free p a none rest free' k at ends k' few = subst (Few rest) (sym ends) few
  few_act s free p Step (some v) rest free' k at ends k' few = (omega (arith, few_busy s free k), subst (Few rest) (sym ends) few)
  few_act s free p (Begin from) (some v) rest free' k at ends k' few = by_test (is_idle v.line) refl
    where
      acts_by : (b : Bool) → is_idle v.line ≡ b → twice p (Begin from) (some v) ≡ cond b ((p, Begin from) ∷ (p, Step) ∷ []) []
      acts_by b e = ap (λ (c : Bool). cond c ((p, Begin from) ∷ (p, Step) ∷ []) []) e

      ends_by : (b : Bool) → is_idle v.line ≡ b → run (pool_ring giving_up n laps passes) (cond b ((p, Begin from) ∷ (p, Step) ∷ []) []) (lift free s) ≡ lift free' (acts_at (cell_ring n laps passes) s p (Begin from) (some v))
      ends_by b e = sym (ap (λ (c : Bool). run (pool_ring giving_up n laps passes) (cond c ((p, Begin from) ∷ (p, Step) ∷ []) []) (lift free s)) e) ∙ ends

      few_begun : is_idle v.line ≡ true → calls_in (next (pool_ring giving_up n laps passes) (lift free s) (p, Begin from)) ≤ suc (passes - 1)
      few_begun idle = omega (
        arith,
        ap calls_in (ap (acts_at (pool_ring giving_up n laps passes) (lift free s) p (Begin from)) (at_map goes s.passes p v at) ∙ ap (λ (b : Bool). cond b (begun (pool_ring giving_up n laps passes) (lift free s) p (goes v) from) (lift free s)) idle),
        same_calls s free free' p v from at,
        ap (λ (b : Bool). calls_in (lift free' (cond b (begun (cell_ring n laps passes) s p v from) s))) idle,
        few_busy (acts_at (cell_ring n laps passes) s p (Begin from) (some v)) free' k',
      )

      by_test : (b : Bool) → is_idle v.line ≡ b → Few (twice p (Begin from) (some v) ++ rest) (lift free s)
      by_test false busy = subst (λ (ys : Schedule (From T)). Few (ys ++ rest) (lift free s)) (sym (acts_by false busy)) (subst (Few rest) (sym (ends_by false busy)) few)
      by_test true idle = subst (λ (ys : Schedule (From T)). Few (ys ++ rest) (lift free s)) (sym (acts_by true idle)) (omega (arith, few_busy s free k), (few_begun idle, subst (Few rest) (sym (ends_by true idle)) few))

  -- A whole schedule: it makes one step more with a pool for each begin, which its call pays for
  pub record Compared (schedule : Schedule (From T)) (s : State T) (free : List ℕ) : Type 0 where
    pub few : Few (with_pool n laps passes schedule s) (lift free s)
    pub steps : steps_in n laps passes (passes - 1) (with_pool n laps passes schedule s) (lift free s) ≡ steps_made (cell_ring n laps passes) schedule s + calls_cost (cell_ring n laps passes) (one_each n laps passes (passes - 1)) schedule s
    pub ended : calls_ended (pool_ring giving_up n laps passes) (with_pool n laps passes schedule s) (lift free s) ≡ calls_ended (cell_ring n laps passes) schedule s
    costs : costs_in n laps passes (passes - 1) (with_pool n laps passes schedule s) (lift free s) ≡ calls_cost (cell_ring n laps passes) (price_of n laps passes (passes - 1)) schedule s + calls_cost (cell_ring n laps passes) (one_each n laps passes (passes - 1)) schedule s

  pub compared : (schedule : Schedule (From T)) (s : State T) (free : List ℕ) → Holding n laps passes (lift free s) → FreshFrom n laps passes schedule s → Compared schedule s free
  compared [] s free k fresh = record { few = omega (arith, few_busy s free k); steps = refl; ended = refl; costs = refl }
  compared (a ∷ later) s free k fresh =
      let o = one_act giving_up n laps passes s free a.0 a.1 (get_elem? s.passes a.0) k.0 refl fresh.0 in
      let first : Schedule (From T) = twice a.0 a.1 (get_elem? s.passes a.0) in
      let s' : State T = next (cell_ring n laps passes) s a in
      let rest : Schedule (From T) = with_pool n laps passes later s' in
      let k' : Holding n laps passes (lift o.free' s') = subst (Holding n laps passes) o.ends (kept_run first (lift free s) k) in
      let r = compared later s' o.free' k' fresh.1 in
      let c = act_sums n laps passes (passes - 1) s free a.0 a.1 (get_elem? s.passes a.0) rest refl in
      record {
        few = few_act s free a.0 a.1 (get_elem? s.passes a.0) rest o.free' k refl o.ends k' r.few;
        steps = omega (arith, c.steps, ap (steps_in n laps passes (passes - 1) rest) o.ends, r.steps);
        ended = omega (arith, ended_append first rest (lift free s), o.ended, ap (calls_ended (pool_ring giving_up n laps passes) rest) o.ends, r.ended);
        costs = omega (arith, c.costs, ap (costs_in n laps passes (passes - 1) rest) o.ends, r.costs);
      }

  -- where a schedule leads to
  pub reached : (schedule : Schedule (From T)) (s : State T) (free : List ℕ) → Holding n laps passes (lift free s) → FreshFrom n laps passes schedule s → (free' : List ℕ) × Holding n laps passes (lift free' (run (cell_ring n laps passes) schedule s))
  reached [] s free k fresh = (free, k)
  reached (a ∷ later) s free k fresh =
      let o = one_act giving_up n laps passes s free a.0 a.1 (get_elem? s.passes a.0) k.0 refl fresh.0 in
      let s' : State T = next (cell_ring n laps passes) s a in
      reached later s' o.free' (subst (Holding n laps passes) o.ends (kept_run (twice a.0 a.1 (get_elem? s.passes a.0)) (lift free s) k)) fresh.1

module _ {T : Type 0} (n laps passes : ℕ) (some_slot : 0 < n) where
  -- the ring before the first act
  pub start_holds : (numbers : ℕ) → Holding n laps passes (lift (cells_from n passes) (start (cell_ring {T = T} n laps passes) numbers))
  start_holds numbers = (
    subst (Kept n laps passes) (sym (start_is waiting n laps passes numbers)) (pool_stays n laps passes some_slot numbers).rule,
    λ q l at.
        let s : State T = start (cell_ring n laps passes) numbers in
        let a = from_map (λ (v : PoolPass T). v.line) (map goes s.passes) q l at in
        let d = from_map goes s.passes q a.0 a.1 in
        subst IsPass (ap (λ (v : Pass T). Goes v.line) (start_at (cell_ring n laps passes) numbers q d.0 d.1) ∙ ap (λ (v : PoolPass T). v.line) d.2 ∙ a.2) tt,
  )

  paid : (numbers : ℕ) (schedule : Schedule (From T)) → FreshFrom n laps passes schedule (start (cell_ring n laps passes) numbers)
      → steps_made (cell_ring n laps passes) schedule (start (cell_ring n laps passes) numbers) ≤ calls_cost (cell_ring n laps passes) (price_of n laps passes (passes - 1)) schedule (start (cell_ring n laps passes) numbers)
  paid numbers schedule fresh =
      let s : State T = start (cell_ring n laps passes) numbers in
      let ys : Schedule (From T) = with_pool n laps passes schedule s in
      let c = compared n laps passes schedule s (cells_from n passes) (start_holds numbers) fresh in
      let begins : lift (cells_from n passes) s ≡ start (pool_ring giving_up n laps passes) numbers = start_is giving_up n laps passes numbers in
      omega (
        arith,
        all_paid (pool_ring giving_up n laps passes) (Holding n laps passes) weighed priced harmed alone_in harms_in (pays n laps passes) (passes - 1) numbers ys (subst (Holding n laps passes) begins (start_holds numbers)) (λ p. refl)
            (subst (AtOnce (pool_ring giving_up n laps passes) (suc (passes - 1)) ys) begins c.few),
        ap (steps_in n laps passes (passes - 1) ys) begins,
        ap (costs_in n laps passes (passes - 1) ys) begins,
        c.steps,
        c.costs,
      )

  pub total_work : (r : RootView T) (left : List T) (ran : IsRun (ring_on T n laps passes) r left) → IsSound (shape_for T n laps passes) r → NoneOut r → TotalWork passes r ran.acts
  total_work r left ran sound nobody =
      let low : Below r.given ran.acts = below (ring_on T n laps passes) (cell_ring n laps passes) call_at (running n laps passes) (λ p. refl) r left ran sound nobody in
      let k : ℕ = passes - 1 in
      let all : IsPaid ran.acts r.works (λ l. cost k (call_in l)) (fee k) (17 + 24 * k) =
      is_paid (ring_on T n laps passes) (cell_ring n laps passes) call_at (running n laps passes) (λ p. refl) r left ran sound nobody (price_of n laps passes k) (fee k) (omega arith)
      (worth n laps passes k some_slot r.given)
      (paid r.given (schedule_of call_at ran.acts) (fresh_all n laps passes r.given ran.acts low ran.allowed ran.fresh)) (17 + 24 * k) (fee_small k) in
      let none : in_all is_look ran.acts ≡ 0 = no_looks (ring_on T n laps passes) (cell_ring n laps passes) call_at (running n laps passes) (λ reads. reads) ran.acts ran.proper in
      record {
        prices = all.prices;
        fees = let f = all.fees in omega arith;
        answers = let a = all.answers in omega arith;
      }
