-- What all passes of a ring do together is paid for by their calls.
use Rattle.std.proofs.Common.{◌≡◌, ◌<◌, ◌≤◌, ⊎_elim, ℕ, suc, ◌+◌, ◌*◌, Bool, true, false, cond, List, [], ◌∷◌, ◌++◌, map, set, refl, sym, ap, ◌∙◌, subst, arith}
use Rattle.std.proofs.lemmas.Bool.{false≢true}
use mathlib.Core.Option.{Option, none, some}
use lib.ListN.{get_elem?}
use Rattle.bounded_model.specs.declared.history.Event.{Event}
use Rattle.machine.specs.Progress.{steps_at, costs_at, steps_made, calls_cost}
use Rattle.machine.specs.Schedule.{Act, Begin, Step, Schedule, having_begun, begun, acts_at, next, run}
use Rattle.machine.proofs.Paying.{Pays}
use Rattle.machine.proofs.Scheduled.{set_same}
use Rattle.machine.proofs.Stories.{Told, rule_holds}
use Rattle.machine.proofs.Sums.{at_map, at_set}
use Rattle.machine.proofs.Tests.{cases}
use Rattle.ring_machine.specs.declared.lines.Call.{Call}
use Rattle.ring_machine.specs.declared.lines.Call.TheVariants.{Put as CallPut, Take as CallTake, Close as CallClose, Shut as CallShut, Look as CallLook, Len as CallLen, Gauge as CallGauge}
use Rattle.ring_machine.specs.declared.lines.Line.TheVariants.{Idle}
use Rattle.ring_machine.specs.Machine.{Memory, cell_of, first_of}
use Rattle.ring_machine.specs.Machine as ring
use Rattle.ring_machine.specs.Answers.{shape}
use Rattle.ring_table.specs.declared.line.SeatLine.{SeatLine}
use Rattle.ring_table.specs.declared.line.SeatLine.TheVariants.{At, Stock}
use Rattle.ring_table.specs.Seats.{is_idle}
use Rattle.step_core.specs.ring.Costs.{alone, harms, cost}
use Rattle.step_core.proofs.ring.Weight.{weight, price, harm, lag_small, late_small}
use Rattle.runs.specs.ring.Machine.{From, Pass, State, cell_ring}
use Rattle.runs.proofs.ring.Pool.{Pool, PoolLine, PoolOutcome, PoolState, Gets, Goes, waits, has, got, gets, step_in, idle_in, wins_in, giving_up, pool_ring}
use Rattle.runs.proofs.ring.PoolRule.{Rule, begins_kept, kept_by, apart_by}
use Rattle.runs.proofs.ring.Follows.{goes, lift, twice}
use Rattle.runs.proofs.ring.Overtaken.{line_at, goes_low, raises_line}

module _ {T : Type 0} where
  -- a line of a pass
  abbrev pub IsPass : PoolLine T → Type 0
  IsPass (Gets from call) = Unit {0}
  IsPass (Goes (At l)) = Unit {0}
  IsPass (Goes (Stock cs)) = ⊥

  -- a call, with the step by which it gets its cell
  abbrev pub alone_in : From T → ℕ
  alone_in from = suc (alone from.1)

  abbrev pub harms_in : From T → ℕ
  harms_in from = harms from.1

  abbrev pub cost_in : ℕ → From T → ℕ
  cost_in k from = alone_in from + harms_in from * k

  abbrev pub weighed : Pool T → PoolLine T → ℕ
  weighed m (Gets from call) = suc (alone call)
  weighed m (Goes (At l)) = weight m.memory l
  weighed m (Goes (Stock cs)) = 0

  abbrev pub priced : PoolLine T → ℕ
  priced (Gets from call) = 0
  priced (Goes (At l)) = price l
  priced (Goes (Stock cs)) = 0

  abbrev pub harmed : PoolLine T → ℕ
  harmed (Gets from call) = harms call
  harmed (Goes (At l)) = harm l
  harmed (Goes (Stock cs)) = 0

  first_weighs : (m : Memory T) (c : ℕ) (call : Call T) → (weight m (first_of c call) ≤ alone call) × (harm (first_of c call) ≤ harms call)
  first_weighs m c (CallPut v) = (omega (arith, lag_small m), omega arith)
  first_weighs m c CallTake = (omega (arith, late_small m), omega arith)
  first_weighs m c CallClose = (omega (arith, lag_small m), omega arith)
  first_weighs m c CallShut = (omega (arith, late_small m), omega arith)
  first_weighs m c CallLook = (omega (arith, late_small m), omega arith)
  first_weighs m c CallLen = (omega (arith, lag_small m, late_small m), omega arith)
  first_weighs m c CallGauge = (omega (arith, lag_small m), omega arith)

  idle_weighs : (m : Pool T) (l : PoolLine T) → idle_in l ≡ true → (weighed m l ≡ 0) × (harmed l ≡ 0)
  idle_weighs m (Gets from call) e = absurd (false≢true e)
  idle_weighs m (Goes (Stock cs)) e = absurd (false≢true e)
  idle_weighs m (Goes (At (Idle c a))) e = (refl, refl)
  idle_weighs m (Goes (At l)) e = absurd (false≢true e)

  -- what a pass that gets its cell, or gives up, leaves
  abbrev Low : Pool T → Call T → PoolOutcome T → Type 0
  Low m call o = (weighed o.memory o.line < suc (alone call)) × (harmed o.line + 0 ≤ harms call) × (o.memory.memory ≡ m.memory) × IsPass o.line

  gets_low : (m : Pool T) (from : SeatLine T) (call : Call T) → Low m call (gets giving_up m from call)
  gets_low m (Stock cs) call = (omega arith, omega arith, refl, tt)
  gets_low m (At l) call =
      let c : ℕ = cell_of l in
      let w = first_weighs m.memory c call in
      cases (Low m call) (has m c) (got m c call) (waits m (giving_up (At l) call))
      (λ yes. (omega (arith, w.0), omega (arith, w.1), refl, tt))
      (λ no. (omega arith, omega arith, refl, tt))

  -- a step that changes no word
  same_words : (m m' : Pool T) (u : PoolLine T) → m'.memory ≡ m.memory → weighed m' u ≤ weighed m u + 0
  same_words m m' (Gets from call) e = omega arith
  same_words m m' (Goes (At l)) e = omega (arith, ap (λ (y : Memory T). weight y l) e)
  same_words m m' (Goes (Stock cs)) e = omega arith

module _ {T : Type 0} (n laps passes : ℕ) where
  -- the rule, with lines of passes alone
  abbrev pub RuleOf : Pool T → List (PoolLine T) → List (Event T) → Type 0
  RuleOf m lines h = Rule n laps (n + passes) m lines h × ((q : ℕ) (l : PoolLine T) → get_elem? lines q ≡ some l → IsPass l)

  abbrev pub NoStory : ℕ → Option (From T) → PoolLine T → List (Event T) → List (Event T) → Type 0
  NoStory p call l begun seen = Unit {0}

  set_passes : (lines : List (PoolLine T)) (p : ℕ) (l : PoolLine T) → ((q : ℕ) (u : PoolLine T) → get_elem? lines q ≡ some u → IsPass u) → IsPass l → (q : ℕ) (u : PoolLine T) → get_elem? (set lines p l) q ≡ some u → IsPass u
  set_passes lines p l all one q u at = ⊎_elim (λ t. subst IsPass t.1 one) (λ t. all q u t.1) (at_set lines p q l u at)

  still_pass : (m : Pool T) (p : ℕ) (l : PoolLine T) → IsPass l → IsPass (step_in giving_up (shape n laps) m p l).line
  still_pass m p (Gets from call) is = (gets_low m from call).3
  still_pass m p (Goes (At l)) is = tt
  still_pass m p (Goes (Stock cs)) is = absurd is

  pub told : Told (pool_ring giving_up n laps passes) RuleOf NoStory
  told = record {
    begins = λ m lines h p l call k e idle. (begins_kept n laps (n + passes) m lines h p l call k.0 e idle, set_passes lines p (Gets call.0 call.1) k.1 tt);
    begins_story = λ p l call seen idle. tt;
    steps = λ m lines h p l k e busy. (kept_by n laps (n + passes) giving_up (λ from call. refl) m lines h p l k.0 e busy, set_passes lines p (step_in giving_up (shape n laps) m p l).line k.1 (still_pass m p l (k.1 p l e)));
    steps_story = λ m lines h p call l b seen k e busy before ahead story. tt;
    apart = λ m h p q l ne. apart_by n laps (n + passes) giving_up (λ from call. refl) m h p q l ne;
  }

  abbrev pub Holding : PoolState T → Type 0
  Holding s = RuleOf s.memory (map (λ v. v.line) s.passes) s.history

  falls_at : (s : PoolState T) (p : ℕ) (l : PoolLine T) → Holding s → get_elem? (map (λ v. v.line) s.passes) p ≡ some l → idle_in l ≡ false
      → weighed (step_in giving_up (shape n laps) s.memory p l).memory (step_in giving_up (shape n laps) s.memory p l).line < weighed s.memory l
  falls_at s p (Gets from call) k at busy = (gets_low s.memory from call).0
  falls_at s p (Goes (At l)) k at busy = (goes_low n laps passes s p l k.0 at busy).0
  falls_at s p (Goes (Stock cs)) k at busy = absurd (k.1 p (Goes (Stock cs)) at)

  pays_at : (s : PoolState T) (p : ℕ) (l : PoolLine T) → Holding s → get_elem? (map (λ v. v.line) s.passes) p ≡ some l → idle_in l ≡ false
      → harmed (step_in giving_up (shape n laps) s.memory p l).line + cond (wins_in s.memory l) (priced l) 0 ≤ harmed l
  pays_at s p (Gets from call) k at busy = (gets_low s.memory from call).1
  pays_at s p (Goes (At l)) k at busy = (goes_low n laps passes s p l k.0 at busy).1
  pays_at s p (Goes (Stock cs)) k at busy = absurd (k.1 p (Goes (Stock cs)) at)

  raises_at : (s : PoolState T) (q : ℕ) (l u : PoolLine T) → Holding s → get_elem? (map (λ v. v.line) s.passes) q ≡ some l
      → weighed (step_in giving_up (shape n laps) s.memory q l).memory u ≤ weighed s.memory u + cond (wins_in s.memory l) (priced l) 0
  raises_at s q (Gets from call) u k at = same_words s.memory (gets giving_up s.memory from call).memory u (gets_low s.memory from call).2
  raises_at s q (Goes (Stock cs)) u k at = same_words s.memory s.memory u refl
  raises_at s q (Goes (At l)) (Gets from call) k at = omega arith
  raises_at s q (Goes (At l)) (Goes (Stock cs)) k at = omega arith
  raises_at s q (Goes (At l)) (Goes (At u)) k at = raises_line n laps passes s q l u (ring.is_idle l) refl k.0 at

  pub pays : Pays (pool_ring giving_up n laps passes) Holding weighed priced harmed alone_in harms_in
  pays = record {
    weighs = record {
      holds = rule_holds (pool_ring giving_up n laps passes) RuleOf NoStory told;
      falls = λ s p v k at busy any. falls_at s p v.line k (line_at n laps passes s p v v.line at refl) busy;
      counts = λ s p v k at busy any. tt;
      raises = λ s p q u v k at at'. raises_at s q v.line u.line k (line_at n laps passes s q v v.line at' refl);
    };
    idle = idle_weighs;
    starts = λ l call. refl;
    begins = λ m l call. (omega arith, omega arith);
    pays = λ s p v k at busy. pays_at s p v.line k (line_at n laps passes s p v v.line at refl) busy;
  }

-- The steps and the costs of the ring, and of the ring with a pool
module _ {T : Type 0} (n laps passes k : ℕ) where
  abbrev pub steps_in : Schedule (From T) → PoolState T → ℕ
  steps_in schedule s = steps_made (pool_ring giving_up n laps passes) schedule s

  abbrev pub costs_in : Schedule (From T) → PoolState T → ℕ
  costs_in schedule s = calls_cost (pool_ring giving_up n laps passes) (cost_in k) schedule s

  abbrev pub price_of : From T → ℕ
  price_of from = cost k from.1

  abbrev pub one_each : From T → ℕ
  one_each from = 1

  -- one act, and what comes behind: a begin makes one step more with a pool, which its call pays for
  pub record Sums (s : State T) (free : List ℕ) (p : ℕ) (a : Act (From T)) (o : Option (Pass T)) (rest : Schedule (From T)) : Type 0 where
    pub steps : steps_in (twice p a o ++ rest) (lift free s) ≡ steps_at (cell_ring n laps passes) a o + costs_at (cell_ring n laps passes) one_each a o + steps_in rest (run (pool_ring giving_up n laps passes) (twice p a o) (lift free s))
    pub costs : costs_in (twice p a o ++ rest) (lift free s) ≡ costs_at (cell_ring n laps passes) price_of a o + costs_at (cell_ring n laps passes) one_each a o + costs_in rest (run (pool_ring giving_up n laps passes) (twice p a o) (lift free s))

  pub act_sums : (s : State T) (free : List ℕ) (p : ℕ) (a : Act (From T)) (o : Option (Pass T)) (rest : Schedule (From T)) → get_elem? s.passes p ≡ o → Sums s free p a o rest
  act_sums s free p a none rest at = record { steps = omega arith; costs = omega arith }
  act_sums s free p Step (some v) rest at =
      let step : steps_at (pool_ring giving_up n laps passes) Step (get_elem? (lift free s).passes p) ≡ cond {A = ℕ} (is_idle v.line) 0 1 = ap (steps_at (pool_ring giving_up n laps passes) Step) (at_map goes s.passes p v at) in
      let price : costs_at (pool_ring giving_up n laps passes) (cost_in k) Step (get_elem? (lift free s).passes p) ≡ 0 = ap (costs_at (pool_ring giving_up n laps passes) (cost_in k) Step) (at_map goes s.passes p v at) in
      record { steps = omega (arith, step); costs = omega (arith, price) }
  act_sums s free p (Begin from) (some v) rest at = by_test (is_idle v.line) refl
    where
      at_goes : get_elem? (lift free s).passes p ≡ some (goes v)
      at_goes = at_map goes s.passes p v at

      first_is : is_idle v.line ≡ true → next (pool_ring giving_up n laps passes) (lift free s) (p, Begin from) ≡ begun (pool_ring giving_up n laps passes) (lift free s) p (goes v) from
      first_is idle = ap (acts_at (pool_ring giving_up n laps passes) (lift free s) p (Begin from)) at_goes ∙ ap (λ (b : Bool). cond b (begun (pool_ring giving_up n laps passes) (lift free s) p (goes v) from) (lift free s)) idle

      at_u : get_elem? (begun (pool_ring giving_up n laps passes) (lift free s) p (goes v) from).passes p ≡ some (having_begun (pool_ring giving_up n laps passes) (lift free s) (goes v) from)
      at_u = set_same (lift free s).passes p (goes v) (having_begun (pool_ring giving_up n laps passes) (lift free s) (goes v) from) at_goes

      second_step : is_idle v.line ≡ true → (let z = next (pool_ring giving_up n laps passes) (lift free s) (p, Begin from) in steps_at (pool_ring giving_up n laps passes) Step (get_elem? z.passes p) ≡ 1)
      second_step idle = ap (λ (z : PoolState T). steps_at (pool_ring giving_up n laps passes) Step (get_elem? z.passes p)) (first_is idle) ∙ ap (steps_at (pool_ring giving_up n laps passes) Step) at_u

      second_cost : is_idle v.line ≡ true → (let z = next (pool_ring giving_up n laps passes) (lift free s) (p, Begin from) in costs_at (pool_ring giving_up n laps passes) (cost_in k) Step (get_elem? z.passes p) ≡ 0)
      second_cost idle = ap (λ (z : PoolState T). costs_at (pool_ring giving_up n laps passes) (cost_in k) Step (get_elem? z.passes p)) (first_is idle) ∙ ap (costs_at (pool_ring giving_up n laps passes) (cost_in k) Step) at_u

      first_step : steps_at (pool_ring giving_up n laps passes) (Begin from) (get_elem? (lift free s).passes p) ≡ 0
      first_step = ap (steps_at (pool_ring giving_up n laps passes) (Begin from)) at_goes

      first_cost : is_idle v.line ≡ true → costs_at (pool_ring giving_up n laps passes) (cost_in k) (Begin from) (get_elem? (lift free s).passes p) ≡ cost_in k from
      first_cost idle = ap (costs_at (pool_ring giving_up n laps passes) (cost_in k) (Begin from)) at_goes ∙ ap (λ (b : Bool). cond b (cost_in k from) 0) idle

      by_test : (b : Bool) → is_idle v.line ≡ b → Sums s free p (Begin from) (some v) rest
      by_test true idle =
          let both : Schedule (From T) = (p, Begin from) ∷ (p, Step) ∷ [] in
          let acts : twice p (Begin from) (some v) ≡ both = ap (λ (b : Bool). cond b both []) idle in
          let one : cond {A = ℕ} (is_idle v.line) 1 0 ≡ 1 = ap {B = ℕ} (λ (b : Bool). cond b 1 0) idle in
          let price : cond (is_idle v.line) (cost k from.1) 0 ≡ cost k from.1 = ap (λ (b : Bool). cond b (cost k from.1) 0) idle in
          record {
            steps = subst (λ (ys : Schedule (From T)). steps_in (ys ++ rest) (lift free s) ≡ 0 + cond (is_idle v.line) 1 0 + steps_in rest (run (pool_ring giving_up n laps passes) ys (lift free s))) (sym acts) (omega (arith, first_step, second_step idle, one));
            costs = subst (λ (ys : Schedule (From T)). costs_in (ys ++ rest) (lift free s) ≡ cond (is_idle v.line) (cost k from.1) 0 + cond (is_idle v.line) 1 0 + costs_in rest (run (pool_ring giving_up n laps passes) ys (lift free s))) (sym acts)
                (omega (arith, first_cost idle, second_cost idle, one, price));
          }
      by_test false busy =
          let acts : twice p (Begin from) (some v) ≡ [] = ap (λ (b : Bool). cond b ((p, Begin from) ∷ (p, Step) ∷ []) []) busy in
          let none_one : cond {A = ℕ} (is_idle v.line) 1 0 ≡ 0 = ap {B = ℕ} (λ (b : Bool). cond b 1 0) busy in
          let price : cond (is_idle v.line) (cost k from.1) 0 ≡ 0 = ap (λ (b : Bool). cond b (cost k from.1) 0) busy in
          record {
            steps = subst (λ (ys : Schedule (From T)). steps_in (ys ++ rest) (lift free s) ≡ 0 + cond (is_idle v.line) 1 0 + steps_in rest (run (pool_ring giving_up n laps passes) ys (lift free s))) (sym acts) (omega (arith, none_one));
            costs = subst (λ (ys : Schedule (From T)). costs_in (ys ++ rest) (lift free s) ≡ cond (is_idle v.line) (cost k from.1) 0 + cond (is_idle v.line) 1 0 + costs_in rest (run (pool_ring giving_up n laps passes) ys (lift free s))) (sym acts) (omega (arith, none_one, price));
          }
