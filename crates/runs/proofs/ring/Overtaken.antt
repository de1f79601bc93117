-- An operation of a ring ends, by what others did meanwhile.
use Rattle.std.proofs.Common.{◌≡◌, ◌<◌, ◌≤◌, ℕ, suc, ◌+◌, ◌*◌, Bool, true, false, cond, List, [], ◌∷◌, ◌++◌, append_assoc, append-nil, map, refl, sym, ap, ◌∙◌, subst, arith, ◌⊎◌, inl}
use Rattle.std.specs.List.{AllByRecursion as Every}
use Rattle.std.proofs.lemmas.Bool.{false≢true}
use mathlib.Core.Option.{Option, none, some}
use lib.ListN.{get_elem?}
use Rattle.bounded_model.specs.declared.history.Event.{Event}
use Rattle.machine.specs.Bound.{AtLine, own_steps}
use Rattle.machine.specs.Progress.{others_win}
use Rattle.machine.specs.Schedule.{Outcome, Schedule, start}
use Rattle.machine.specs.Seats.{Acts}
use Rattle.machine.proofs.Paying.{Weighs, overtaken, left_at}
use Rattle.machine.proofs.Stories.{rule_holds}
use Rattle.machine.proofs.Sums.{at_map}
use Rattle.machine.proofs.Tests.{cases}
use Rattle.ring_machine.specs.declared.lines.Call.{Call}
use Rattle.ring_machine.specs.declared.lines.Line.{Line}
use Rattle.ring_machine.specs.declared.lines.Line.TheVariants.{Idle}
use Rattle.ring_machine.specs.Machine.{Memory, cell_of, step, wins_exchange}
use Rattle.ring_machine.specs.Machine as ring
use Rattle.ring_machine.specs.Answers.{shape}
use Rattle.ring_table.specs.declared.line.SeatLine.{SeatLine}
use Rattle.ring_table.specs.declared.line.SeatLine.TheVariants.{At, Stock}
use Rattle.ring_table.specs.Seats.{names, is_idle, cells_from}
use Rattle.ring_table.specs.Core.{core, ring_on}
use Rattle.ring_table.proofs.Seats.{found}
use Rattle.running.specs.Acts.{Begins, Course, Now, played, steps_in, IsAllowed, AllProper}
use Rattle.runs.specs.Runs.{Below, one, schedule_of}
use Rattle.runs.proofs.Points.{stays}
use Rattle.runs.proofs.Underway.{later_are_own, at_point, line_begun, none_begun}
use Rattle.step_core.proofs.ring.Pays.{step_raises, step_falls}
use Rattle.step_core.proofs.ring.Weight.{weight, price, harm, weight_small, price_small}
use Rattle.runs.specs.ring.Machine.{From, Pass, State, cell_ring}
use Rattle.running.specs.Acts.{IsFresh as Fresh, AllFresh}
use Rattle.runs.specs.ring.Bounded.{call_at, state_after, IsBounded}
use Rattle.runs.proofs.ring.Pool.{Pool, PoolLine, PoolOutcome, PoolPass, PoolState, Gets, Goes, waits, has, got, gets, idle_in, waiting, pool_ring}
use Rattle.runs.proofs.ring.PoolRule.{Rule, Story, counts, seats_in, busy_counts, pool_told}
use Rattle.runs.proofs.ring.Follows.{goes, lift, none_map, Kept}
use Rattle.runs.proofs.ring.Rings.{FreshFrom, Keeps, with_pool, Followed, fresh_all, fresh_later, follows, Allowed}
use Rattle.runs.proofs.ring.Counted.{compared}
use Rattle.runs.proofs.ring.Running.{running}

pub every_older : {A : Type 0} (P : A → Type 0) (xs ys : List A) → Every P (xs ++ ys) → Every P ys
every_older P [] ys e = e
every_older P (x ∷ xs) ys e = every_older P xs ys e.1

module _ {T : Type 0} where
  abbrev weight_in : Pool T → PoolLine T → ℕ
  weight_in m (Gets from call) = 0
  weight_in m (Goes (At l)) = weight m.memory l
  weight_in m (Goes (Stock cs)) = 0

  abbrev price_in : PoolLine T → ℕ
  price_in (Gets from call) = 0
  price_in (Goes (At l)) = price l
  price_in (Goes (Stock cs)) = 0

  -- a pass that has its cell
  abbrev IsGoing : PoolLine T → Type 0
  IsGoing (Gets from call) = ⊥
  IsGoing (Goes (At l)) = Unit {0}
  IsGoing (Goes (Stock cs)) = ⊥

module _ {T : Type 0} (n laps passes : ℕ) where
  -- the lines of all passes
  abbrev lines_of : PoolState T → List (PoolLine T)
  lines_of s = map (λ v. v.line) s.passes

  pub line_at : (s : PoolState T) (p : ℕ) (v : PoolPass T) (l : PoolLine T) → get_elem? s.passes p ≡ some v → v.line ≡ l → get_elem? (lines_of s) p ≡ some l
  line_at s p v l at is = at_map (λ (u : PoolPass T). u.line) s.passes p v at ∙ ap some is

  -- a line of the ring that is in an operation, among the seats
  seat_at : (s : PoolState T) (p : ℕ) (l : Line T) → get_elem? (lines_of s) p ≡ some (Goes (At l)) → ring.is_idle l ≡ false → get_elem? (map counts (lines_of s)) p ≡ some (At l)
  seat_at s p l at busy = at_map counts (lines_of s) p (Goes (At l)) at ∙ ap some (busy_counts l busy)

  pub goes_low : (s : PoolState T) (p : ℕ) (l : Line T) → Kept n laps passes s → get_elem? (lines_of s) p ≡ some (Goes (At l)) → ring.is_idle l ≡ false → let o = step (shape n laps) s.memory.memory p l in
      (weight o.memory o.line < weight s.memory.memory l) × (harm o.line + cond (wins_exchange s.memory.memory l) (price l) 0 ≤ harm l)
  goes_low s p l k at busy =
      let f = found (seats_in n laps (n + passes) s.memory (lines_of s)) (suc p) l (seat_at s p l at busy) in
      step_falls k f.place p l f.there busy

  falls_at : (s : PoolState T) (p : ℕ) (l : PoolLine T) → Kept n laps passes s → get_elem? (lines_of s) p ≡ some l → idle_in l ≡ false → IsGoing l
      → weight_in ((pool_ring waiting n laps passes).step s.memory p l).memory ((pool_ring waiting n laps passes).step s.memory p l).line < weight_in s.memory l
  falls_at s p (Gets from call) k at busy going = absurd going
  falls_at s p (Goes (At l)) k at busy going = (goes_low s p l k at busy).0
  falls_at s p (Goes (Stock cs)) k at busy going = absurd going

  counts_on : (m : Pool T) (p : ℕ) (l : PoolLine T) → IsGoing l → IsGoing ((pool_ring waiting n laps passes).step m p l).line
  counts_on m p (Gets from call) going = absurd going
  counts_on m p (Goes (At l)) going = tt
  counts_on m p (Goes (Stock cs)) going = absurd going

  abbrev spends_in : Pool T → PoolLine T → ℕ
  spends_in m l = cond ((pool_ring waiting n laps passes).wins m l) (price_in l) 0

  -- a step that changes no word
  same_words : (m : Pool T) (m' : Pool T) (u : PoolLine T) → m'.memory ≡ m.memory → weight_in m' u ≤ weight_in m u + 0
  same_words m m' (Gets from call) e = omega arith
  same_words m m' (Goes (At l)) e = omega (arith, ap (λ (y : Memory T). weight y l) e)
  same_words m m' (Goes (Stock cs)) e = omega arith

  gets_words : (m : Pool T) (from : SeatLine T) (call : Call T) → (gets waiting m from call).memory.memory ≡ m.memory
  gets_words m (At l) call = let c : ℕ = cell_of l in cases (λ (o : PoolOutcome T). o.memory.memory ≡ m.memory) (has m c) (got m c call) (waits m (Gets (At l) call)) (λ yes. refl) (λ no. refl)
  gets_words m (Stock cs) call = refl

  pub raises_line : (s : PoolState T) (q : ℕ) (l k : Line T) (b : Bool) → ring.is_idle l ≡ b → Kept n laps passes s → get_elem? (lines_of s) q ≡ some (Goes (At l)) → weight (step (shape n laps) s.memory.memory q l).memory k ≤ weight s.memory.memory k + cond (wins_exchange s.memory.memory l) (price l) 0
  raises_line s q l k false busy kept at =
      let f = found (seats_in n laps (n + passes) s.memory (lines_of s)) (suc q) l (seat_at s q l at busy) in
      step_raises kept f.place q l k f.there
  raises_line s q (Idle c a) k true idle kept at = omega arith
  raises_line s q l k true idle kept at = absurd (false≢true idle)

  raises_at : (s : PoolState T) (q : ℕ) (l u : PoolLine T) → Kept n laps passes s → get_elem? (lines_of s) q ≡ some l → weight_in ((pool_ring waiting n laps passes).step s.memory q l).memory u ≤ weight_in s.memory u + spends_in s.memory l
  raises_at s q (Gets from call) u k at = same_words s.memory (gets waiting s.memory from call).memory u (gets_words s.memory from call)
  raises_at s q (Goes (Stock cs)) u k at = same_words s.memory s.memory u refl
  raises_at s q (Goes (At l)) (Gets from call) k at = omega arith
  raises_at s q (Goes (At l)) (Goes (Stock cs)) k at = omega arith
  raises_at s q (Goes (At l)) (Goes (At u)) k at = raises_line s q l u (ring.is_idle l) refl k at

  weighs : Weighs (pool_ring {T = T} waiting n laps passes) (Kept n laps passes) IsGoing weight_in price_in
  weighs = record {
    holds = rule_holds (pool_ring {T = T} waiting n laps passes) (Rule n laps (n + passes)) (Story n laps (n + passes)) (pool_told n laps (n + passes) passes);
    falls = λ s p v k at busy going. falls_at s p v.line k (line_at s p v v.line at refl) busy going;
    counts = λ s p v k at busy going. counts_on s.memory p v.line going;
    raises = λ s p q u v k at at'. raises_at s q v.line u.line k (line_at s q v v.line at' refl);
  }

  cheap : (l : PoolLine T) → price_in l ≤ 18
  cheap (Gets from call) = omega arith
  cheap (Goes (At l)) = price_small l
  cheap (Goes (Stock cs)) = omega arith

  left_small : (m : Pool T) (o : Option (PoolPass T)) → left_at (pool_ring waiting n laps passes) (Kept n laps passes) IsGoing weight_in price_in weighs m o ≤ 31
  left_small m none = omega arith
  left_small m (some v) = by_line v.line
    where
      by_line : (l : PoolLine T) → weight_in m l ≤ 31
      by_line (Gets from call) = omega arith
      by_line (Goes (At l)) = weight_small m.memory l
      by_line (Goes (Stock cs)) = omega arith

  pub pool_overtaken : (p : ℕ) (s : PoolState T) (schedule : Schedule (From T)) → Keeps n laps passes s → AtLine IsGoing (get_elem? s.passes p)
      → own_steps (pool_ring waiting n laps passes) p schedule s ≤ 31 + 18 * others_win (pool_ring waiting n laps passes) p schedule s
  pool_overtaken p s schedule k going =
      omega (arith, overtaken (pool_ring waiting n laps passes) (Kept n laps passes) IsGoing weight_in price_in weighs 18 cheap p s schedule k.rule going, left_small s.memory (get_elem? s.passes p))

  -- The acts of a table

  pub schedule_append : (xs ys : Acts (SeatLine T)) → schedule_of call_at (xs ++ ys) ≡ schedule_of call_at ys ++ schedule_of call_at xs
  schedule_append [] ys = sym (append-nil (schedule_of call_at ys))
  schedule_append (a ∷ xs) ys = ap (λ (s : Schedule (From T)). s ++ one call_at a.0 a.1) (schedule_append xs ys) ∙ append_assoc (schedule_of call_at ys) (schedule_of call_at xs) (one call_at a.0 a.1)

  pub fresh_older : (xs ys : Acts (SeatLine T)) → AllFresh names (core T n laps passes) (xs ++ ys) → AllFresh names (core T n laps passes) ys
  fresh_older [] ys f = f
  fresh_older (x ∷ xs) ys f = fresh_older xs ys f.1

  -- a fresh first line is that of a pass
  first_goes : (first : SeatLine T) (k : Now names (core T n laps passes)) → Fresh names (core T n laps passes) k (Begins first) → IsGoing (Goes first)
  first_goes (At l) k f = tt
  first_goes (Stock cs) k f = absurd f

  -- a step of a pass leads to a line of a pass
  lands_going : (x : ℕ) (m : Memory T) (l : SeatLine T) → IsGoing (Goes l) → IsGoing (Goes ((core T n laps passes).lands m x l))
  lands_going x m (At l) going = subst (λ (u : SeatLine T). IsGoing (Goes u)) (ap (λ (o : Outcome (Memory T) (SeatLine T) (Event T)). o.line) ((running n laps passes).steps m x (At l))) tt
  lands_going x m (Stock cs) going = absurd going

  module _ (some_slot : 0 < n) (x : ℕ) (before now : Acts (SeatLine T)) (first l : SeatLine T) (k : Course names (core T n laps passes) before now x first l) (counts : (is_idle l ≡ false) ⊎ AllProper names (core T n laps passes) now) where
    abbrev older : Acts (SeatLine T)
    older = (x, Begins first) ∷ before

    -- The operation from a point on, of the acts `later` behind it
    module _ (later earlier : Acts (SeatLine T)) (cut : k.since ≡ later ++ earlier) (numbers : ℕ) (low : Below numbers now) where
      abbrev behind : Acts (SeatLine T)
      behind = earlier ++ older

      split : now ≡ later ++ behind
      split = k.is ∙ ap (λ (a : Acts (SeatLine T)). a ++ older) cut ∙ append_assoc later earlier older

      fresh_behind : AllFresh names (core T n laps passes) behind
      fresh_behind = fresh_older later behind (subst (AllFresh names (core T n laps passes)) split k.fresh)

      abbrev s : State T
      s = state_after n laps passes numbers behind

      low_behind : Below numbers behind
      low_behind = every_older (λ a. a.0 < numbers) later behind (subst (Below numbers) split low)

      allowed_behind : Allowed n laps passes behind
      allowed_behind = every_older (λ a. IsAllowed names (core T n laps passes) a.1) later behind (subst (Allowed n laps passes) split k.allowed)

      so_far : Followed n laps passes (schedule_of call_at behind) (start (cell_ring n laps passes) numbers) (cells_from n passes)
      so_far = follows n laps passes some_slot numbers behind low_behind allowed_behind fresh_behind

      -- what is begun later has its cell
      fresh_later_on : FreshFrom n laps passes (schedule_of call_at later) s
      fresh_later_on = fresh_later n laps passes (schedule_of call_at behind) (schedule_of call_at later) (start (cell_ring n laps passes) numbers)
          (subst (λ (sch : Schedule (From T)). FreshFrom n laps passes sch (start (cell_ring n laps passes) numbers)) (ap (schedule_of call_at) split ∙ schedule_append later behind) (fresh_all n laps passes numbers now low k.allowed k.fresh))

      -- the pass was at a line of the ring as it began, and so it is at the point
      at_ring : IsGoing (Goes ((played names (core T n laps passes) behind).line x))
      at_ring = stays (ring_on T n laps passes) x (λ (u : SeatLine T). IsGoing (Goes u)) (lands_going x) earlier older (none_begun (ring_on T n laps passes) (cell_ring n laps passes) call_at (running n laps passes) x before now first l k numbers low later earlier cut).1
          (subst (λ (u : SeatLine T). IsGoing (Goes u)) (sym (line_begun (ring_on T n laps passes) (cell_ring n laps passes) call_at (running n laps passes) x before now first l k numbers low (played names (core T n laps passes) before) k.rested))
          (first_goes first (played names (core T n laps passes) before) (fresh_older earlier older fresh_behind).0))

      going : AtLine IsGoing (get_elem? (lift so_far.left s).passes x)
      going = by_pass (get_elem? s.passes x) refl
        where
          by_pass : (o : Option (Pass T)) → get_elem? s.passes x ≡ o → AtLine IsGoing (get_elem? (lift so_far.left s).passes x)
          by_pass none e = subst (AtLine IsGoing) (sym (none_map goes s.passes x e)) tt
          by_pass (some v) e =
              let there = at_point (ring_on T n laps passes) (cell_ring n laps passes) call_at (running n laps passes) x before now first l k numbers low later earlier cut v e in
              subst (AtLine IsGoing) (sym (at_map goes s.passes x v e)) (subst (λ (u : SeatLine T). IsGoing (Goes u)) (sym there) at_ring)

      later_bound : steps_in x later ≤ 31 + 18 * others_win (cell_ring n laps passes) x (schedule_of call_at later) s
      later_bound =
          let c = compared n laps passes x (schedule_of call_at later) s so_far.left so_far.keeps fresh_later_on in
          omega (
            arith,
            later_are_own (ring_on T n laps passes) (cell_ring n laps passes) call_at (running n laps passes) x before now first l k numbers low later earlier cut counts,
            c.own,
            c.wins,
            pool_overtaken x (lift so_far.left s) (with_pool n laps passes (schedule_of call_at later) s) so_far.keeps going,
          )

    -- of an operation that goes on, or that has ended in a proper run
    pub bounded_run : IsBounded n laps passes before now x first
    bounded_run = record {
      since = k.since;
      is = k.is;
      bound = λ numbers low. later_bound k.since [] (sym (append-nil k.since)) numbers low;
      from_any_point = later_bound;
    }

  pub bounded : 0 < n → (x : ℕ) (before now : Acts (SeatLine T)) (first l : SeatLine T) → Course names (core T n laps passes) before now x first l → is_idle l ≡ false → IsBounded n laps passes before now x first
  bounded some_slot x before now first l k busy = bounded_run some_slot x before now first l k (inl busy)
