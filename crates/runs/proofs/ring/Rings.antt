-- The ring's laws, of the acts that led to a table.
use Rattle.std.proofs.Common.{◌≡◌, ℕ, ◌+◌, ◌<◌, List, [], ◌∷◌, ◌++◌, append-nil, append_assoc, map, refl, sym, ap, ◌∙◌, subst}
use Rattle.std.specs.List.{AllByRecursion as Every}
use lib.ListN.{get_elem?}
use Rattle.machine.specs.Seats.{Acts}
use Rattle.machine.specs.Schedule.{Schedule, next, run, start}
use Rattle.machine.proofs.Scheduled.{run_kept}
use Rattle.machine.proofs.Stories.{Stays, stays_holds}
use Rattle.ring_table.specs.declared.line.SeatLine.{SeatLine}
use Rattle.ring_table.specs.declared.line.SeatLine.TheVariants.{At, Stock}
use Rattle.ring_table.specs.Seats.{names, cells_from, passes_of}
use Rattle.ring_table.specs.Core.{core, ring_on}
use Rattle.ring_machine.specs.Rule.{Good}
use Rattle.running.specs.Acts.{Doing, Begins, Steps, Looks, Hears, Now, played, IsAllowed}
use Rattle.runs.specs.Runs.{Below, one, schedule_of, Shows}
use Rattle.runs.specs.Heard.{IsLinearizable}
use Rattle.runs.proofs.Link.{run_append, shows_all}
use Rattle.runs.proofs.Heard.{passes_of as numbers_of, all_below, linearizable_acts}
use Rattle.step_core.specs.Linearizable.{Linearizable, history_at, concurrent_history, Entry}
use Rattle.step_core.specs.ring.Object.{object}
use Rattle.ring_machine.specs.declared.lines.Answer.{Answer}
use Rattle.runs.specs.ring.Machine.{From, Pass, State, cell_ring}
use Rattle.running.specs.Acts.{IsFresh as Fresh, AllFresh}
use Rattle.runs.specs.ring.Bounded.{call_in, call_at, in_operation, state_after, MeetsRule}
use Rattle.runs.specs.ring.Linearizable.{answer_at}
use Rattle.runs.proofs.ring.Calls.{of_calls_alone}
use Rattle.runs.proofs.ring.Pool.{PoolPass, PoolState, waiting, pool_ring}
use Rattle.runs.proofs.ring.PoolRule.{Rule, Story, counts, pool_told, pool_stays}
use Rattle.runs.proofs.ring.PoolPoints.{answer_in, call_of, object_from, pool_linearizable}
use Rattle.runs.proofs.ring.Follows.{goes, lift, twice, IsFresh, one_act, start_is}
use Rattle.runs.proofs.ring.Running.{running}

module _ {T : Type 0} (n laps passes : ℕ) where
  -- what holds of the ring with a pool between any two acts
  abbrev pub Keeps : PoolState T → Type 0
  Keeps s = Stays (pool_ring waiting n laps passes) (Rule n laps (n + passes)) (Story n laps (n + passes)) s

  -- each begin of a schedule is at a cell that is free then
  abbrev pub FreshFrom : Schedule (From T) → State T → Type 0
  FreshFrom [] s = Unit {0}
  FreshFrom (a ∷ more) s = IsFresh n laps passes s a.1 × FreshFrom more (next (cell_ring n laps passes) s a)

  -- the schedule, with a pool
  abbrev pub with_pool : Schedule (From T) → State T → Schedule (From T)
  with_pool [] s = []
  with_pool (a ∷ more) s = twice a.0 a.1 (get_elem? s.passes a.0) ++ with_pool more (next (cell_ring n laps passes) s a)

  history_append : (xs ys : Schedule (From T)) (s : PoolState T) → concurrent_history (pool_ring waiting n laps passes) answer_in (xs ++ ys) s ≡ concurrent_history (pool_ring waiting n laps passes) answer_in ys (run (pool_ring waiting n laps passes) xs s) ++ concurrent_history (pool_ring waiting n laps passes) answer_in xs s
  history_append [] ys s = sym (append-nil (concurrent_history (pool_ring waiting n laps passes) answer_in ys s))
  history_append (a ∷ xs) ys s =
      let more : List (Entry T (From T) (Answer T)) = concurrent_history (pool_ring waiting n laps passes) answer_in xs (next (pool_ring waiting n laps passes) s a) in
      let at : List (Entry T (From T) (Answer T)) = concurrent_history (pool_ring waiting n laps passes) answer_in (a ∷ []) s in
      ap (λ (l : List (Entry T (From T) (Answer T))). l ++ at) (history_append xs ys (next (pool_ring waiting n laps passes) s a)) ∙ append_assoc (concurrent_history (pool_ring waiting n laps passes) answer_in ys (run (pool_ring waiting n laps passes) xs (next (pool_ring waiting n laps passes) s a))) more at

  pub record Followed (schedule : Schedule (From T)) (s : State T) (free : List ℕ) : Type 0 where
    pub left : List ℕ
    pub ends : run (pool_ring waiting n laps passes) (with_pool schedule s) (lift free s) ≡ lift left (run (cell_ring n laps passes) schedule s)
    pub heard : concurrent_history (pool_ring waiting n laps passes) answer_in (with_pool schedule s) (lift free s) ≡ concurrent_history (cell_ring n laps passes) answer_at schedule s
    pub keeps : Keeps (lift left (run (cell_ring n laps passes) schedule s))

  pub kept_run : (schedule : Schedule (From T)) (s : PoolState T) → Keeps s → Keeps (run (pool_ring waiting n laps passes) schedule s)
  kept_run schedule s k =
      run_kept (pool_ring waiting n laps passes) Keeps (stays_holds (pool_ring waiting n laps passes) (Rule n laps (n + passes)) (Story n laps (n + passes)) (pool_told n laps (n + passes) passes)) schedule s k

  joined : (first rest : Schedule (From T)) (y y' z : PoolState T) → run (pool_ring waiting n laps passes) first y ≡ y' → run (pool_ring waiting n laps passes) rest y' ≡ z → run (pool_ring waiting n laps passes) (first ++ rest) y ≡ z
  joined first rest y y' z e e' = run_append (pool_ring waiting n laps passes) first rest y ∙ ap (run (pool_ring waiting n laps passes) rest) e ∙ e'

  heard_joined : (first rest : Schedule (From T)) (y y' : PoolState T) (before after : List (Entry T (From T) (Answer T))) → run (pool_ring waiting n laps passes) first y ≡ y' → concurrent_history (pool_ring waiting n laps passes) answer_in first y ≡ before
      → concurrent_history (pool_ring waiting n laps passes) answer_in rest y' ≡ after → concurrent_history (pool_ring waiting n laps passes) answer_in (first ++ rest) y ≡ after ++ before
  heard_joined first rest y y' before after e b a =
      history_append first rest y
      ∙ ap (λ (l : List (Entry T (From T) (Answer T))). l ++ concurrent_history (pool_ring waiting n laps passes) answer_in first y) (ap (concurrent_history (pool_ring waiting n laps passes) answer_in rest) e ∙ a)
      ∙ ap (λ (l : List (Entry T (From T) (Answer T))). after ++ l) b

  pub followed : (schedule : Schedule (From T)) (s : State T) (free : List ℕ) → Keeps (lift free s) → FreshFrom schedule s → Followed schedule s free
  followed [] s free k fresh = record { left = free; ends = refl; heard = refl; keeps = k }
  followed (a ∷ more) s free k fresh =
      let o = one_act waiting n laps passes s free a.0 a.1 (get_elem? s.passes a.0) k.rule refl fresh.0 in
      let first : Schedule (From T) = twice a.0 a.1 (get_elem? s.passes a.0) in
      let s' : State T = next (cell_ring n laps passes) s a in
      let k' : Keeps (lift o.free' s') = subst Keeps o.ends (kept_run first (lift free s) k) in
      let f = followed more s' o.free' k' fresh.1 in
      let rest : Schedule (From T) = with_pool more s' in
      record {
        left = f.left;
        ends = joined first rest (lift free s) (lift o.free' s') (lift f.left (run (cell_ring n laps passes) more s')) o.ends f.ends;
        heard = heard_joined first rest (lift free s) (lift o.free' s') (history_at (cell_ring n laps passes) answer_at s a.0 a.1 (get_elem? s.passes a.0)) (concurrent_history (cell_ring n laps passes) answer_at more s') o.ends o.heard f.heard;
        keeps = f.keeps;
      }

  -- The acts of a table, as a schedule

  fresh_append : (xs ys : Schedule (From T)) (s : State T) → FreshFrom xs s → FreshFrom ys (run (cell_ring n laps passes) xs s) → FreshFrom (xs ++ ys) s
  fresh_append [] ys s f g = g
  fresh_append (a ∷ xs) ys s f g = (f.0, fresh_append xs ys (next (cell_ring n laps passes) s a) f.1 g)

  pub fresh_later : (xs ys : Schedule (From T)) (s : State T) → FreshFrom (xs ++ ys) s → FreshFrom ys (run (cell_ring n laps passes) xs s)
  fresh_later [] ys s f = f
  fresh_later (a ∷ xs) ys s f = fresh_later xs ys (next (cell_ring n laps passes) s a) f.1

  fresh_one : (numbers : ℕ) (s : State T) (k : Now names (core T n laps passes)) → Shows (ring_on T n laps passes) (cell_ring n laps passes) call_at numbers s k → (p : ℕ) (d : Doing (SeatLine T)) → Fresh names (core T n laps passes) k d → FreshFrom (one call_at p d) s
  fresh_one numbers s k sh p (Begins (At l)) f = (
    record {
      is_cell = f.is_cell;
      in_no_slot = λ i low e. f.in_no_slot i low (ap (λ m. (m.slot i).index) (sym sh.memory) ∙ e);
      with_no_pass = λ q v u at e busy. f.with_no_pass q u (sym (sh.lines q v at) ∙ e) busy;
    },
    tt,
  )
  fresh_one numbers s k sh p (Begins (Stock cs)) f = absurd f
  fresh_one numbers s k sh p Steps f = (tt, tt)
  fresh_one numbers s k sh p Looks f = tt
  fresh_one numbers s k sh p Hears f = tt

  abbrev pub Allowed : Acts (SeatLine T) → Type 0
  Allowed acts = Every (λ a. IsAllowed names (core T n laps passes) a.1) acts

  pub fresh_all : (numbers : ℕ) (acts : Acts (SeatLine T)) → Below numbers acts → Allowed acts → AllFresh names (core T n laps passes) acts → FreshFrom (schedule_of call_at acts) (start (cell_ring n laps passes) numbers)
  fresh_all numbers [] low allowed fresh = tt
  fresh_all numbers (a ∷ older) low allowed fresh =
      fresh_append (schedule_of call_at older) (one call_at a.0 a.1) (start (cell_ring n laps passes) numbers) (fresh_all numbers older low.1 allowed.1 fresh.1)
      (fresh_one numbers (state_after n laps passes numbers older) (played names (core T n laps passes) older) (shows_all (ring_on T n laps passes) (cell_ring n laps passes) call_at (running n laps passes) numbers older low.1 allowed.1) a.0 a.1 fresh.0)

  -- a pass as the rule counts it
  same_lines : (vs : List (Pass T)) → map counts (map (λ (v : PoolPass T). v.line) (map goes vs)) ≡ map (λ (v : Pass T). in_operation v.line) vs
  same_lines [] = refl
  same_lines (v ∷ vs) = ap (λ (ls : List (SeatLine T)). in_operation v.line ∷ ls) (same_lines vs)

  pub meets_rule : (free : List ℕ) (s : State T) → Keeps (lift free s) → MeetsRule n laps passes s
  meets_rule free s k = record {
    free = free;
    good = subst (λ (ss : List (SeatLine T)). Good T n laps (n + passes) s.memory (passes_of (Stock free ∷ ss)) s.history) (same_lines s.passes) k.rule;
  }

  module _ (some_slot : 0 < n) (numbers : ℕ) (acts : Acts (SeatLine T)) (low : Below numbers acts) (allowed : Allowed acts) (fresh : AllFresh names (core T n laps passes) acts) where
    abbrev schedule : Schedule (From T)
    schedule = schedule_of call_at acts

    abbrev begins : State T
    begins = start (cell_ring n laps passes) numbers

    pub follows : Followed schedule begins (cells_from n passes)
    follows = followed schedule begins (cells_from n passes) (subst Keeps (sym (start_is waiting n laps passes numbers)) (pool_stays n laps passes some_slot numbers)) (fresh_all numbers acts low allowed fresh)

    pub meets : MeetsRule n laps passes (state_after n laps passes numbers acts)
    meets = meets_rule follows.left (state_after n laps passes numbers acts) follows.keeps

    ring_linearizable : Linearizable (cell_ring n laps passes) answer_at (object_from n laps) numbers schedule
    ring_linearizable =
        let l = pool_linearizable n laps passes numbers (with_pool schedule begins) some_slot in
        record {
          course = l.course;
          same_calls = l.same_calls ∙ ap (concurrent_history (pool_ring waiting n laps passes) answer_in (with_pool schedule begins)) (sym (start_is waiting n laps passes numbers)) ∙ follows.heard;
          right = l.right;
          same_history = l.same_history ∙ ap (λ (z : PoolState T). (run (pool_ring waiting n laps passes) (with_pool schedule begins) z).history) (sym (start_is waiting n laps passes numbers)) ∙ ap (λ (z : PoolState T). z.history) follows.ends;
        }

    linearizable_at : IsLinearizable names (core T n laps passes) call_at answer_at (object_from n laps) acts
    linearizable_at = linearizable_acts (ring_on T n laps passes) (cell_ring n laps passes) call_at answer_at (running n laps passes) (object_from n laps) numbers acts low allowed ring_linearizable

  pub linearizable : (acts : Acts (SeatLine T)) → 0 < n → Allowed acts → AllFresh names (core T n laps passes) acts → IsLinearizable names (core T n laps passes) call_in answer_at (object n laps) acts
  linearizable acts some_slot allowed fresh =
      of_calls_alone call_of names (core T n laps passes) call_at answer_at (object n laps) acts (linearizable_at some_slot (numbers_of acts) acts (all_below acts) allowed fresh)
