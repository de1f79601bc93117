-- The ring with a pool runs as the ring does, if each begin is at a cell that is free.
use Rattle.std.proofs.Common.{◌≡◌, ◌≢◌, ℕ, zero, suc, ◌+◌, ◌<◌, Bool, true, false, cond, ltb, List, [], ◌∷◌, ◌++◌, map, refl, sym, ap, ◌∙◌, subst, ne_eqb, arith}
use Rattle.std.proofs.lemmas.List.{map-set, set-set}
use mathlib.Core.Option.{Option, none, some, some-injective, some-ne-none}
use lib.ListN.{get_elem?}
use Rattle.bounded_model.specs.declared.history.Event.{Event}
use Rattle.machine.specs.Schedule.{Act, Begin, Step, Schedule, Outcome, having_begun, having_stepped, begun, stepped, acts_at, next, run, start, first_pass, first_passes}
use Rattle.machine.specs.Progress.{ends_at, calls_ended}
use Rattle.machine.specs.Words.{Tagged, times, total}
use Rattle.machine.proofs.Scheduled.{set_same}
use Rattle.machine.proofs.Sums.{at_map}
use Rattle.machine.proofs.Tests.{if_below}
use Rattle.ring_machine.specs.declared.lines.Answer.{Answer}
use Rattle.ring_machine.specs.declared.lines.Call.{Call}
use Rattle.ring_machine.specs.declared.lines.Line.{Line}
use Rattle.ring_machine.specs.Machine.{Memory, cell_of, first_of, held_cells}
use Rattle.ring_machine.specs.Machine as ring
use Rattle.ring_machine.specs.Answers.{shape}
use Rattle.ring_machine.specs.Rule.{cells_in}
use Rattle.ring_table.specs.declared.line.SeatLine.{SeatLine}
use Rattle.ring_table.specs.declared.line.SeatLine.TheVariants.{At, Stock}
use Rattle.ring_table.specs.Seats.{is_idle, cells_from}
use Rattle.ring_table.proofs.Seats.{sum_at}
use Rattle.step_core.specs.Linearizable.{Entry, Invokes, Responds, history_at, concurrent_history}
use Rattle.runs.specs.ring.Machine.{From, Pass, State, cell_ring, step_at}
use Rattle.runs.specs.ring.Linearizable.{answer_at}
use Rattle.runs.proofs.ring.Free.{count_free, sum_seats}
use Rattle.runs.proofs.ring.Pool.{PoolLine, PoolOutcome, PoolPass, PoolState, Goes, without, waits, got, gets, step_in, idle_in, pool_ring}
use Rattle.runs.proofs.ring.PoolRule.{Rule, counts, first_busy}
use Rattle.runs.proofs.ring.PoolPoints.{answer_in}

-- where a list that was mapped has an element, the list has one
pub from_map : {A B : Type 0} (f : A → B) (xs : List A) (i : ℕ) (y : B) → get_elem? (map f xs) i ≡ some y → (x : A) × (get_elem? xs i ≡ some x) × (f x ≡ y)
from_map f [] i y e = absurd (some-ne-none y (sym e))
from_map f (x ∷ xs) zero y e = (x, refl, some-injective (f x) y e)
from_map f (x ∷ xs) (suc i) y e = from_map f xs i y e

pub none_map : {A B : Type 0} (f : A → B) (xs : List A) (i : ℕ) → get_elem? xs i ≡ none → get_elem? (map f xs) i ≡ none
none_map f [] i e = refl
none_map f (x ∷ xs) zero e = absurd (some-ne-none x e)
none_map f (x ∷ xs) (suc i) e = none_map f xs i e

total_none : {A : Type 0} (f : A → ℕ) (xs : List A) → ((q : ℕ) (x : A) → get_elem? xs q ≡ some x → f x ≡ 0) → total f xs ≡ 0
total_none f [] h = refl
total_none f (x ∷ xs) h = omega (arith, h 0 x refl, total_none f xs (λ q y e. h (suc q) y e))

-- a cell that none of the slots has
none_in : (c k : ℕ) (slot : ℕ → Tagged) → ((i : ℕ) → i < k → (slot i).index ≢ c) → times c (cells_in k slot) ≡ 0
none_in c zero slot none_at = refl
none_in c (suc k) slot none_at = omega (
  arith,
  none_in c k slot (λ i low. none_at i (omega (arith, low))),
  ap {B = ℕ} (λ (b : Bool). cond b 1 0) (ne_eqb c (slot k).index (λ e. none_at k (omega arith) (sym e))),
)

module _ {T : Type 0} where
  -- a pass of the ring, and the ring's state with these free cells
  abbrev pub goes : Pass T → PoolPass T
  goes v = record { line = Goes v.line; call = v.call; begun = v.begun; seen = v.seen }

  abbrev pub lift : List ℕ → State T → PoolState T
  lift free s = record { memory = record { memory = s.memory; free = free }; passes = map goes s.passes; history = s.history }

  -- an act, as acts of the ring with a pool
  abbrev pub twice : ℕ → Act (From T) → Option (Pass T) → Schedule (From T)
  twice p a none = []
  twice p Step (some v) = (p, Step) ∷ []
  twice p (Begin from) (some v) = cond (is_idle v.line) ((p, Begin from) ∷ (p, Step) ∷ []) []

module _ {T : Type 0} (n laps passes : ℕ) where
  -- the rule, of all passes
  abbrev pub Kept : PoolState T → Type 0
  Kept s = Rule n laps (n + passes) s.memory (map (λ v. v.line) s.passes) s.history

  -- the cell is in no slot, and no pass in an operation has it
  pub record FreeIn (s : State T) (c : ℕ) : Type 0 where
    pub is_cell : c < n + passes
    pub in_no_slot : (i : ℕ) → i < n → (s.memory.slot i).index ≢ c
    pub with_no_pass : (q : ℕ) (v : Pass T) (l : Line T) → get_elem? s.passes q ≡ some v → v.line ≡ At l → ring.is_idle l ≡ false → cell_of l ≢ c

  abbrev pub IsFresh : State T → Act (From T) → Type 0
  IsFresh s (Begin (At l, call)) = FreeIn s (cell_of l)
  IsFresh s (Begin (Stock cs, call)) = ⊥
  IsFresh s Step = Unit {0}

  -- so it is in the pool
  module _ (s : State T) (free : List ℕ) (k : Kept (lift free s)) (c : ℕ) (fresh : FreeIn s c) where
    abbrev held : Line T → ℕ
    held l = times c (held_cells l)

    abbrev lines : List (PoolLine T)
    lines = map (λ v. v.line) (map goes s.passes)

    unheld : (v : Pass T) (q : ℕ) → get_elem? s.passes q ≡ some v → sum_at held (counts (Goes v.line)) ≡ 0
    unheld v q at = by_line v.line refl
      where
        by_line : (l : SeatLine T) → v.line ≡ l → sum_at held (counts (Goes l)) ≡ 0
        by_line (Stock cs) e = refl
        by_line (At l) e = by_test (ring.is_idle l) refl
          where
            by_test : (b : Bool) → ring.is_idle l ≡ b → sum_at held (cond b (Stock []) (At l)) ≡ 0
            by_test true idle = refl
            by_test false busy = omega (arith, ap {B = ℕ} (λ (b : Bool). cond b 1 0) (ne_eqb c (cell_of l) (λ same. fresh.with_no_pass q v l at e busy (sym same))))

    none_held : total (sum_at held) (map counts lines) ≡ 0
    none_held = total_none (sum_at held) (map counts lines) (λ q u e.
        let a = from_map counts lines q u e in
        let b = from_map (λ (v : PoolPass T). v.line) (map goes s.passes) q a.0 a.1 in
        let d = from_map goes s.passes q b.0 b.1 in
        subst (λ (w : SeatLine T). sum_at held w ≡ 0) (ap (λ (v : PoolPass T). counts v.line) d.2 ∙ ap counts b.2 ∙ a.2) (unheld d.0 q d.1))

    pub in_pool : ltb 0 (times c free) ≡ true
    in_pool = some_there (times c free) (omega (
      arith,
      k.once c,
      if_below {A = ℕ} c (n + passes) 1 0 fresh.is_cell,
      none_in c n s.memory.slot fresh.in_no_slot,
      sum_seats held free (map counts lines),
      count_free T c free,
      none_held,
    ))
      where
        some_there : (t : ℕ) → t ≡ 1 → ltb 0 t ≡ true
        some_there t e = ap (ltb 0) e

-- One act
module _ {T : Type 0} (refused : SeatLine T → Call T → PoolLine T) (n laps passes : ℕ) where
  gone_is : (m : Memory T) (free : List ℕ) (p : ℕ) (l : SeatLine T) → let o = step_at (shape n laps) m p l in let o' = step_in refused (shape n laps) (record { memory = m; free = free }) p (Goes l) in
      o' ≡ record { memory = record { memory = o.memory; free = o'.memory.free }; line = Goes o.line; events = o.events }
  gone_is m free p (At l) = refl
  gone_is m free p (Stock cs) = refl

  -- the state after an act of the ring is that after its acts with a pool
  abbrev Ends : List ℕ → State T → ℕ → Act (From T) → Option (Pass T) → List ℕ → Type 0
  Ends free s p a o free' = run (pool_ring refused n laps passes) (twice p a o) (lift free s) ≡ lift free' (acts_at (cell_ring n laps passes) s p a o)

  abbrev Heard : List ℕ → State T → ℕ → Act (From T) → Option (Pass T) → Type 0
  Heard free s p a o = concurrent_history (pool_ring refused n laps passes) answer_in (twice p a o) (lift free s) ≡ history_at (cell_ring n laps passes) answer_at s p a o

  abbrev EndsCalls : List ℕ → State T → ℕ → Act (From T) → Option (Pass T) → Type 0
  EndsCalls free s p a o = calls_ended (pool_ring refused n laps passes) (twice p a o) (lift free s) ≡ ends_at (cell_ring n laps passes) s.memory p a o

  pub record One (s : State T) (free : List ℕ) (p : ℕ) (a : Act (From T)) (o : Option (Pass T)) : Type 0 where
    pub free' : List ℕ
    pub ends : Ends free s p a o free'
    pub heard : Heard free s p a o
    pub ended : EndsCalls free s p a o

  module _ (s : State T) (free : List ℕ) (p : ℕ) (v : Pass T) (at : get_elem? s.passes p ≡ some v) where
    abbrev y : PoolState T
    y = lift free s

    at_lift : get_elem? y.passes p ≡ some (goes v)
    at_lift = at_map goes s.passes p v at

    -- a step
    abbrev o : Outcome (Memory T) (SeatLine T) (Event T)
    o = step_at (shape n laps) s.memory p v.line

    abbrev o' : PoolOutcome T
    o' = step_in refused (shape n laps) y.memory p (Goes v.line)

    stepped_is : stepped (pool_ring refused n laps passes) y p (goes v) o' ≡ lift o'.memory.free (stepped (cell_ring n laps passes) s p v o)
    stepped_is =
        ap (λ (z : PoolOutcome T). stepped (pool_ring refused n laps passes) y p (goes v) z) (gone_is s.memory free p v.line)
        ∙ ap (λ (vs : List (PoolPass T)). record { memory = record { memory = o.memory; free = o'.memory.free }; passes = vs; history = o.events ++ s.history }) (sym (map-set goes s.passes p (having_stepped (cell_ring n laps passes) s v o)))

    one_step : One s free p Step (some v)
    one_step = by_test (is_idle v.line) refl
      where
        ended_step : EndsCalls free s p Step (some v)
        ended_step = omega (
          arith,
          ap (ends_at (pool_ring refused n laps passes) y.memory p Step) at_lift,
          ap {B = ℕ} (λ (z : PoolOutcome T). cond (is_idle v.line) 0 (cond (idle_in z.line) 1 0)) (gone_is s.memory free p v.line),
        )

        reply : (l : SeatLine T) → List (Entry T (From T) (Answer T))
        reply l = cond (is_idle l) (Responds p (answer_at l) ∷ []) []

        by_test : (b : Bool) → is_idle v.line ≡ b → One s free p Step (some v)
        by_test true idle = record {
          free' = free;
          ends = ap (acts_at (pool_ring refused n laps passes) y p Step) at_lift
              ∙ ap (λ (b : Bool). cond b y (stepped (pool_ring refused n laps passes) y p (goes v) o')) idle
              ∙ ap (λ (b : Bool). lift free (cond b s (stepped (cell_ring n laps passes) s p v o))) (sym idle);
          heard = ap (history_at (pool_ring refused n laps passes) answer_in y p Step) at_lift
              ∙ ap (λ (b : Bool). cond b [] (cond (idle_in o'.line) (Responds p (answer_in o'.line) ∷ []) [])) idle
              ∙ ap (λ (b : Bool). cond b [] (reply o.line)) (sym idle);
          ended = ended_step;
        }
        by_test false busy = record {
          free' = o'.memory.free;
          ends = ap (acts_at (pool_ring refused n laps passes) y p Step) at_lift
              ∙ ap (λ (b : Bool). cond b y (stepped (pool_ring refused n laps passes) y p (goes v) o')) busy
              ∙ stepped_is
              ∙ ap (λ (b : Bool). lift o'.memory.free (cond b s (stepped (cell_ring n laps passes) s p v o))) (sym busy);
          heard = ap (history_at (pool_ring refused n laps passes) answer_in y p Step) at_lift
              ∙ ap (λ (l : PoolLine T). cond (is_idle v.line) [] (cond (idle_in l) (Responds p (answer_in l) ∷ []) [])) (ap (λ (z : PoolOutcome T). z.line) (gone_is s.memory free p v.line));
          ended = ended_step;
        }

    -- a begin at a cell that the pool has
    module _ (l : Line T) (call : Call T) (there : ltb 0 (times (cell_of l) free) ≡ true) where
      abbrev from : From T
      from = (At l, call)

      abbrev c : ℕ
      c = cell_of l

      abbrev u : PoolPass T
      u = having_begun (pool_ring refused n laps passes) y (goes v) from

      abbrev y1 : PoolState T
      y1 = begun (pool_ring refused n laps passes) y p (goes v) from

      at_begun : get_elem? y1.passes p ≡ some u
      at_begun = set_same y.passes p (goes v) u at_lift

      first_is : is_idle v.line ≡ true → next (pool_ring refused n laps passes) y (p, Begin from) ≡ y1
      first_is idle = ap (acts_at (pool_ring refused n laps passes) y p (Begin from)) at_lift ∙ ap (λ (b : Bool). cond b y1 y) idle

      gets_is : gets refused y.memory (At l) call ≡ got y.memory c call
      gets_is = ap (λ (b : Bool). cond b (got y.memory c call) (waits y.memory (refused (At l) call))) there

      second_is : next (pool_ring refused n laps passes) y1 (p, Step) ≡ lift (without c free) (begun (cell_ring n laps passes) s p v from)
      second_is =
          ap (acts_at (pool_ring refused n laps passes) y1 p Step) at_begun
          ∙ ap (λ (z : PoolOutcome T). stepped (pool_ring refused n laps passes) y1 p u z) gets_is
          ∙ ap (λ (vs : List (PoolPass T)). record { memory = record { memory = s.memory; free = without c free }; passes = vs; history = s.history })
          (set-set (map goes s.passes) p u (goes (having_begun (cell_ring n laps passes) s v from)) ∙ sym (map-set goes s.passes p (having_begun (cell_ring n laps passes) s v from)))

      heard_begin : is_idle v.line ≡ true → history_at (pool_ring refused n laps passes) answer_in y p (Begin from) (get_elem? y.passes p) ≡ Invokes p from ∷ []
      heard_begin idle = ap (history_at (pool_ring refused n laps passes) answer_in y p (Begin from)) at_lift ∙ ap (λ (b : Bool). cond b (Invokes p from ∷ []) []) idle

      heard_gets : history_at (pool_ring refused n laps passes) answer_in y1 p Step (get_elem? y1.passes p) ≡ []
      heard_gets = ap (history_at (pool_ring refused n laps passes) answer_in y1 p Step) at_begun
          ∙ ap (λ (z : PoolOutcome T). cond (idle_in z.line) (Responds p (answer_in z.line) ∷ []) []) gets_is
          ∙ ap (λ (b : Bool). cond b (Responds p (answer_at (At (first_of c call))) ∷ []) []) (first_busy c call)

      heard_ring : is_idle v.line ≡ true → history_at (cell_ring n laps passes) answer_at s p (Begin from) (some v) ≡ Invokes p from ∷ []
      heard_ring idle = ap (λ (b : Bool). cond b (cond (ring.is_idle (first_of c call)) (Responds p (answer_at (At (first_of c call))) ∷ []) [] ++ Invokes p from ∷ []) []) idle
          ∙ ap (λ (b : Bool). cond b (Responds p (answer_at (At (first_of c call))) ∷ []) [] ++ Invokes p from ∷ []) (first_busy c call)

      ended_begin : ends_at (pool_ring refused n laps passes) y.memory p (Begin from) (get_elem? y.passes p) ≡ 0
      ended_begin = ap (ends_at (pool_ring refused n laps passes) y.memory p (Begin from)) at_lift

      ended_gets : is_idle v.line ≡ true → (let z = next (pool_ring refused n laps passes) y (p, Begin from) in ends_at (pool_ring refused n laps passes) z.memory p Step (get_elem? z.passes p) ≡ 0)
      ended_gets idle = ap (λ (z : PoolState T). ends_at (pool_ring refused n laps passes) z.memory p Step (get_elem? z.passes p)) (first_is idle)
          ∙ ap (ends_at (pool_ring refused n laps passes) y1.memory p Step) at_begun
          ∙ ap {B = ℕ} (λ (z : PoolOutcome T). cond (idle_in z.line) 1 0) gets_is
          ∙ ap {B = ℕ} (λ (b : Bool). cond b 1 0) (first_busy c call)

      one_begin : One s free p (Begin from) (some v)
      one_begin = by_test (is_idle v.line) refl
        where
          by_test : (b : Bool) → is_idle v.line ≡ b → One s free p (Begin from) (some v)
          by_test true idle = record {
            free' = without c free;
            ends = ap (λ (b : Bool). run (pool_ring refused n laps passes) (cond b ((p, Begin from) ∷ (p, Step) ∷ []) []) y) idle
                ∙ ap (λ (z : PoolState T). next (pool_ring refused n laps passes) z (p, Step)) (first_is idle)
                ∙ second_is
                ∙ ap (λ (b : Bool). lift (without c free) (cond b (begun (cell_ring n laps passes) s p v from) s)) (sym idle);
            heard = ap (λ (b : Bool). concurrent_history (pool_ring refused n laps passes) answer_in (cond b ((p, Begin from) ∷ (p, Step) ∷ []) []) y) idle
                ∙ ap (λ (z : PoolState T). ([] ++ history_at (pool_ring refused n laps passes) answer_in z p Step (get_elem? z.passes p)) ++ history_at (pool_ring refused n laps passes) answer_in y p (Begin from) (get_elem? y.passes p)) (first_is idle)
                ∙ (λ t. ([] ++ heard_gets t) ++ heard_begin idle t)
                ∙ sym (heard_ring idle);
            ended = ap (λ (b : Bool). calls_ended (pool_ring refused n laps passes) (cond b ((p, Begin from) ∷ (p, Step) ∷ []) []) y) idle ∙ omega (arith, ended_begin, ended_gets idle);
          }
          by_test false busy = record {
            free' = free;
            ends = ap (λ (b : Bool). run (pool_ring refused n laps passes) (cond b ((p, Begin from) ∷ (p, Step) ∷ []) []) y) busy
                ∙ ap (λ (b : Bool). lift free (cond b (begun (cell_ring n laps passes) s p v from) s)) (sym busy);
            heard = ap (λ (b : Bool). concurrent_history (pool_ring refused n laps passes) answer_in (cond b ((p, Begin from) ∷ (p, Step) ∷ []) []) y) busy
                ∙ ap (λ (b : Bool). cond b (cond (ring.is_idle (first_of c call)) (Responds p (answer_at (At (first_of c call))) ∷ []) [] ++ Invokes p from ∷ []) []) (sym busy);
            ended = ap (λ (b : Bool). calls_ended (pool_ring refused n laps passes) (cond b ((p, Begin from) ∷ (p, Step) ∷ []) []) y) busy;
          }

  pub one_act : (s : State T) (free : List ℕ) (p : ℕ) (a : Act (From T)) (o : Option (Pass T)) → Kept n laps passes (lift free s) → get_elem? s.passes p ≡ o → IsFresh n laps passes s a → One s free p a o
  one_act s free p a none k at fresh = record { free' = free; ends = refl; heard = refl; ended = refl }
  one_act s free p Step (some v) k at fresh = one_step s free p v at
  one_act s free p (Begin (At l, call)) (some v) k at fresh = one_begin s free p v at l call (in_pool n laps passes s free k (cell_of l) fresh)
  one_act s free p (Begin (Stock cs, call)) (some v) k at fresh = absurd fresh

  same_passes : (p k : ℕ) → map goes (first_passes (cell_ring {T = T} n laps passes) p k) ≡ first_passes (pool_ring refused n laps passes) p k
  same_passes p zero = refl
  same_passes p (suc k) = ap (λ (vs : List (PoolPass T)). goes (first_pass (cell_ring n laps passes) p) ∷ vs) (same_passes (p + 1) k)

  pub start_is : (numbers : ℕ) → lift (cells_from n passes) (start (cell_ring {T = T} n laps passes) numbers) ≡ start (pool_ring refused n laps passes) numbers
  start_is numbers = ap (λ (vs : List (PoolPass T)). record { memory = record { memory = (cell_ring n laps passes).first; free = cells_from n passes }; passes = vs; history = [] }) (same_passes 0 numbers)
