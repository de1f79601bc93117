-- The ring's calls end: in every schedule the steps made are paid for by the calls, and each call by its own
-- steps and by the exchanges that others win.
use Rattle.std.proofs.Common.{◌≡◌, ℕ, suc, ◌+◌, ◌*◌, ◌<◌, ◌≤◌, true, [], map, refl, arith}
use Rattle.std.proofs.Math.Nat.{mul-le-mul_right}
use Rattle.std.proofs.lemmas.Bool.{false≢true}
use mathlib.Core.Option.{Option, none, some}
use lib.ListN.{get_elem?}
use Rattle.machine.specs.Bound.{IsStretch, own_steps}
use Rattle.machine.specs.Progress.{steps_made, calls_ended, calls_cost, others_win, AtOnce, LockFree}
use Rattle.machine.specs.Schedule.{Schedule, start as start_state, after}
use Rattle.machine.proofs.Paying.{Weighs, Pays, AnyLine, any_line, AnyCall, any_call, overtaken, unhindered, all_paid, calls_end, some_ends, left_at}
use Rattle.machine.proofs.Scheduled.{passes_after}
use Rattle.machine.proofs.Stories.{rule_holds}
use Rattle.machine.proofs.Sums.{at_map}
use Rattle.ring_machine.specs.declared.lines.Call.{Call}
use Rattle.ring_machine.specs.declared.lines.Call.TheVariants.{Put as CallPut, Take as CallTake, Close as CallClose, Shut as CallShut, Look as CallLook, Len as CallLen, Gauge as CallGauge}
use Rattle.ring_machine.specs.declared.lines.Line.{Line}
use Rattle.ring_machine.specs.declared.lines.Line.TheVariants.{Idle}
use Rattle.ring_machine.specs.Answers.{shape}
use Rattle.ring_machine.specs.Machine.{Memory, Pass, State, is_idle, starts, ring}
use Rattle.step_core.specs.ring.Bound.{MeetsRule}
use Rattle.step_core.specs.ring.Costs.{alone, harms, cost}
use Rattle.step_core.proofs.ring.Run.{Rule, Story, starts_busy, ring_told, run_meets}
use Rattle.step_core.proofs.ring.Weight.{weight, price, harm, lag_small, late_small, weight_small, harm_small, price_small}
use Rattle.step_core.proofs.ring.Pays.{step_raises, step_falls}

sums : (w h k : ℕ) → w ≤ 31 → h ≤ 24 → w + h * k ≤ 31 + 24 * k
sums w h k le le' = omega (arith, le, mul-le-mul_right {m = h} {n = 24} k le')

module _ {T : Type 0} (n laps cells : ℕ) where
  abbrev pub Rules : State T → Type 0
  Rules s = MeetsRule n laps cells s

  line_at : (s : State T) (q : ℕ) (v : Pass T) → get_elem? s.passes q ≡ some v → get_elem? (map (λ (u : Pass T). u.line) s.passes) q ≡ some v.line
  line_at s q v at = at_map (λ (u : Pass T). u.line) s.passes q v at

  weighs : Weighs (ring (shape n laps)) Rules AnyLine weight price
  weighs = record {
    holds = rule_holds (ring (shape n laps)) (Rule n laps cells) (Story n laps cells) (ring_told n laps cells);
    falls = λ s p v k at busy any. (step_falls k p p v.line (line_at s p v at) busy).0;
    counts = λ s p v k at busy any. tt;
    raises = λ s p q u v k at at'. step_raises k q q v.line u.line (line_at s q v at');
  }

  idle : (m : Memory T) (l : Line T) → is_idle l ≡ true → (weight m l ≡ 0) × (harm l ≡ 0)
  idle m (Idle c a) e = (refl, refl)
  idle m l e = absurd (false≢true e)

  begins : (m : Memory T) (l : Line T) (call : Call T) → (weight m (starts call l) ≤ alone call) × (harm (starts call l) ≤ harms call)
  begins m l (CallPut v) = (omega (arith, lag_small m), omega arith)
  begins m l CallTake = (omega (arith, late_small m), omega arith)
  begins m l CallClose = (omega (arith, lag_small m), omega arith)
  begins m l CallShut = (omega (arith, late_small m), omega arith)
  begins m l CallLook = (omega (arith, late_small m), omega arith)
  begins m l CallLen = (omega (arith, lag_small m, late_small m), omega arith)
  begins m l CallGauge = (omega (arith, lag_small m), omega arith)

  pub ring_pays : Pays (ring (shape n laps)) Rules weight price harm alone harms
  ring_pays = record {
    weighs = weighs;
    idle = idle;
    starts = λ l call. starts_busy n laps cells call l;
    begins = λ m l call. begins m l call;
    pays = λ s p v k at busy. (step_falls k p p v.line (line_at s p v at) busy).1;
  }

  pub call_small : (k : ℕ) (call : Call T) → cost k call ≤ 31 + 24 * k
  call_small k call = sums (alone call) (harms call) k (lone call) (harmful call)
    where
      lone : (call : Call T) → alone call ≤ 31
      lone (CallPut v) = omega arith
      lone call = omega arith

      harmful : (call : Call T) → harms call ≤ 24
      harmful (CallPut v) = omega arith
      harmful call = omega arith

  pub pass_small : (k : ℕ) (s : State T) (q : ℕ) (u : Pass T) → get_elem? s.passes q ≡ some u → weight s.memory u.line + harm u.line * k ≤ 31 + 24 * k
  pass_small k s q u at = sums (weight s.memory u.line) (harm u.line) k (weight_small s.memory u.line) (harm_small u.line)

  pub ring_ends : (k : ℕ) (s : State T) (schedule : Schedule (Call T)) → MeetsRule n laps cells s → AtOnce (ring (shape n laps)) (suc k) schedule s
      → steps_made (ring (shape n laps)) schedule s ≤ (31 + 24 * k) * (calls_ended (ring (shape n laps)) schedule s + suc k)
  ring_ends k s schedule rules few =
      calls_end (ring (shape n laps)) Rules weight price harm alone harms ring_pays k AnyCall (31 + 24 * k) (λ call any. call_small k call) s rules (pass_small k s) schedule (any_call schedule) few

  left_small : (m : Memory T) (o : Option (Pass T)) → left_at (ring (shape n laps)) Rules AnyLine weight price weighs m o ≤ 31
  left_small m none = omega arith
  left_small m (some v) = weight_small m v.line

  pub ring_overtaken : (p : ℕ) (s : State T) (schedule : Schedule (Call T)) → MeetsRule n laps cells s
      → own_steps (ring (shape n laps)) p schedule s ≤ 31 + 18 * others_win (ring (shape n laps)) p schedule s
  ring_overtaken p s schedule rules =
      omega (arith, overtaken (ring (shape n laps)) Rules AnyLine weight price weighs 18 price_small p s schedule rules (any_line (get_elem? s.passes p)), left_small s.memory (get_elem? s.passes p))

  pub ring_unhindered : (p : ℕ) (s : State T) (stretch : Schedule (Call T)) → MeetsRule n laps cells s → IsStretch (ring (shape n laps)) p stretch s → own_steps (ring (shape n laps)) p stretch s ≤ 31
  ring_unhindered p s stretch rules alone =
      omega (arith, unhindered (ring (shape n laps)) Rules AnyLine weight price weighs 18 price_small p s stretch rules (any_line (get_elem? s.passes p)) alone, left_small s.memory (get_elem? s.passes p))

module _ {T : Type 0} (n laps : ℕ) where
  pub ring_lock_free : (k : ℕ) → 0 < n → LockFree (ring {T = T} (shape n laps)) (suc k) ((31 + 24 * k) * suc k)
  ring_lock_free k pos before during =
      let s = after (ring {T = T} (shape n laps)) (suc k) before in
      some_ends (ring (shape n laps)) (Rules n laps (n + suc k)) weight price harm alone harms (ring_pays n laps (n + suc k)) k AnyCall (31 + 24 * k) (λ call any. call_small n laps (n + suc k) k call) s
      (run_meets n laps (suc k) before pos) (pass_small n laps (n + suc k) k s) during (any_call during) (passes_after (ring (shape n laps)) (suc k) before)

  -- from the start: all that is spent is what the calls cost that are begun
  pub ring_costs : (k passes : ℕ) (schedule : Schedule (Call T)) → 0 < n → AtOnce (ring (shape n laps)) (suc k) schedule (start_state (ring (shape n laps)) passes)
      → steps_made (ring (shape n laps)) schedule (start_state (ring (shape n laps)) passes) ≤ calls_cost (ring (shape n laps)) (cost k) schedule (start_state (ring (shape n laps)) passes)
  ring_costs k passes schedule pos few =
      all_paid (ring (shape n laps)) (Rules n laps (n + passes)) weight price harm alone harms (ring_pays n laps (n + passes)) k passes schedule (run_meets n laps passes [] pos) (λ p. refl) few
