-- The queue's calls end: in every schedule the steps made are paid for by the calls, and each call by its own
-- steps and by the exchanges that others win.
use Rattle.std.proofs.Common.{◌≡◌, ℕ, suc, ◌+◌, ◌*◌, ◌<◌, ◌≤◌, true, map, refl, None, arith}
use Rattle.std.proofs.Math.Nat.{mul-le-mul_right}
use Rattle.std.proofs.lemmas.Bool.{false≢true}
use mathlib.Core.Option.{Option, none, some}
use lib.ListN.{get_elem?}
use Rattle.tagged_index.specs.declared.word.TheConstants.{NULL}
use Rattle.machine.specs.Bound.{IsStretch, own_steps}
use Rattle.machine.specs.Progress.{steps_made, calls_ended, calls_cost, others_win, AtOnce, LockFree}
use Rattle.machine.specs.Schedule.{Schedule, start as start_state, after}
use Rattle.machine.proofs.Paying.{Weighs, Pays, AnyLine, any_line, AnyCall, any_call, overtaken, unhindered, all_paid, calls_end, some_ends, left_at}
use Rattle.machine.proofs.Scheduled.{passes_after}
use Rattle.machine.proofs.Stories.{rule_holds, start_rules_alike}
use Rattle.machine.proofs.Sums.{at_map}
use Rattle.queue_machine.specs.declared.lines.Call.{Call}
use Rattle.queue_machine.specs.declared.lines.Call.TheVariants.{Put as CallPut}
use Rattle.queue_machine.specs.declared.lines.Line.{Line}
use Rattle.queue_machine.specs.declared.lines.Line.TheVariants.{Idle}
use Rattle.queue_machine.specs.Answers.{shape}
use Rattle.queue_machine.specs.Machine.{Memory, Pass, State, is_idle, starts, queue}
use Rattle.queue_machine.proofs.Start.{start_kept}
use Rattle.step_core.specs.queue.Bound.{MeetsRule}
use Rattle.step_core.specs.queue.Costs.{alone, harms, cost}
use Rattle.step_core.proofs.queue.Run.{Rule, Story, starts_busy, queue_told, run_meets}
use Rattle.step_core.proofs.queue.Weight.{weight, price, harm, lag_small, late_small, weight_small, harm_small, price_small}
use Rattle.step_core.proofs.queue.Pays.{step_raises, step_falls}

sums : (w h k : ℕ) → w ≤ 20 → h ≤ 14 → w + h * k ≤ 20 + 14 * k
sums w h k le le' = omega (arith, le, mul-le-mul_right {m = h} {n = 14} k le')

module _ {T : Type 0} (n limit : ℕ) where
  abbrev Rules : State T → Type 0
  Rules s = MeetsRule n limit s

  line_at : (s : State T) (q : ℕ) (v : Pass T) → get_elem? s.passes q ≡ some v → get_elem? (map (λ (u : Pass T). u.line) s.passes) q ≡ some v.line
  line_at s q v at = at_map (λ (u : Pass T). u.line) s.passes q v at

  weighs : Weighs (queue (shape n limit)) Rules AnyLine weight price
  weighs = record {
    holds = rule_holds (queue (shape n limit)) (Rule n limit) (Story n limit) (queue_told n limit);
    falls = λ s p v k at busy any. (step_falls k.good p p v.line (line_at s p v at) busy).0;
    counts = λ s p v k at busy any. tt;
    raises = λ s p q u v k at at'. step_raises k.good q q p v.line u.line (line_at s q v at') (line_at s p u at);
  }

  idle : (m : Memory T) (l : Line T) → is_idle l ≡ true → (weight m l ≡ 0) × (harm l ≡ 0)
  idle m (Idle a) e = (refl, refl)
  idle m l e = absurd (false≢true e)

  begins : (m : Memory T) (call : Call T) → (weight m (starts call) ≤ alone call) × (harm (starts call) ≤ harms call)
  begins m (CallPut v) = (omega (arith, lag_small m), omega arith)
  begins m call = (omega (arith, lag_small m, late_small m), omega arith)

  queue_pays : Pays (queue (shape n limit)) Rules weight price harm alone harms
  queue_pays = record {
    weighs = weighs;
    idle = idle;
    starts = λ l call. starts_busy n limit call;
    begins = λ m l call. begins m call;
    pays = λ s p v k at busy. (step_falls k.good p p v.line (line_at s p v at) busy).1;
  }

  call_small : (k : ℕ) (call : Call T) → cost k call ≤ 20 + 14 * k
  call_small k call = sums (alone call) (harms call) k (lone call) (harmful call)
    where
      lone : (call : Call T) → alone call ≤ 20
      lone (CallPut v) = omega arith
      lone call = omega arith

      harmful : (call : Call T) → harms call ≤ 14
      harmful (CallPut v) = omega arith
      harmful call = omega arith

  pass_small : (k : ℕ) (s : State T) (q : ℕ) (u : Pass T) → get_elem? s.passes q ≡ some u → weight s.memory u.line + harm u.line * k ≤ 20 + 14 * k
  pass_small k s q u at = sums (weight s.memory u.line) (harm u.line) k (weight_small s.memory u.line) (harm_small u.line)

  pub queue_ends : (k : ℕ) (s : State T) (schedule : Schedule (Call T)) → MeetsRule n limit s → AtOnce (queue (shape n limit)) (suc k) schedule s
      → steps_made (queue (shape n limit)) schedule s ≤ (20 + 14 * k) * (calls_ended (queue (shape n limit)) schedule s + suc k)
  queue_ends k s schedule rules few =
      calls_end (queue (shape n limit)) Rules weight price harm alone harms queue_pays k AnyCall (20 + 14 * k) (λ call any. call_small k call) s rules (pass_small k s) schedule (any_call schedule) few

  pub queue_lock_free : (k : ℕ) → 0 < n → n < NULL → 0 < limit → LockFree (queue {T = T} (shape n limit)) (suc k) ((20 + 14 * k) * suc k)
  queue_lock_free k pos small below before during =
      let s = after (queue {T = T} (shape n limit)) (suc k) before in
      some_ends (queue (shape n limit)) Rules weight price harm alone harms queue_pays k AnyCall (20 + 14 * k) (λ call any. call_small k call) s
      (run_meets n limit (suc k) before pos small below) (pass_small k s) during (any_call during) (passes_after (queue (shape n limit)) (suc k) before)

  -- from the start: all that is spent is what the calls cost that are begun
  pub queue_costs : (k passes : ℕ) (schedule : Schedule (Call T)) → 0 < n → n < NULL → 0 < limit → AtOnce (queue (shape n limit)) (suc k) schedule (start_state (queue (shape n limit)) passes)
      → steps_made (queue (shape n limit)) schedule (start_state (queue (shape n limit)) passes) ≤ calls_cost (queue (shape n limit)) (cost k) schedule (start_state (queue (shape n limit)) passes)
  queue_costs k passes schedule pos small below few =
      all_paid (queue (shape n limit)) Rules weight price harm alone harms queue_pays k passes schedule
      (start_rules_alike (queue (shape n limit)) (Rule n limit) (Story n limit) (Idle None) (λ p. refl) passes (start_kept n limit passes pos small below)) (λ p. refl) few

  left_small : (m : Memory T) (o : Option (Pass T)) → left_at (queue (shape n limit)) Rules AnyLine weight price weighs m o ≤ 20
  left_small m none = omega arith
  left_small m (some v) = weight_small m v.line

  pub queue_overtaken : (p : ℕ) (s : State T) (schedule : Schedule (Call T)) → MeetsRule n limit s
      → own_steps (queue (shape n limit)) p schedule s ≤ 20 + 8 * others_win (queue (shape n limit)) p schedule s
  queue_overtaken p s schedule rules =
      omega (arith, overtaken (queue (shape n limit)) Rules AnyLine weight price weighs 8 price_small p s schedule rules (any_line (get_elem? s.passes p)), left_small s.memory (get_elem? s.passes p))

  pub queue_unhindered : (p : ℕ) (s : State T) (stretch : Schedule (Call T)) → MeetsRule n limit s → IsStretch (queue (shape n limit)) p stretch s → own_steps (queue (shape n limit)) p stretch s ≤ 20
  queue_unhindered p s stretch rules alone =
      omega (arith, unhindered (queue (shape n limit)) Rules AnyLine weight price weighs 8 price_small p s stretch rules (any_line (get_elem? s.passes p)) alone, left_small s.memory (get_elem? s.passes p))
