-- A put of the ring is refused as full only if it is full.
use Rattle.std.proofs.Common.{ℕ, ◌+◌, ◌<◌, ◌≤◌, List, ◌∷◌, ◌++◌, length, arith}
use mathlib.Core.Option.{Option, none, some}
use Rattle.ring_machine.specs.declared.lines.Answer.{Answer}
use Rattle.ring_machine.specs.declared.lines.Call.{Call}
use Rattle.ring_machine.specs.declared.lines.Call.TheVariants.{Put as CallPut, Take as CallTake}
use Rattle.ring_machine.specs.Answers.{state}
use Rattle.step_core.specs.Linearizable.{Entry, most_of, events, call_of, under_way, most_in_hand, IsLinearization}
use Rattle.step_core.specs.ring.Object.{most, object, full_put}
use Rattle.step_core.proofs.InTime.{run_before}
use Rattle.step_core.proofs.Full.{full, total_count}

module _ {T : Type 0} where
  pub is_full : (n laps p : ℕ) (v u : T) (newer older : List (Entry T (Call T) (Answer T))) → IsLinearization (object n laps) (newer ++ full_put p v u ∷ older) → n < length (state n laps (events older)).values + most_in_hand (object n laps) older
  is_full n laps p v u newer older run =
      let r = run_before (object n laps) newer (full_put p v u ∷ older) run in
      let f : n + 1 ≤ length (state n laps (events older)).values + most_in_hand (object n laps) older = full (object n laps) older r.2 p (CallPut v) r.0 r.1.2 r.1.1.0.0 in
      omega (arith, f)

  pub few_of : (call : Call T) → most call ≤ 1
  few_of (CallPut v) = omega arith
  few_of CallTake = omega arith
  few_of call = omega arith

  few : (n laps : ℕ) (c : Option (Call T)) → most_of (object {T = T} n laps) c ≤ 1
  few n laps none = omega arith
  few n laps (some call) = few_of call

  pub by_calls : (n laps p : ℕ) (v u : T) (newer older : List (Entry T (Call T) (Answer T))) → IsLinearization (object n laps) (newer ++ full_put p v u ∷ older) → n < length (state n laps (events older)).values + length (under_way older)
  by_calls n laps p v u newer older run =
      omega (arith, is_full n laps p v u newer older run, total_count (λ (q : ℕ). most_of (object {T = T} n laps) (call_of q older)) (under_way older) (λ q. few n laps (call_of q older)))
