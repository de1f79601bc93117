-- The ring with a pool is linearizable.
use Rattle.std.proofs.Common.{◌≡◌, ℕ, ◌+◌, ◌<◌, true, false, List, refl, ap, sym, subst, inl}
use Rattle.std.proofs.lemmas.Bool.{false≢true}
use mathlib.Core.Option.{Option, none, some, some-ne-none}
use Rattle.bounded_model.specs.declared.history.Event.{Event}
use Rattle.bounded_model.specs.Histories.{own}
use Rattle.machine.specs.Schedule.{Schedule}
use Rattle.ring_machine.specs.declared.lines.Answer.{Answer}
use Rattle.ring_machine.specs.declared.lines.Call.{Call}
use Rattle.ring_machine.specs.Machine as ring
use Rattle.ring_table.specs.declared.line.SeatLine.TheVariants.{At, Stock}
use Rattle.step_core.specs.Linearizable.{Object, Linearizable}
use Rattle.step_core.specs.ring.Object.{most, object}
use Rattle.step_core.proofs.Entries.{visible}
use Rattle.step_core.proofs.Holding.{hand_after, Within}
use Rattle.step_core.proofs.Points.{Going, Ended, Speaks, linearizable}
use Rattle.runs.proofs.ring.RingPoints.{ring_going, ring_ended, one_answer}
use Rattle.runs.specs.ring.Machine.{From}
use Rattle.runs.specs.ring.Linearizable.{answer_at}
use Rattle.runs.proofs.ring.Calls.{of_more}
use Rattle.runs.proofs.ring.Pool.{PoolLine, Gets, Goes, idle_in, waiting, pool_ring}
use Rattle.runs.proofs.ring.PoolRule.{Rule, Story, pool_told, pool_stays}

module _ {T : Type 0} where
  abbrev pub answer_in : PoolLine T → Option (Answer T)
  answer_in (Gets from call) = none
  answer_in (Goes l) = answer_at l

  abbrev pub call_of : From T → Call T
  call_of from = from.1

  -- the ring, of calls that are begun with a cell
  abbrev pub object_from : ℕ → ℕ → Object T (From T) (Answer T)
  object_from n laps = of_more call_of (object n laps)

module _ {T : Type 0} (n laps passes : ℕ) where
  going : (p : ℕ) (c : From T) (l : PoolLine T) (b seen : List (Event T)) → Story n laps (n + passes) p (some c) l b seen → idle_in l ≡ false → Going (object_from n laps) p c b seen
  going p c (Gets from call) b seen story busy = record { between = story.1.between; is = story.1.is; point = inl (ap visible story.1.none_own); holds = subst (Within (most (call_of c))) (sym story.1.none_own) tt }
  going p c (Goes (At l)) b seen story busy = let g = ring_going n laps (n + passes) p c.1 l b seen story busy in record { between = g.between; is = g.is; point = g.point; holds = g.holds }
  going p c (Goes (Stock cs)) b seen story busy = absurd story

  ended : (p : ℕ) (c : From T) (l : PoolLine T) (b seen : List (Event T)) → hand_after (own p b) ≡ 0 → Story n laps (n + passes) p (some c) l b seen → idle_in l ≡ true → Ended (object_from n laps) p c (answer_in l) b seen
  ended p c (Gets from call) b seen empty story idle = absurd (false≢true idle)
  ended p c (Goes (At l)) b seen empty story idle =
      let g = ring_ended n laps (n + passes) p c.1 l b seen empty story idle in
      record { a = g.a; heard = g.heard; between = g.between; is = g.is; holds = g.holds; point = g.point }
  ended p c (Goes (Stock cs)) b seen empty story idle = absurd story

  unbegun : (p : ℕ) (l : PoolLine T) (b seen : List (Event T)) → Story n laps (n + passes) p none l b seen → idle_in l ≡ true
  unbegun p (Gets from call) b seen story = absurd (some-ne-none (from, call) (sym story.0))
  unbegun p (Goes (At l)) b seen story = ap ring.is_idle story.1
  unbegun p (Goes (Stock cs)) b seen story = absurd story

  pool_speaks : Speaks {T = T} (pool_ring waiting n laps passes) answer_in (object_from n laps) (Rule n laps (n + passes)) (Story n laps (n + passes))
  pool_speaks = record {
    legal = λ m lines h k. k.told.legal;
    rest_idle = λ p. refl;
    starts_busy = λ call l. refl;
    unbegun = unbegun;
    going = λ p c l b seen legal story busy. going p c l b seen story busy;
    ended = λ p c l b seen legal empty story idle. ended p c l b seen empty story idle;
    one_answer = λ p c a a' e. one_answer p c.1 a a' e;
  }

  pub pool_linearizable : (numbers : ℕ) (schedule : Schedule (From T)) → 0 < n → Linearizable (pool_ring {T = T} waiting n laps passes) answer_in (object_from n laps) numbers schedule
  pool_linearizable numbers schedule some_slot =
      linearizable {T = T} (pool_ring waiting n laps passes) answer_in (object_from n laps) (Rule n laps (n + passes)) (Story n laps (n + passes)) (pool_told n laps (n + passes) passes) pool_speaks numbers schedule (pool_stays n laps passes some_slot numbers)
