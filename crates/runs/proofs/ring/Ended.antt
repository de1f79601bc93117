-- Calls on a ring end: each that does, and each pass, is good for so many steps at most.
use Rattle.std.proofs.Common.{◌≡◌, ◌<◌, ◌≤◌, ℕ, suc, ◌+◌, ◌-◌, ◌*◌, List, ◌++◌, ap, subst, arith}
use Rattle.std.proofs.Math.Nat.{mul-le-mul_right}
use Rattle.machine.specs.Progress.{calls_ended}
use Rattle.machine.specs.Schedule.{Schedule, start}
use Rattle.machine.specs.Seats.{Acts}
use Rattle.machine.proofs.Paying.{AnyCall, any_call, calls_end}
use Rattle.ring_machine.specs.declared.lines.Call.{Call}
use Rattle.ring_machine.specs.declared.lines.Call.TheVariants.{Put as CallPut, Take as CallTake, Close as CallClose, Shut as CallShut, Look as CallLook, Len as CallLen, Gauge as CallGauge}
use Rattle.ring_table.specs.declared.line.SeatLine.{SeatLine}
use Rattle.ring_table.specs.declared.line.SeatLine.TheVariants.{At, Stock}
use Rattle.ring_table.specs.Core.{core}
use Rattle.ring_table.specs.Seats.{names, cells_from}
use Rattle.running.specs.Acts.{IsAllowed, AllFresh}
use Rattle.runs.specs.Runs.{Below, schedule_of}
use Rattle.step_core.specs.ring.Costs.{alone, harms}
use Rattle.step_core.proofs.ring.Weight.{harm, weight_small, harm_small}
use Rattle.runs.specs.ring.Machine.{From, State, cell_ring}
use Rattle.runs.specs.ring.Bounded.{call_at, state_after}
use Rattle.runs.specs.ring.Ended.{CallsEnd}
use Rattle.runs.proofs.ring.Follows.{lift}
use Rattle.runs.proofs.ring.Overtaken.{every_older, schedule_append, fresh_older}
use Rattle.runs.proofs.ring.Paid.{Holding, alone_in, harms_in, weighed, priced, harmed, pays}
use Rattle.runs.proofs.ring.Pool.{Pool, PoolLine, Gets, Goes, giving_up, pool_ring}
use Rattle.runs.proofs.ring.Rings.{Allowed, FreshFrom, with_pool, fresh_all, fresh_later}
use Rattle.runs.proofs.ring.Total.{compared, reached, start_holds}

module _ {T : Type 0} (k : ℕ) where
  from_small : (call : Call T) → suc (alone call) + harms call * k ≤ 31 + 24 * k
  from_small (CallPut v) = omega arith
  from_small CallTake = omega arith
  from_small CallClose = omega arith
  from_small CallShut = omega arith
  from_small CallLook = omega arith
  from_small CallLen = omega arith
  from_small CallGauge = omega arith

  line_small : (m : Pool T) (l : PoolLine T) → weighed m l + harmed l * k ≤ 31 + 24 * k
  line_small m (Gets from call) = from_small call
  line_small m (Goes (At l)) = omega (arith, weight_small m.memory l, mul-le-mul_right {m = harm l} {n = 24} k (harm_small l))
  line_small m (Goes (Stock cs)) = omega arith

module _ {T : Type 0} (n laps passes numbers : ℕ) (some_slot : 0 < n) (some_pass : 0 < passes) (later earlier : Acts (SeatLine T)) (low : Below numbers (later ++ earlier)) (allowed : Allowed n laps passes (later ++ earlier)) (fresh : AllFresh names (core T n laps passes) (later ++ earlier)) where
  abbrev k : ℕ
  k = passes - 1

  abbrev first : State T
  first = start (cell_ring n laps passes) numbers

  abbrev s : State T
  s = state_after n laps passes numbers earlier

  abbrev schedule : Schedule (From T)
  schedule = schedule_of call_at later

  -- each begin has its cell, before the point and behind it
  fresh_now : FreshFrom n laps passes schedule s
  fresh_now = fresh_later n laps passes (schedule_of call_at earlier) schedule first
      (subst (λ (sch : Schedule (From T)). FreshFrom n laps passes sch first) (schedule_append n laps passes later earlier) (fresh_all n laps passes numbers (later ++ earlier) low allowed fresh))

  at_point : (free : List ℕ) × Holding n laps passes (lift free s)
  at_point = reached n laps passes (schedule_of call_at earlier) first (cells_from n passes) (start_holds n laps passes some_slot numbers)
      (fresh_all n laps passes numbers earlier (every_older (λ a. a.0 < numbers) later earlier low) (every_older (λ a. IsAllowed names (core T n laps passes) a.1) later earlier allowed) (fresh_older n laps passes later earlier fresh))

  pub calls_end_at : CallsEnd n laps passes numbers later earlier
  calls_end_at =
      let c = compared n laps passes schedule s at_point.0 at_point.1 fresh_now in
      let ys : Schedule (From T) = with_pool n laps passes schedule s in
      let many : suc k ≡ passes = omega (arith, some_pass) in
      omega (
        arith,
        c.steps,
        calls_end (pool_ring giving_up n laps passes) (Holding n laps passes) weighed priced harmed alone_in harms_in (pays n laps passes) k AnyCall (31 + 24 * k) (λ from any. from_small k from.1) (lift at_point.0 s) at_point.1 (λ p u at. line_small k (lift at_point.0 s).memory u.line) ys (any_call ys) c.few,
        ap (λ (e : ℕ). (31 + 24 * k) * (e + suc k)) c.ended,
        ap (λ (most : ℕ). (31 + 24 * k) * (calls_ended (cell_ring n laps passes) schedule s + most)) many,
      )
