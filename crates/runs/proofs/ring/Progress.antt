-- What an operation of a ring under way knows bounds its steps.
use Rattle.std.proofs.Common.{◌≡◌, ℕ, ◌+◌, ◌*◌, ◌<◌, false, arith}
use Rattle.tagged_index.specs.declared.limit.Limits.{Limits}
use Rattle.bounded_model.specs.declared.views.PassView.{PassView}
use Rattle.machine.specs.Seats.{Acts, acts_before, acts_now, pass_of}
use Rattle.ring_queue.specs.Calls.{RingQueue, room_of, laps_of, passes_of, machine_of}
use Rattle.runs.specs.ring.Bounded.{IsBounded}
use Rattle.runs.proofs.ring.Overtaken.{bounded}
use Rattle.ring_table.specs.Core.{core}
use Rattle.ring_table.specs.Seats.{names}
use Rattle.ring_table.specs.declared.line.SeatLine.{SeatLine}
use Rattle.ring_table.specs.declared.operation.Operation.{Operation}
use Rattle.running.specs.Acts.{Course}
use Rattle.running.specs.Going.{Going}
use Rattle.running.specs.declared.passes.Pass.{Pass}
use Rattle.runs.specs.Made.{HasMade}
use Rattle.runs.proofs.Made.{some_made}
use Rattle.runs.proofs.Courses.{Bounds, BoundsMore, bounds, bounds_seen, bounds_some}
use Rattle.runs.specs.ring.Progress.{StepsAreBounded, IsOvertaken}

module _ {T : Type 0} (c : RingQueue T) (o : Operation T) (p : Pass T (SeatLine T)) {begun : PassView T} {l : SeatLine T} (g : Going (machine_of c) o p.seat.me.0 begun l) where
  abbrev x : ℕ
  x = (pass_of p.seat.me.0).number

  abbrev before : Acts (SeatLine T)
  before = acts_before p.seat.me.0

  abbrev now : Acts (SeatLine T)
  now = acts_now p.seat.me.0

  abbrev Bound : SeatLine T → Type 0
  Bound first = IsBounded (room_of c) (laps_of c) (passes_of c) before now x first

  abbrev since : (first : SeatLine T) → Bound first → Acts (SeatLine T)
  since first b = b.since

  bound_so : (first l : SeatLine T) → Course names (core T (room_of c) (laps_of c) (passes_of c)) before now x first l → names.is_idle l ≡ false → Bound first
  bound_so first l k busy =
      let limits : Limits = c.table.shared.key in
      bounded (room_of c) (laps_of c) (passes_of c) (let e = limits.some_capacity in omega arith) x before now first l k busy

  abbrev Bounded : ℕ → Type 0
  Bounded count = Bounds (machine_of c) p.seat.me.0 Bound since (λ first b. b.is) bound_so o count

  abbrev More : ℕ → Type 0
  More n = BoundsMore (machine_of c) p.seat.me.0 Bound since (λ first b. b.is) bound_so o n

  pub steps_so : StepsAreBounded c o p
  steps_so =
      let k = some_made (machine_of c) g in
      record {
        count = k.0;
        made = k.1;
        bound = λ busy. (let b : Bounded k.0 = bounds (machine_of c) p.seat.me.0 Bound since (λ first b. b.is) bound_so g k.0 k.1 busy in (b.rest, record { bound = b.bound; steps = b.steps }));
      }

  -- after more steps than those, others have won
  pub overtaken : (count w : ℕ) → HasMade names o p.seat.me.0 count → 31 + 18 * w < count → IsOvertaken c o p w
  overtaken count w made more =
      let b : Bounded count = bounds_some (machine_of c) p.seat.me.0 Bound since (λ first b. b.is) bound_so g count made (omega (arith, more)) in
      record { rest = b.rest; since = b.bound.since; is = b.bound.is; wins = λ numbers low. (let most = b.bound.bound numbers low in omega (arith, most, b.steps, more)) }

  -- after more steps than those, as the pass counts them, others have won
  pub overtaken_seen : (w : ℕ) → begun.steps + (31 + 18 * w) < (pass_of p.seat.me.0).steps → IsOvertaken c o p w
  overtaken_seen w more =
      let b : More (31 + 18 * w) = bounds_seen (machine_of c) p.seat.me.0 Bound since (λ first b. b.is) bound_so g (λ peeks. peeks) (31 + 18 * w) more in
      record { rest = b.rest; since = b.bound.since; is = b.bound.is; wins = λ numbers low. (let most = b.bound.bound numbers low in let m = b.more in omega (arith, most, m)) }
