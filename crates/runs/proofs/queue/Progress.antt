-- What an operation of a queue under way knows bounds its steps.
use Rattle.std.proofs.Common.{◌≡◌, ℕ, ◌+◌, ◌*◌, ◌<◌, false, arith}
use Rattle.tagged_index.specs.declared.limit.Limits.{Limits}
use Rattle.bounded_model.specs.declared.views.PassView.{PassView}
use Rattle.machine.specs.Seats.{Acts, acts_before, acts_now, pass_of}
use Rattle.queue_machine.specs.declared.lines.Line.{Line}
use Rattle.queue_table.specs.declared.operation.Operation.{Operation}
use Rattle.queue_table.specs.Core.{core}
use Rattle.queue_table.specs.Lines.{names}
use Rattle.running.specs.Acts.{Course}
use Rattle.running.specs.Going.{Going}
use Rattle.running.specs.declared.passes.Pass.{Pass}
use Rattle.ms_queue.specs.Calls.{Queue, room_of, limit_of, machine_of}
use Rattle.runs.specs.queue.Bounded.{IsBounded}
use Rattle.runs.proofs.queue.Queues.{bounded}
use Rattle.runs.specs.Made.{HasMade}
use Rattle.runs.proofs.Made.{some_made}
use Rattle.runs.proofs.Courses.{Bounds, BoundsMore, bounds, bounds_seen, bounds_some}
use Rattle.runs.specs.queue.Progress.{StepsAreBounded, IsOvertaken}

module _ {T : Type 0} (c : Queue T) (o : Operation T) (p : Pass T (Line T)) {begun : PassView T} {l : Line T} (g : Going (machine_of c) o p.seat.me.0 begun l) where
  abbrev x : ℕ
  x = (pass_of p.seat.me.0).number

  abbrev before : Acts (Line T)
  before = acts_before p.seat.me.0

  abbrev now : Acts (Line T)
  now = acts_now p.seat.me.0

  abbrev Bound : Line T → Type 0
  Bound first = IsBounded (room_of c) (limit_of c) before now x first

  abbrev since : (first : Line T) → Bound first → Acts (Line T)
  since first b = b.since

  bound_so : (first l : Line T) → Course names (core T (room_of c) (limit_of c)) before now x first l → names.is_idle l ≡ false → Bound first
  bound_so first l k busy =
      let limits : Limits = c.table.shared.key in
      bounded (room_of c) (limit_of c) (let e = limits.some_capacity in omega arith) (let e = limits.capacity_in_range in omega arith) (let e = limits.some_tag_limit in omega arith) x before now first l k busy

  abbrev Bounded : ℕ → Type 0
  Bounded count = Bounds (machine_of c) p.seat.me.0 Bound since (λ first b. b.is) bound_so o count

  abbrev More : ℕ → Type 0
  More n = BoundsMore (machine_of c) p.seat.me.0 Bound since (λ first b. b.is) bound_so o n

  pub steps_so : StepsAreBounded c o p
  steps_so =
      let k = some_made (machine_of c) g in
      record { count = k.0; made = k.1; bound = λ busy. (let b : Bounded k.0 = bounds (machine_of c) p.seat.me.0 Bound since (λ first b. b.is) bound_so g k.0 k.1 busy in (b.bound, b.steps)) }

  -- after more steps than those, others have won
  pub overtaken : (count w : ℕ) → HasMade names o p.seat.me.0 count → 20 + 8 * w < count → IsOvertaken c o p w
  overtaken count w made more =
      let b : Bounded count = bounds_some (machine_of c) p.seat.me.0 Bound since (λ first b. b.is) bound_so g count made (omega (arith, more)) in
      record { since = b.bound.since; is = b.bound.is; wins = λ passes low. (let most = b.bound.bound passes low in omega (arith, most, b.steps, more)) }

  -- after more steps than those, as the pass counts them, others have won
  pub overtaken_seen : (w : ℕ) → begun.steps + (20 + 8 * w) < (pass_of p.seat.me.0).steps → IsOvertaken c o p w
  overtaken_seen w more =
      let b : More (20 + 8 * w) = bounds_seen (machine_of c) p.seat.me.0 Bound since (λ first b. b.is) bound_so g (λ peeks. peeks) (20 + 8 * w) more in
      record { since = b.bound.since; is = b.bound.is; wins = λ passes low. (let most = b.bound.bound passes low in let m = b.more in omega (arith, most, m)) }
