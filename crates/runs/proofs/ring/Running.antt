-- The machine runs on the ring's table.
use Rattle.std.proofs.Common.{◌≡◌, ℕ, ◌*◌, refl, sym}
use Rattle.ring_machine.specs.Machine.{Memory, memories, table, cell_of, resting}
use Rattle.ring_machine.specs.Answers.{shape}
use Rattle.ring_table.specs.declared.line.SeatLine.{SeatLine}
use Rattle.ring_table.specs.declared.line.SeatLine.TheVariants.{At, Stock}
use Rattle.ring_table.specs.declared.operation.Operation.{Operation}
use Rattle.ring_table.specs.declared.operation.Operation.TheVariants.{Put as PutFirst, Take as TakeFirst, Close as CloseFirst, Shut as ShutFirst, Look as LookFirst, Len as LenFirst, Gauge as GaugeFirst}
use Rattle.ring_table.specs.Seats.{names}
use Rattle.ring_table.specs.Core.{core, ring_on}
use Rattle.ring_table.proofs.Lifted.{does_alike}
use Rattle.runs.specs.Runs.{IsRunning}
use Rattle.runs.specs.ring.Machine.{cell_ring, step_at}
use Rattle.runs.specs.ring.Bounded.{call_at}

module _ {T : Type 0} (n laps passes : ℕ) where
  steps : (m : Memory T) (p : ℕ) (l : SeatLine T) → step_at (shape n laps) m p l ≡ record { memory = (core T n laps passes).after m p l; line = (core T n laps passes).lands m p l; events = (core T n laps passes).adds m p l }
  steps m p (At l) =
      let a = does_alike memories (resting (cell_of l)) m p l (table n (2 * laps) l) in
      λ t. record { memory = sym a.memory t; line = sym a.line t; events = sym a.events t }
  steps m p (Stock cs) = refl

  begins : (o : Operation T) (rest l : SeatLine T) → (cell_ring n laps passes).starts (call_at (names.first o rest)) l ≡ names.first o rest
  begins (PutFirst v) (At k) l = refl
  begins TakeFirst (At k) l = refl
  begins CloseFirst (At k) l = refl
  begins ShutFirst (At k) l = refl
  begins LookFirst (At k) l = refl
  begins LenFirst (At k) l = refl
  begins GaugeFirst (At k) l = refl
  begins o (Stock cs) l = refl

  pub running : IsRunning (ring_on T n laps passes) (cell_ring n laps passes) call_at
  running = record { first = refl; rest = λ p. refl; idle = λ l. refl; steps = steps; starts = begins }
