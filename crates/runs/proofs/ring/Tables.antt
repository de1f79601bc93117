-- What any table of a ring says as a whole.
use Rattle.std.proofs.Common.{◌≡◌, ℕ, zero, suc, ◌+◌, ◌-◌, ◌*◌, ◌<◌, List, [], ◌∷◌, length, map, refl, sym, arith}
use Rattle.std.specs.Prelude.{Option as Slot}
use mathlib.Core.Option.{some, some-ne-none}
use lib.ListN.{get_elem?}
use Rattle.atomic_table.specs.Table.{State}
use Rattle.bounded_model.specs.declared.history.Event.{Event}
use Rattle.machine.specs.declared.seats.View.{View}
use Rattle.ring_machine.specs.Answers.{shape, state}
use Rattle.ring_machine.specs.Machine.{Memory, full_at}
use Rattle.ring_machine.specs.Rule.{Good}
use Rattle.ring_machine.specs.declared.lines.Line.{Line}
use Rattle.ring_machine.proofs.Places.{nothing_twice}
use Rattle.ring_table.specs.declared.line.SeatLine.{SeatLine}
use Rattle.ring_table.specs.Memories.{memory_of}
use Rattle.ring_table.specs.Seats.{names, passes_of}
use Rattle.ring_table.specs.Core.{ring_with}
use Rattle.running.specs.Rule.{Rule, line_in}
use Rattle.step_core.specs.ring.Law.{Represents}
use Rattle.step_core.specs.ring.Object.{object}
use Rattle.step_core.proofs.ring.Full.{few_of}
use Rattle.runs.proofs.Table.{queue_history, one_history, hold_at_most, led_to}
use Rattle.runs.specs.ring.Bounded.{call_in}
use Rattle.runs.specs.ring.Linearizable.{answer_at}
use Rattle.runs.specs.ring.Headline.{Headline}
use Rattle.runs.proofs.ring.Rings.{linearizable}

-- a place in a list is below its length
there_below : {A : Type 0} (xs : List A) (k : ℕ) (v : A) → get_elem? xs k ≡ some v → k < length xs
there_below [] k v e = absurd (some-ne-none v (sym e))
there_below (x ∷ xs) zero v e = omega arith
there_below (x ∷ xs) (suc k) v e = let r = there_below xs k v e in omega (arith, r)

-- the slots have the values that the history says
stored : {T : Type 0} (n laps cells : ℕ) (m : Memory T) (lines : List (Line T)) (h : List (Event T)) → Good T n laps cells m lines h → Represents n laps m (state n laps h)
stored n laps cells m lines h g = record {
  turned = g.turned;
  values = λ i lap v low from at.
      let less = there_below (state n laps h).values (lap * n + i - (state n laps h).takes) v at in
      let full : (m.slot i).tag ≡ full_at lap = omega (arith, g.turned.put i lap low (omega (arith, less, from, g.told.balance)), g.turned.untaken i lap low from) in
      (full, g.filled.stored i lap v low full at);
  empty = g.filled.empty;
  marked = g.marked;
  tail = g.tail;
  head = g.head;
}

pub headline : {T : Type 0} (rule : List (Event T) → Type 0) (n laps passes : ℕ) → 0 < n → (s : State (Slot T) (View T (SeatLine T))) (r : Rule (ring_with T n laps passes rule) s) → Headline T n laps passes s r
headline {T} rule n laps passes some_slot s r = record {
  history = queue_history (shape n laps) r.history r.good.told.legal refl;
  hands = hold_at_most (ring_with T n laps passes rule) s r call_in answer_at (object n laps) 1 few_of (linearizable n laps passes r.led.acts some_slot r.led.allowed r.led.fresh);
  stored = stored n laps (n + passes) (memory_of n (n + passes) s.words s.homes) (passes_of (map (line_in names) s.views)) r.history r.good;
  seats = one_history (ring_with T n laps passes rule) s r;
  places = nothing_twice r.good;
  led = led_to (ring_with T n laps passes rule) s r;
  calls = linearizable n laps passes r.led.acts some_slot r.led.allowed r.led.fresh;
  tied = r.tied;
}
