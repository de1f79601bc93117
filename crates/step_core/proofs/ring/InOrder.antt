-- In every schedule of the ring, what was put is what was taken and what is left, in order.
use Rattle.std.proofs.Common.{◌≡◌, ℕ, ◌<◌, ◌++◌, refl, ◌∙◌}
use Rattle.bounded_model.specs.Gathers.{gather, sent_of, took_of, values_of, Counts}
use Rattle.bounded_model.proofs.Balance.{values_of-sent, first_in_first_out}
use Rattle.bounded_model.proofs.Numbers.{sends_count, takes_count}
use Rattle.machine.specs.Schedule.{Schedule, after}
use Rattle.ring_machine.specs.declared.lines.Call.{Call}
use Rattle.ring_machine.specs.Machine.{ring}
use Rattle.ring_machine.specs.Answers.{shape, state}
use Rattle.step_core.proofs.ring.Run.{ring_lawful}

module _ {T : Type 0} (n laps passes : ℕ) (schedule : Schedule (Call T)) (pos : 0 < n) where
  pub in_order : (let h = (after (ring (shape n laps)) passes schedule).history in values_of (gather sent_of h) ≡ values_of (gather took_of h) ++ (state n laps h).values)
  in_order =
      let h = (after (ring (shape n laps)) passes schedule).history in
      values_of-sent h ∙ first_in_first_out (shape n laps) h refl (ring_lawful n laps passes schedule pos).legal

  pub puts_count : Counts (λ m. m.number) 0 (gather sent_of (after (ring (shape n laps)) passes schedule).history)
  puts_count = (sends_count (shape n laps) (after (ring (shape n laps)) passes schedule).history refl (ring_lawful n laps passes schedule pos).legal).1

  pub takes_counted : Counts (λ m. m.number) 0 (gather took_of (after (ring (shape n laps)) passes schedule).history)
  takes_counted = (takes_count (shape n laps) (after (ring (shape n laps)) passes schedule).history refl (ring_lawful n laps passes schedule pos).legal).1
