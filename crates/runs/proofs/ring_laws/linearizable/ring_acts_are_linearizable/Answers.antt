use Rattle.step_core.specs.ring.Object.{object_with_any_hands}
use Rattle.step_core.proofs.InTime.{keeps_time}
use Rattle.step_core.proofs.ring.AnyHands.{with_any_hands}
use Rattle.runs.proofs.ring.Rings.{linearizable}
use Rattle.runs.proofs.ring_laws.linearizable.ring_acts_are_linearizable.Goals as goal

pub returns : goal.returns
returns g c = record {
  points = λ n laps passes acts some_slot allowed fresh. linearizable n laps passes acts some_slot allowed fresh;
  with_any_hands = with_any_hands;
  keeps_real_time_order = λ n laps p newer older run. keeps_time (object_with_any_hands n laps) newer older run p;
}
