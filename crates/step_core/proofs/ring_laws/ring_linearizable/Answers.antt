use Rattle.step_core.specs.ring.Object.{object_with_any_hands}
use Rattle.step_core.proofs.InTime.{keeps_time}
use Rattle.step_core.proofs.ring.AnyHands.{with_any_hands}
use Rattle.step_core.proofs.ring.Points.{ring_linearizable}
use Rattle.step_core.proofs.ring_laws.ring_linearizable.Goals as goal

pub returns : goal.returns
returns g c = record {
  points = ring_linearizable;
  with_any_hands = with_any_hands;
  keeps_real_time_order = λ n laps p newer older run. keeps_time (object_with_any_hands n laps) newer older run p;
}
