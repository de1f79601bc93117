use Rattle.step_core.specs.queue.Object.{object_with_any_hands}
use Rattle.step_core.proofs.InTime.{keeps_time}
use Rattle.step_core.proofs.queue.AnyHands.{with_any_hands}
use Rattle.step_core.proofs.queue.Points.{queue_linearizable}
use Rattle.step_core.proofs.queue_laws.queue_linearizable.Goals as goal

pub returns : goal.returns
returns g c = record {
  points = queue_linearizable;
  with_any_hands = with_any_hands;
  keeps_real_time_order = λ n limit p newer older run. keeps_time (object_with_any_hands n limit) newer older run p;
}
