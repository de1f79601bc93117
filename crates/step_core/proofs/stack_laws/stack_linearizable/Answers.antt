use Rattle.step_core.specs.stack.Object.{object_with_any_hands}
use Rattle.step_core.proofs.InTime.{keeps_time}
use Rattle.step_core.proofs.stack.AnyHands.{with_any_hands}
use Rattle.step_core.proofs.stack.Points.{stack_linearizable}
use Rattle.step_core.proofs.stack_laws.stack_linearizable.Goals as goal

pub returns : goal.returns
returns g c = record {
  points = stack_linearizable;
  with_any_hands = with_any_hands;
  keeps_real_time_order = λ n limit p newer older run. keeps_time (object_with_any_hands n limit) newer older run p;
}
