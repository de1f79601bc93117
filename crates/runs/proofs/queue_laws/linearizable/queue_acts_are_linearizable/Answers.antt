use Rattle.step_core.specs.queue.Object.{object_with_any_hands}
use Rattle.step_core.proofs.InTime.{keeps_time}
use Rattle.step_core.proofs.queue.AnyHands.{with_any_hands}
use Rattle.runs.proofs.queue.Queues.{linearizable}
use Rattle.runs.proofs.queue_laws.linearizable.queue_acts_are_linearizable.Goals as goal

pub returns : goal.returns
returns g c = record {
  points = λ n limit acts some_cell small some_tag allowed. linearizable n limit some_cell small some_tag acts allowed;
  with_any_hands = with_any_hands;
  keeps_real_time_order = λ n limit p newer older run. keeps_time (object_with_any_hands n limit) newer older run p;
}
