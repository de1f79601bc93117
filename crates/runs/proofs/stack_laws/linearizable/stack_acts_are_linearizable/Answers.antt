use Rattle.step_core.specs.stack.Object.{object_with_any_hands}
use Rattle.step_core.proofs.InTime.{keeps_time}
use Rattle.step_core.proofs.stack.AnyHands.{with_any_hands}
use Rattle.runs.proofs.stack.Stacks.{linearizable}
use Rattle.runs.proofs.stack_laws.linearizable.stack_acts_are_linearizable.Goals as goal

pub returns : goal.returns
returns g c = record {
  points = λ n limit acts some_node small allowed. linearizable n limit some_node small acts allowed;
  with_any_hands = with_any_hands;
  keeps_real_time_order = λ n limit p newer older run. keeps_time (object_with_any_hands n limit) newer older run p;
}
