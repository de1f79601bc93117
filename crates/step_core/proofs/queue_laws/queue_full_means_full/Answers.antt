use Rattle.std.proofs.Common.{◌∷◌}
use Rattle.step_core.specs.Linearizable.{Hand}
use Rattle.step_core.specs.queue.Object.{object}
use Rattle.step_core.proofs.InTime.{run_before}
use Rattle.step_core.proofs.Full.{hands, hand_moves}
use Rattle.step_core.proofs.queue.Full.{is_full, by_calls}
use Rattle.step_core.proofs.queue_laws.queue_full_means_full.Goals as goal

pub returns : goal.returns
returns g c = record {
  hands = λ n limit p newer older run. hands (object n limit) older (run_before (object n limit) newer older run) p;
  moves = λ n limit e newer older run rests. hand_moves (object n limit) e older (run_before (object n limit) newer (Hand e ∷ older) run) rests;
  full = is_full;
  by_calls = by_calls;
}
