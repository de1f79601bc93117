use Rattle.std.proofs.Common.{◌∷◌}
use Rattle.step_core.specs.Linearizable.{Hand}
use Rattle.step_core.specs.ring.Object.{object}
use Rattle.step_core.proofs.InTime.{run_before}
use Rattle.step_core.proofs.Full.{hands, hand_moves}
use Rattle.step_core.proofs.ring.Full.{is_full, by_calls}
use Rattle.step_core.proofs.ring_laws.ring_full_means_full.Goals as goal

pub returns : goal.returns
returns g c = record {
  hands = λ n laps p newer older run. hands (object n laps) older (run_before (object n laps) newer older run) p;
  moves = λ n laps e newer older run rests. hand_moves (object n laps) e older (run_before (object n laps) newer (Hand e ∷ older) run) rests;
  full = is_full;
  by_calls = by_calls;
}
