use Rattle.machine.proofs.Scheduled.{next_kept}
use Rattle.machine.proofs.Stories.{rule_holds}
use Rattle.ring_machine.specs.Answers.{shape}
use Rattle.ring_machine.specs.Machine.{ring}
use Rattle.step_core.specs.ring.Bound.{MeetsRule}
use Rattle.step_core.proofs.ring.Run.{Rule, Story, ring_told, run_meets}
use Rattle.std.specs.Prelude.{[]}
use Rattle.step_core.proofs.ring_laws.ring_rule.Goals as goal

pub returns : goal.returns
returns g c = record {
  at_the_start = λ n laps passes pos. run_meets n laps passes [] pos;
  kept = λ n laps cells p act s. next_kept (ring (shape n laps)) (MeetsRule n laps cells) (rule_holds (ring (shape n laps)) (Rule n laps cells) (Story n laps cells) (ring_told n laps cells)) s (p, act);
}
