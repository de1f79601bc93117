use Rattle.std.proofs.Common.{None, refl}
use Rattle.queue_machine.specs.declared.lines.Line.TheVariants.{Idle}
use Rattle.machine.proofs.Scheduled.{next_kept}
use Rattle.machine.proofs.Stories.{rule_holds, start_rules_alike}
use Rattle.queue_machine.proofs.Start.{start_kept}
use Rattle.queue_machine.specs.Answers.{shape}
use Rattle.queue_machine.specs.Machine.{queue}
use Rattle.step_core.specs.queue.Bound.{MeetsRule}
use Rattle.step_core.proofs.queue.Run.{Rule, Story, queue_told}
use Rattle.step_core.proofs.queue_laws.queue_rule.Goals as goal

pub returns : goal.returns
returns g c = record {
  at_the_start = λ n limit passes pos small below. start_rules_alike (queue (shape n limit)) (Rule n limit) (Story n limit) (Idle None) (λ p. refl) passes (start_kept n limit passes pos small below);
  kept = λ n limit p act s. next_kept (queue (shape n limit)) (MeetsRule n limit) (rule_holds (queue (shape n limit)) (Rule n limit) (Story n limit) (queue_told n limit)) s (p, act);
}
