use Rattle.std.proofs.Common.{None, refl}
use Rattle.stack_machine.specs.declared.lines.Line.TheVariants.{Idle}
use Rattle.machine.proofs.Scheduled.{next_kept}
use Rattle.machine.proofs.Stories.{rule_holds, start_rules_alike}
use Rattle.stack_machine.proofs.Start.{start_kept}
use Rattle.stack_machine.specs.Answers.{shape}
use Rattle.stack_machine.specs.Machine.{stack}
use Rattle.step_core.specs.stack.Law.{MeetsRule}
use Rattle.step_core.proofs.stack.Run.{Rule, Story, stack_told}
use Rattle.step_core.proofs.stack_laws.stack_rule.Goals as goal

pub returns : goal.returns
returns g c = record {
  at_the_start = λ n limit passes pos small. start_rules_alike (stack (shape n limit)) (Rule n limit) (Story n limit) (Idle None) (λ p. refl) passes (start_kept n limit passes pos small);
  kept = λ n limit p act s. next_kept (stack (shape n limit)) (MeetsRule n limit) (rule_holds (stack (shape n limit)) (Rule n limit) (Story n limit) (stack_told n limit)) s (p, act);
}
