use Rattle.std.proofs.Common.{sym, subst}
use Rattle.running.specs.Going.{Ended}
use Rattle.running.proofs.Since.{step_new}
use Rattle.stack_machine.specs.declared.lines.Answer.TheVariants.{Look as Answer}
use Rattle.stack_machine.specs.Machine.{ends}
use Rattle.stack_table.specs.declared.operation.Operation.{Operation}
use Rattle.treiber_stack.specs.Calls.{begun_with, machine_with}
use Rattle.treiber_stack.proofs.calls.looking.look_fast.Goals as goal

pub returns-clause-ran : goal.returns-clause-ran
returns-clause-ran g c =
    let stack = c.args.on.now in
    let made = c.look_once-pass in
    ((made.ensures.of, subst (λ (o : Operation _). Ended (machine_with g.D.Tie.rule stack) o made.result.0.seat.me.0 (begun_with g.D.Tie.rule stack c.args.by) (ends (Answer made.result.1))) (sym c.requires.named) made.ensures.ended), step_new (machine_with g.D.Tie.rule stack) made.ensures.line.0)
