use Rattle.std.proofs.Common.{refl, subst}
use Rattle.bounded_model.specs.declared.views.Answered.TheVariants.{Look as LookAnswered}
use Rattle.bounded_model.specs.declared.views.PassView.{PassView}
use Rattle.bounded_model.specs.Laws.{Answers, LookGives}
use Rattle.stack_machine.specs.declared.lines.Answer.TheVariants.{Look as Answer}
use Rattle.stack_table.specs.declared.operation.Operation.TheVariants.{Look as First}
use Rattle.running.proofs.Back.{new_call}
use Rattle.running.proofs.Since.{step_new}
use Rattle.running.proofs.Ways.{begun_is}
use Rattle.treiber_stack.specs.code.KeepsAnswers.{looked}
use Rattle.treiber_stack.specs.Calls.{WasRunWith, machine_with, shape_of, pass_in}
use Rattle.treiber_stack.specs.code.Steps.{as_pass}
use Rattle.treiber_stack.proofs.life.stack.Stack.is_empty.Goals as goal

pub returns : goal.returns
returns g c =
    let stack = c.args.self.now in
    let m = machine_with g.D.Tie.rule stack in
    let made = c.look_once-pass in
    let back = as_pass made.result.0 in
    let at_rest = begun_is m stack.table.shared.table_id c.args.by.pass c.requires.on in
    record {
      of = record { on = made.ensures.of; keeps = tt };
      line = made.ensures.line;
      gives = subst (λ (v : PassView _). LookGives (shape_of stack) v (pass_in back) made.result.1) at_rest (looked g.D.Tie.rule stack.table.shared.key First made.result.0.seat.me.0 _ made.result.1 made.ensures.ended);
      answered = subst (λ (v : PassView _). Answers v (pass_in back) (LookAnswered made.result.1)) at_rest made.ensures.ended.answered;
      ran = subst (λ (v : PassView _). WasRunWith g.D.Tie.rule stack First v back (Answer made.result.1)) at_rest (made.ensures.ended.ran refl);
      new = new_call m stack.table.shared.table_id c.args.by c.requires.on back (step_new m made.ensures.line.0);
    }
