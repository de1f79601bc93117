use Rattle.std.proofs.Common.{refl}
use Rattle.bounded_model.specs.declared.commands.Command.TheVariants.{Look}
use Rattle.bounded_model.specs.declared.views.Answered.TheVariants.{Look as LookAnswered}
use Rattle.bounded_model.specs.Laws.{Answers, LookGives}
use Rattle.queue_table.specs.declared.operation.Operation.TheVariants.{Look as LookFirst}
use Rattle.running.proofs.Back.{tried}
use Rattle.ms_queue.specs.code.Machine.{is_call}
use Rattle.ms_queue.specs.code.KeepsAnswers.{look_promises}
use Rattle.ms_queue.specs.code.Looking.{look_account}
use Rattle.ms_queue.specs.Calls.{keeps, machine_of, pass_in, shape_of}
use Rattle.ms_queue.proofs.FastPath.{at_most}
use Rattle.ms_queue.proofs.calls.looking.Queue+T.look_at_once.Goals as goal

pub returns-clause-gives : goal.returns-clause-gives
returns-clause-gives g c =
    let q = c.args.self.now in
    let key = q.table.shared.key in
    tried (machine_of q) (look_account key) keeps q.table.shared.table_id (look_promises key) LookFirst (pass_in c.args.by) (is_call Look) refl
    (λ w r. LookGives (shape_of q) (pass_in c.args.by) w r × Answers (pass_in c.args.by) w (LookAnswered r)) (λ w r gives. gives refl) c.leave.result (c.leave.ensures.rested c.args.by c.requires c.look_fast-first.ensures.ran)

pub returns-clause-took : goal.returns-clause-took
returns-clause-took g c = at_most c.look_fast-first.result.0 _ c.look_fast-first.ensures.took c.leave.result c.leave.ensures.same
