use borrow.Enum.Total.{values_d}
use denote.Builtin.{unit}
use denote.Param.{param}
use denote.Struct.Field.{u64-field}
use Rattle.core.specs.contracts.result.Result as result
use Rattle.bounded_model.specs.contracts.answers.PutRefused as put_refused
use Rattle.std.proofs.Common.{refl}
use Rattle.bounded_model.specs.declared.commands.Command.TheVariants.{Put}
use Rattle.running.specs.contracts.code.Next as next
use Rattle.running.specs.contracts.kept.Answered as answered
use Rattle.running.proofs.Back.{has_returned_now, tried}
use Rattle.bounded_model.specs.Laws.{Answers, PutGives, put_answered}
use Rattle.ms_queue.specs.contracts.code.putting.PutAt as put_at
use Rattle.ms_queue.specs.code.Machine.{is_call, no_rule}
use Rattle.ms_queue.specs.code.KeepsAnswers.{put_given, put_promises}
use Rattle.ms_queue.specs.code.Putting.{put_account}
use Rattle.ms_queue.specs.Calls.{keeps, machine_of, pass_in, shape_of}
use Rattle.ms_queue.proofs.FastPath.{at_most}
use Rattle.ms_queue.proofs.calls.putting.Queue+T.put_at_once.Goals as goal

pub returns-in_default-Done-clause-gives : goal.returns-in_default-Done-clause-gives
returns-in_default-Done-clause-gives g c =
    let q = c.args.self.now in
    let key = q.table.shared.key in
    let o = c.put_operation-put.result in
    let b = has_returned_now (machine_of q) (put_account key) keeps q.table.shared.table_id (put_promises key) (λ o a. refl) (put_given no_rule key) (λ o a. tt) o c.args.by c.requires c.put_fast.result.0 c.put_fast.result.1 c.in_default-Done.answer (λ n. (values_d (next.enum (put_at.the_row (param 0 g.row.T)) (answered.the_row unit (result.the_row u64-field.row (put_refused.the_row (param 0 g.row.T))))) 2 c.in_default-Done.answer-1-own.given.0 n).0) c.told-back.result.0 c.told-back.result.1 c.in_default-Done.is-1 refl c.told-back.ensures.pass c.told-back.ensures.reply c.put_fast.ensures.ran in
    (b.of, b.gives c.args.value c.put_operation-put.ensures.0, record { operation = o; call = c.put_operation-put.ensures.0; ran = b.ran })

pub returns-in_default-clause-gives : goal.returns-in_default-clause-gives
returns-in_default-clause-gives g c =
    let q = c.args.self.now in
    let key = q.table.shared.key in
    tried (machine_of q) (put_account key) keeps q.table.shared.table_id (put_promises key) c.put_operation-put.result (pass_in c.args.by) (is_call (Put c.args.value)) c.put_operation-put.ensures.0
    (λ w r. PutGives (shape_of q) (pass_in c.args.by) c.args.value w r × Answers (pass_in c.args.by) w (put_answered r)) (λ w r gives. gives c.args.value c.put_operation-put.ensures.0) c.leave.result (c.leave.ensures.rested c.args.by c.requires c.put_fast.ensures.ran)

pub returns-in_default-clause-took : goal.returns-in_default-clause-took
returns-in_default-clause-took g c = at_most c.put_fast.result.0 _ c.put_fast.ensures.took c.leave.result c.leave.ensures.same

pub returns-in_default-Done-clause-took : goal.returns-in_default-Done-clause-took
returns-in_default-Done-clause-took g c = rw c.told-back.ensures.pass c.put_fast.ensures.took
