use borrow.Enum.Total.{values_d}
use denote.Param.{param}
use denote.Struct.Field.{u64-field}
use denote.Struct.Tuple.{Tuple}
use Rattle.core.specs.contracts.result.Result as result
use Rattle.bounded_model.specs.contracts.answers.TakeRefused as take_refused
use Rattle.running.specs.contracts.kept.Answered as answered
use Rattle.ring_queue.specs.contracts.code.taking.TakeAt as take_at
use Rattle.ring_queue.specs.contracts.life.spare.Spare as spare
use Rattle.std.proofs.Common.{[], ◌∷◌, refl}
use Rattle.bounded_model.specs.declared.commands.Command.TheVariants.{Take}
use Rattle.running.specs.contracts.code.Next as next
use Rattle.running.proofs.Back.{has_returned_now, tried}
use Rattle.ring_table.specs.declared.operation.Operation.TheVariants.{Take as TakeFirst}
use Rattle.bounded_model.specs.declared.views.Answered.TheVariants.{Take as TakeAnswered}
use Rattle.bounded_model.specs.Laws.{Answers, TakeGives}
use Rattle.ring_queue.specs.code.Machine.{is_call, no_rule}
use Rattle.ring_queue.specs.code.KeepsAnswers.{take_given, take_promises}
use Rattle.ring_queue.specs.code.Taking.{take_account}
use Rattle.ring_queue.specs.Calls.{keeps, machine_of, pass_in, shape_of}
use Rattle.ring_queue.proofs.FastPath.{at_most}
use Rattle.ring_queue.proofs.calls.taking.RingQueue+T.take_at_once.Goals as goal

pub returns-in_default-Done-clause-gives : goal.returns-in_default-Done-clause-gives
returns-in_default-Done-clause-gives g c =
    let q = c.args.self.now in
    let key = q.table.shared.key in
    let o = TakeFirst in
    let b = has_returned_now (machine_of q) (take_account key) keeps q.table.shared.table_id (take_promises key) (λ o a. refl) (take_given no_rule key) (λ o a. refl) o c.args.by c.requires c.take_fast.result.0 c.take_fast.result.1 c.in_default-Done.answer (λ n. (values_d (next.enum (take_at.the_row (param 0 g.row.T)) (answered.the_row spare.the_row (result.the_row (Tuple (param 0 g.row.T ∷ u64-field.row ∷ [])) take_refused.the_row))) 2 c.in_default-Done.answer-1-own.given.0 n).0) c.told-back.result.0 c.told-back.result.1 c.in_default-Done.is-1 refl c.told-back.ensures.pass c.told-back.ensures.reply c.take_fast.ensures.ran in
    (b.of, b.gives refl, record { operation = o; call = refl; ran = b.ran })

pub returns-in_default-clause-gives : goal.returns-in_default-clause-gives
returns-in_default-clause-gives g c =
    let q = c.args.self.now in
    let key = q.table.shared.key in
    tried (machine_of q) (take_account key) keeps q.table.shared.table_id (take_promises key) TakeFirst (pass_in c.args.by) (is_call Take) refl
    (λ w r. TakeGives (shape_of q) (pass_in c.args.by) w r × Answers (pass_in c.args.by) w (TakeAnswered r)) (λ w r gives. gives refl) c.leave.result (c.leave.ensures.rested c.args.by c.requires c.take_fast.ensures.ran)

pub returns-in_default-clause-took : goal.returns-in_default-clause-took
returns-in_default-clause-took g c = at_most c.take_fast.result.0 _ c.take_fast.ensures.took c.leave.result c.leave.ensures.same

pub returns-in_default-Done-clause-took : goal.returns-in_default-Done-clause-took
returns-in_default-Done-clause-took g c = rw c.told-back.ensures.pass c.take_fast.ensures.took
