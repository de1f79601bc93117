use borrow.Enum.Total.{values_d}
use denote.Builtin.{unit}
use denote.Param.{param}
use denote.Struct.Field.{u64-field}
use Rattle.core.specs.contracts.result.Result as result
use Rattle.bounded_model.specs.contracts.answers.PutRefused as put_refused
use Rattle.running.specs.contracts.kept.Answered as answered
use Rattle.std.proofs.Common.{ap, refl}
use Rattle.running.specs.contracts.code.Next as next
use Rattle.running.proofs.Back.{has_returned_now, new_call, new_call_now}
use Rattle.treiber_stack.specs.contracts.code.putting.PutAt as put_at
use Rattle.treiber_stack.specs.code.Machine.{no_rule}
use Rattle.treiber_stack.specs.code.KeepsAnswers.{put_given}
use Rattle.treiber_stack.specs.code.KeepsAnswers.{put_promises}
use Rattle.treiber_stack.specs.code.Putting.{put_account}
use Rattle.treiber_stack.specs.Calls.{Pass, keeps, machine_of}
use Rattle.treiber_stack.proofs.calls.putting.Stack+T.put.Goals as goal

pub returns-in_default-Done : goal.returns-in_default-Done
returns-in_default-Done g c =
    let q = c.args.self.now in
    let key = q.table.shared.key in
    let o = c.put_operation-put.result in
    let b = has_returned_now (machine_of q) (put_account key) keeps q.table.shared.table_id (put_promises key) (λ o a. refl) (put_given no_rule key) (λ o a. tt) o c.args.by c.requires c.put_fast.result.0 c.put_fast.result.1 c.in_default-Done.answer (λ n. (values_d (next.enum (put_at.the_row (param 0 g.row.T)) (answered.the_row unit (result.the_row u64-field.row (put_refused.the_row (param 0 g.row.T))))) 2 c.in_default-Done.answer-1-own.given.0 n).0) c.told.result.0 c.told.result.1 c.in_default-Done.is-1 refl c.told.ensures.pass c.told.ensures.reply c.put_fast.ensures.ran in
    let gives = b.gives c.args.value c.put_operation-put.ensures in
    record { of = b.of; gives = gives.0; answered = gives.1; ran = record { operation = o; call = c.put_operation-put.ensures; ran = b.ran }; new = new_call_now (machine_of q) (put_account key) q.table.shared.table_id c.args.by c.requires.on o c.put_fast.result.0 c.put_fast.result.1 _ c.told.result.0 c.in_default-Done.is-1 (ap (λ (p : Pass _). p.pass) c.told.ensures.pass) c.put_fast.ensures.ran }

pub returns-in_default : goal.returns-in_default
returns-in_default g c =
    let q = c.args.self.now in
    let o = c.put_operation-put.result in
    let b = c.whole.ensures.rested c.args.by c.requires c.put_fast.ensures.ran in
    let gives = b.gives c.args.value c.put_operation-put.ensures in
    record { of = b.of; gives = gives.0; answered = gives.1; ran = record { operation = o; call = c.put_operation-put.ensures; ran = b.ran }; new = new_call (machine_of q) q.table.shared.table_id c.args.by c.requires.on c.whole.result.0 (c.whole.ensures.new c.args.by.pass c.put_fast.ensures.ran) }
