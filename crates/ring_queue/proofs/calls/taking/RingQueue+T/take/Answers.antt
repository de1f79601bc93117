use borrow.Enum.Total.{values_d}
use denote.Param.{param}
use denote.Struct.Field.{u64-field}
use denote.Struct.Tuple.{Tuple}
use Rattle.core.specs.contracts.result.Result as result
use Rattle.bounded_model.specs.contracts.answers.TakeRefused as take_refused
use Rattle.running.specs.contracts.kept.Answered as answered
use Rattle.ring_queue.specs.contracts.code.taking.TakeAt as take_at
use Rattle.ring_queue.specs.contracts.life.spare.Spare as spare
use Rattle.std.proofs.Common.{[], ◌∷◌, ap, refl}
use Rattle.running.specs.contracts.code.Next as next
use Rattle.running.proofs.Back.{has_returned_now, new_call, new_call_now}
use Rattle.ring_table.specs.declared.operation.Operation.TheVariants.{Take as TakeFirst}
use Rattle.ring_queue.specs.code.Machine.{no_rule}
use Rattle.ring_queue.specs.code.KeepsAnswers.{take_given, take_promises}
use Rattle.ring_queue.specs.code.Taking.{take_account}
use Rattle.ring_queue.specs.Calls.{Pass, keeps, machine_of}
use Rattle.ring_queue.proofs.calls.taking.RingQueue+T.take.Goals as goal

pub returns-in_default-Done : goal.returns-in_default-Done
returns-in_default-Done g c =
    let q = c.args.self.now in
    let key = q.table.shared.key in
    let o = TakeFirst in
    let b = has_returned_now (machine_of q) (take_account key) keeps q.table.shared.table_id (take_promises key) (λ o a. refl) (take_given no_rule key) (λ o a. refl) o c.args.by c.requires c.take_fast.result.0 c.take_fast.result.1 c.in_default-Done.answer (λ n. (values_d (next.enum (take_at.the_row (param 0 g.row.T)) (answered.the_row spare.the_row (result.the_row (Tuple (param 0 g.row.T ∷ u64-field.row ∷ [])) take_refused.the_row))) 2 c.in_default-Done.answer-1-own.given.0 n).0) c.told.result.0 c.told.result.1 c.in_default-Done.is-1 refl c.told.ensures.pass c.told.ensures.reply c.take_fast.ensures.ran in
    let gives = b.gives refl in
    record { of = b.of; gives = gives.0; answered = gives.1; ran = record { operation = o; call = refl; ran = b.ran }; new = new_call_now (machine_of q) (take_account key) q.table.shared.table_id c.args.by c.requires.on o c.take_fast.result.0 c.take_fast.result.1 _ c.told.result.0 c.in_default-Done.is-1 (ap (λ (p : Pass _). p.pass) c.told.ensures.pass) c.take_fast.ensures.ran }

pub returns-in_default : goal.returns-in_default
returns-in_default g c =
    let q = c.args.self.now in
    let o = TakeFirst in
    let b = c.whole.ensures.rested c.args.by c.requires c.take_fast.ensures.ran in
    let gives = b.gives refl in
    record { of = b.of; gives = gives.0; answered = gives.1; ran = record { operation = o; call = refl; ran = b.ran }; new = new_call (machine_of q) q.table.shared.table_id c.args.by c.requires.on c.whole.result.0 (c.whole.ensures.new c.args.by.pass c.take_fast.ensures.ran) }
