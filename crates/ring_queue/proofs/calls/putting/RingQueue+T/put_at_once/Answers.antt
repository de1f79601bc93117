use borrow.Enum.Total.{values_d}
use denote.Param.{param}
use denote.Struct.Field.{u64-field}
use Rattle.core.specs.contracts.result.Result as result
use Rattle.bounded_model.specs.contracts.answers.PutRefused as put_refused
use Rattle.running.specs.contracts.kept.Answered as answered
use Rattle.ring_queue.specs.contracts.code.putting.PutAt as put_at
use Rattle.ring_queue.specs.contracts.life.spare.Spare as spare
use Rattle.std.proofs.Common.{refl}
use Rattle.bounded_model.specs.declared.commands.Command.TheVariants.{Put}
use Rattle.running.specs.contracts.code.Next as next
use Rattle.running.proofs.Back.{has_returned_now, tried}
use Rattle.bounded_model.specs.Laws.{Answers, PutGives, put_answered}
use Rattle.ring_queue.specs.code.Machine.{is_call, no_rule}
use Rattle.ring_queue.specs.code.KeepsAnswers.{put_given}
use Rattle.ring_queue.specs.code.KeepsAnswers.{put_promises}
use Rattle.ring_queue.specs.code.Putting.{put_account}
use Rattle.ring_queue.specs.Calls.{keeps, machine_of, pass_in, shape_of}
use Rattle.ring_queue.proofs.FastPath.{at_most}
use Rattle.ring_queue.proofs.Refusals.{full_tells, full_tried, spent_tells, spent_tried}
use Rattle.ring_queue.proofs.calls.putting.RingQueue+T.put_at_once.Goals as goal

pub returns-in_default-Done : goal.returns-in_default-Done
returns-in_default-Done g c =
    let q = c.args.self.now in
    let key = q.table.shared.key in
    let o = c.put_operation-put.result in
    let b = has_returned_now (machine_of q) (put_account key) keeps q.table.shared.table_id (put_promises key) (λ o a. refl) (put_given no_rule key) (λ o a. refl) o c.args.by c.requires c.put_fast.result.0 c.put_fast.result.1 c.in_default-Done.answer (λ n. (values_d (next.enum (put_at.the_row (param 0 g.row.T)) (answered.the_row spare.the_row (result.the_row u64-field.row (put_refused.the_row (param 0 g.row.T))))) 2 c.in_default-Done.answer-1-own.given.0 n).0) c.told-back.result.0 c.told-back.result.1 c.in_default-Done.is-1 refl c.told-back.ensures.pass c.told-back.ensures.reply c.put_fast.ensures.ran in
    record {
      gives = (b.of, b.gives c.args.value c.put_operation-put.ensures.0, record { operation = o; call = c.put_operation-put.ensures.0; ran = b.ran });
      full = full_tells no_rule q o (pass_in c.args.by) c.told-back.result.0 c.told-back.result.1 b.ended;
      spent = spent_tells no_rule q o (pass_in c.args.by) c.told-back.result.0 c.told-back.result.1 b.ended;
      took = rw c.told-back.ensures.pass c.put_fast.ensures.took;
    }

pub returns-in_default : goal.returns-in_default
returns-in_default g c =
    let q = c.args.self.now in
    let key = q.table.shared.key in
    let o = c.put_operation-put.result in
    let rested = c.leave.ensures.rested c.args.by c.requires c.put_fast.ensures.ran in
    record {
      gives = tried (machine_of q) (put_account key) keeps q.table.shared.table_id (put_promises key) o (pass_in c.args.by) (is_call (Put c.args.value)) c.put_operation-put.ensures.0
          (λ w r. PutGives (shape_of q) (pass_in c.args.by) c.args.value w r × Answers (pass_in c.args.by) w (put_answered r)) (λ w r gives. gives c.args.value c.put_operation-put.ensures.0) c.leave.result rested;
      full = full_tried no_rule q o (pass_in c.args.by) c.leave.result rested;
      spent = spent_tried no_rule q o (pass_in c.args.by) c.leave.result rested;
      took = at_most c.put_fast.result.0 _ c.put_fast.ensures.took c.leave.result c.leave.ensures.same;
    }
