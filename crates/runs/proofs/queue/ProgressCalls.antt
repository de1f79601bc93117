-- A call of a queue that was made for more steps than one operation makes alone.
use Rattle.std.proofs.Common.{◌≡◌, ℕ, ◌+◌, Result, ◌∙◌, subst, arith}
use Rattle.atomic_table.specs.Seated.{TableId}
use Rattle.bounded_model.specs.declared.answers.Stepped.{Stepped}
use Rattle.bounded_model.specs.declared.answers.Stepped.TheVariants.{Again, Done}
use Rattle.bounded_model.specs.declared.answers.PutRefused.{PutRefused}
use Rattle.bounded_model.specs.declared.answers.TakeRefused.{TakeRefused}
use Rattle.bounded_model.specs.declared.views.Answered.TheVariants as answered
use Rattle.bounded_model.specs.declared.views.PassView.{PassView}
use Rattle.bounded_model.specs.Laws.{Answers, PutGives, TakeGives, put_answered}
use Rattle.queue_machine.specs.declared.lines.Line.{Line}
use Rattle.queue_table.specs.declared.operation.Operation.{Operation}
use Rattle.running.specs.Code.{Account}
use Rattle.running.specs.Passes.{begun_of}
use Rattle.running.specs.declared.op.Op.{Op}
use Rattle.runs.specs.Made.{MadeFor}
use Rattle.runs.proofs.Made.{going}
use Rattle.ms_queue.specs.code.KeepsAnswers.{put_promises, take_promises}
use Rattle.ms_queue.specs.Calls.{IsPutting, PutOp, Queue, Pass, keeps, machine_of, pass_in, shape_of, IsTaking, TakeOp, PutTried, TakeTried}
use Rattle.ms_queue.specs.code.Putting.{put_account}
use Rattle.ms_queue.specs.code.Machine.{Answered, is_call}
use Rattle.ms_queue.specs.code.Taking.{take_account}
use Rattle.running.specs.Kept.{WasRun}
use Rattle.bounded_model.specs.declared.commands.Command.TheVariants.{Put, Take}
use Rattle.runs.specs.queue.Progress.{EndsOrOvertaken}
use Rattle.runs.proofs.queue.Progress.{overtaken}

module _ {T : Type 0} (c : Queue T) where
  abbrev id : TableId
  id = c.table.shared.table_id

  pub ends_or_overtaken : {S A : Type 0} (a : Account T (Line T) (Operation T) S (Answered A)) (Gives : Operation T → PassView T → PassView T → A → Type 0) (k : ℕ) (op : Op T (Line T) (Operation T) S) (r : Stepped (Op T (Line T) (Operation T) S) (Pass T) A)
      → MadeFor (machine_of c) a keeps id Gives (k + 21) op r → EndsOrOvertaken c r
  ends_or_overtaken a Gives k op (Again next) e = overtaken c next.operation next.pass (going (machine_of c) a id next e.0.under_way) (k + 21) 0 e.0.made (omega arith)
  ends_or_overtaken a Gives k op (Done back answer) e = tt

  pub put_tried : (x : T) (v : PassView T) (k : ℕ) (op : PutOp T) → IsPutting c x op → begun_of (machine_of c) op.pass ≡ v → (r : Stepped (PutOp T) (Pass T) (Result ℕ (PutRefused T)))
      → MadeFor (machine_of c) (put_account c.table.shared.key) keeps id (put_promises c.table.shared.key) k op r → PutTried c x v r
  put_tried x v k op is begun (Again next) e = (record { call = e.2 ∙ is.call; under_way = e.0.under_way }, e.1 ∙ begun)
  put_tried x v k op is begun (Done back answer) e =
      let given = subst (λ (w : PassView T). (PutGives (shape_of c) w x (pass_in back) answer × Answers w (pass_in back) (put_answered answer)) × WasRun (machine_of c) (put_account c.table.shared.key) (is_call (Put x)) w back answer) begun (e.gives x is.call, record { operation = op.operation; call = is.call; ran = e.ran }) in
      (e.of, given.0, given.1)

  pub take_tried : (v : PassView T) (k : ℕ) (op : TakeOp T) → IsTaking c op → begun_of (machine_of c) op.pass ≡ v → (r : Stepped (TakeOp T) (Pass T) (Result (T × ℕ) TakeRefused))
      → MadeFor (machine_of c) (take_account c.table.shared.key) keeps id (take_promises c.table.shared.key) k op r → TakeTried c v r
  take_tried v k op is begun (Again next) e = (record { call = e.2 ∙ is.call; under_way = e.0.under_way }, e.1 ∙ begun)
  take_tried v k op is begun (Done back answer) e =
      let given = subst (λ (w : PassView T). (TakeGives (shape_of c) w (pass_in back) answer × Answers w (pass_in back) (answered.Take answer)) × WasRun (machine_of c) (take_account c.table.shared.key) (is_call Take) w back answer) begun (e.gives is.call, record { operation = op.operation; call = is.call; ran = e.ran }) in
      (e.of, given.0, given.1)
