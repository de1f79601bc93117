-- The words of the crates below that several files of specs/ and proofs/ use.
pub use Rattle.atomic_table.specs.Table.{rest}
pub use Rattle.bounded_model.specs.Justified.{Sometime}
pub use Rattle.bounded_model.specs.Laws.{Adds, Answers, LenGives, LookGives, PutGives, TakeGives, put_answered}
pub use Rattle.bounded_model.specs.Machine.{Shape}
pub use Rattle.bounded_model.specs.Stepping.{MatchStepped, Underway}
pub use Rattle.bounded_model.specs.declared.answers.PutRefused.{PutRefused}
pub use Rattle.bounded_model.specs.declared.answers.PutRefused.TheVariants.{Closed, Full}
pub use Rattle.bounded_model.specs.declared.answers.Stepped.{Stepped}
pub use Rattle.bounded_model.specs.declared.answers.Stepped.TheVariants.{Again}
pub use Rattle.bounded_model.specs.declared.answers.TakeRefused.{TakeRefused}
pub use Rattle.bounded_model.specs.declared.commands.Command.{Command}
pub use Rattle.bounded_model.specs.declared.commands.Command.TheVariants.{Close, Look, Put, Shut, Take}
pub use Rattle.bounded_model.specs.declared.commands.Reply.{Reply}
pub use Rattle.bounded_model.specs.declared.history.Event.{Event}
pub use Rattle.bounded_model.specs.declared.views.PassView.{PassView}
pub use Rattle.bounded_model.specs.declared.views.RootView.{RootView}
pub use Rattle.machine.specs.Seats.{pass_of}
pub use Rattle.machine.specs.declared.seats.View.{View}
pub use Rattle.queue_machine.specs.Answers.{IsGauged}
pub use Rattle.queue_machine.specs.Machine.{ends, is_idle}
pub use Rattle.queue_machine.specs.declared.lines.Answer.{Answer}
pub use Rattle.queue_machine.specs.declared.lines.Answer.TheVariants.{Close as AnswerClose, Gauge as AnswerGauge, Len as AnswerLen, Look as AnswerLook}
pub use Rattle.queue_machine.specs.declared.lines.Answer.TheVariants.{Put as AnswerPut, Shut as AnswerShut, Take as AnswerTake}
pub use Rattle.queue_machine.specs.declared.lines.Line.{Line}
pub use Rattle.queue_machine.specs.declared.lines.Line.TheVariants.{LoadHead, LoadNodesToGive}
pub use Rattle.queue_machine.specs.declared.lines.Seeking.{Seeking}
pub use Rattle.queue_machine.specs.declared.lines.Seeking.TheVariants.{ToClose, ToGauge, ToLink, ToRefuse}
pub use Rattle.queue_table.specs.Core.{queue_with}
pub use Rattle.queue_table.specs.Layout.{next_at}
pub use Rattle.queue_table.specs.Lines.{names, next}
pub use Rattle.queue_table.specs.declared.operation.Operation.{Operation}
pub use Rattle.queue_table.specs.declared.operation.Operation.TheVariants.{Close as CloseFirst, Gauge as GaugeFirst, Len as LenFirst}
pub use Rattle.queue_table.specs.declared.operation.Operation.TheVariants.{Look as LookFirst, Shut as ShutFirst, Take as TakeFirst}
pub use Rattle.running.proofs.Leading.{finding}
pub use Rattle.running.specs.Code.{Account, Came, Finding, Leads, MatchNext, to_answer}
pub use Rattle.running.specs.Going.{Ended, HasRun}
pub use Rattle.running.specs.Kept.{Makes, WasRun as WasRunBy, underway_in}
pub use Rattle.running.specs.Ops.{IsUnderWay}
pub use Rattle.running.specs.Passes.{begun_of}
pub use Rattle.running.specs.declared.access.Outcome.{Outcome}
pub use Rattle.running.specs.declared.code.Next.{Next}
pub use Rattle.running.specs.declared.code.Next.TheVariants.{Done, Lost, On}
pub use Rattle.running.specs.declared.kept.PassWith.{PassWith}
pub use Rattle.running.specs.declared.kept.RootWith.{RootWith}
pub use Rattle.running.specs.declared.op.Op.{Op}
pub use Rattle.running.specs.declared.passes.Note.{Note}
pub use Rattle.running.specs.declared.passes.Pass.{Pass}
pub use Rattle.running.specs.declared.tie.Free.{Free}
pub use Rattle.tagged_index.specs.Fields.{fields_of, index_of, tag_of}
pub use Rattle.tagged_index.specs.Limits.{capacity_of, tag_limit_of}
pub use Rattle.tagged_index.specs.declared.limit.Limits.{Limits}
pub use Rattle.tagged_index.specs.declared.word.TheConstants.{NULL}
