-- The words of the crates below that several files of specs/ and proofs/ use.
pub use Rattle.bounded_model.specs.Justified.{IsOpen, Sometime}
pub use Rattle.bounded_model.specs.Laws.{Adds, Answers, LookGives, PutGives, TakeGives, put_answered}
pub use Rattle.bounded_model.specs.Machine.{Shape}
pub use Rattle.bounded_model.specs.Stepping.{MatchStepped, Underway}
pub use Rattle.bounded_model.specs.declared.answers.PutRefused.{PutRefused}
pub use Rattle.bounded_model.specs.declared.answers.PutRefused.TheVariants.{Closed, Full, Spent}
pub use Rattle.bounded_model.specs.declared.answers.Stepped.{Stepped}
pub use Rattle.bounded_model.specs.declared.answers.Stepped.TheVariants.{Again}
pub use Rattle.bounded_model.specs.declared.answers.TakeRefused.{TakeRefused}
pub use Rattle.bounded_model.specs.declared.answers.TakeRefused.TheVariants.{Closed as TakeClosed, Empty as TakeEmpty, Shut as TakeShut}
pub use Rattle.bounded_model.specs.declared.answers.Word.TheVariants.{Next as NextWord}
pub use Rattle.bounded_model.specs.declared.commands.Command.{Command}
pub use Rattle.bounded_model.specs.declared.commands.Command.TheVariants.{Close, Look, Put, Shut, Take}
pub use Rattle.bounded_model.specs.declared.commands.Reply.{Reply}
pub use Rattle.bounded_model.specs.declared.history.Event.{Event}
pub use Rattle.bounded_model.specs.declared.views.PassView.{PassView}
pub use Rattle.bounded_model.specs.declared.views.RootView.{RootView}
pub use Rattle.machine.specs.Seats.{pass_of}
pub use Rattle.machine.specs.declared.seats.View.{View}
pub use Rattle.ring_machine.specs.Answers.{HasAllPuts, HasAllValues, IsGauged}
pub use Rattle.ring_machine.specs.Machine.{Memory, ends, full_at, is_idle, place, resting}
pub use Rattle.ring_machine.specs.declared.lines.Answer.{Answer}
pub use Rattle.ring_machine.specs.declared.lines.Answer.TheVariants.{Close as AnswerClose, Look as AnswerLook, Put as AnswerPut, Shut as AnswerShut}
pub use Rattle.ring_machine.specs.declared.lines.Answer.TheVariants.{Take as AnswerTake}
pub use Rattle.ring_machine.specs.declared.lines.Back.TheVariants.{ToCount, ToGauge, ToPut}
pub use Rattle.ring_machine.specs.declared.lines.Front.TheVariants.{ToCount as ToCountFrom, ToLook, ToTake}
pub use Rattle.ring_machine.specs.declared.lines.Line.{Line}
pub use Rattle.ring_machine.specs.declared.lines.Line.TheVariants.{PutCell, Stow as StowLine, TakeCell}
pub use Rattle.ring_table.specs.Core.{ring_with}
pub use Rattle.ring_table.specs.Layout.{head_at, slot_at}
pub use Rattle.ring_table.specs.Seats.{names}
pub use Rattle.ring_table.specs.declared.line.SeatLine.{SeatLine}
pub use Rattle.ring_table.specs.declared.line.SeatLine.TheVariants.{At, Stock}
pub use Rattle.ring_table.specs.declared.operation.Operation.{Operation}
pub use Rattle.ring_table.specs.declared.operation.Operation.TheVariants.{Close as CloseFirst, Gauge as GaugeFirst, Len as LenFirst, Look as LookFirst}
pub use Rattle.ring_table.specs.declared.operation.Operation.TheVariants.{Shut as ShutFirst, Take as TakeFirst}
pub use Rattle.running.proofs.Leading.{finding}
pub use Rattle.running.specs.Code.{Account, Came, Finding, Leads, to_answer}
pub use Rattle.running.specs.Going.{Ended, HasRun}
pub use Rattle.running.specs.Kept.{Makes, WasRun as WasRunBy, underway_in}
pub use Rattle.running.specs.Ops.{IsUnderWay}
pub use Rattle.running.specs.Passes.{begun_of}
pub use Rattle.running.specs.declared.access.Outcome.{Outcome}
pub use Rattle.running.specs.declared.code.Next.{Next}
pub use Rattle.running.specs.declared.code.Next.TheVariants.{Done, Lost, On}
pub use Rattle.running.specs.declared.kept.PassWith.{PassWith}
pub use Rattle.running.specs.declared.kept.RootWith.{RootWith}
pub use Rattle.running.specs.declared.op.Op.{Op}
pub use Rattle.running.specs.declared.passes.Note.{Note}
pub use Rattle.running.specs.declared.passes.Pass.{Pass}
pub use Rattle.running.specs.declared.tie.Free.{Free}
pub use Rattle.tagged_index.specs.Fields.{fields_of, index_of, mark_of, second_of, tag_of}
pub use Rattle.tagged_index.specs.Limits.{capacity_of, passes_of}
pub use Rattle.tagged_index.specs.declared.limit.Limits.{Limits}
pub use Rattle.tagged_index.specs.declared.word.TheConstants.{MAX_TAG}
