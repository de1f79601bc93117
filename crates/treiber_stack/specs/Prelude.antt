-- The words of the crates below that several files of specs/ and proofs/ use.
pub use Rattle.atomic_table.specs.Table.{rest}
pub use Rattle.bounded_model.specs.Bulk.{FoldAnswers, FoldsAll, PutsRange, RangeAnswers}
pub use Rattle.bounded_model.specs.Histories.{own}
pub use Rattle.bounded_model.specs.Justified.{Sometime}
pub use Rattle.bounded_model.specs.Laws.{Adds, Answers, BacksOut, FoldGives, LookGives, PutGives, TakeGives, gave_back, holds_of, in_list}
pub use Rattle.bounded_model.specs.Laws.{put_answered}
pub use Rattle.bounded_model.specs.Machine.{Shape}
pub use Rattle.bounded_model.specs.Stepping.{MatchStepped, Underway}
pub use Rattle.bounded_model.specs.declared.answers.PutRefused.{PutRefused}
pub use Rattle.bounded_model.specs.declared.answers.PutRefused.TheVariants.{Closed as PutClosed, Full as PutFull, Spent as PutSpent}
pub use Rattle.bounded_model.specs.declared.answers.Stepped.{Stepped}
pub use Rattle.bounded_model.specs.declared.answers.Stepped.TheVariants.{Again}
pub use Rattle.bounded_model.specs.declared.answers.TakeRefused.{TakeRefused}
pub use Rattle.bounded_model.specs.declared.answers.Word.TheVariants.{Free as FreeWord, Top as TopWord}
pub use Rattle.bounded_model.specs.declared.bulk.Folded.{Folded}
pub use Rattle.bounded_model.specs.declared.bulk.RangeRefused.{RangeRefused}
pub use Rattle.bounded_model.specs.declared.bulk.RangeRefused.TheVariants.{Closed, Full, Nothing, Spent}
pub use Rattle.bounded_model.specs.declared.bulk.Ranged.{Ranged}
pub use Rattle.bounded_model.specs.declared.commands.Command.{Command}
pub use Rattle.bounded_model.specs.declared.commands.Command.TheVariants.{Close, Look, Put, Shut, Take}
pub use Rattle.bounded_model.specs.declared.commands.Reply.{Reply}
pub use Rattle.bounded_model.specs.declared.history.Event.{Event}
pub use Rattle.bounded_model.specs.declared.history.Event.TheVariants.{Free}
pub use Rattle.bounded_model.specs.declared.views.PassView.{PassView}
pub use Rattle.bounded_model.specs.declared.views.RootView.{RootView}
pub use Rattle.index_list.specs.Steps.{numbers}
pub use Rattle.index_list.specs.declared.front.Front.{Front}
pub use Rattle.machine.proofs.Chains.{first_in, last_in}
pub use Rattle.machine.proofs.Lists.{none_of, times_append, times_here}
pub use Rattle.machine.specs.Chains.{first, last, values_of}
pub use Rattle.machine.specs.Seats.{pass_of}
pub use Rattle.machine.specs.Words.{times}
pub use Rattle.machine.specs.declared.seats.View.{View}
pub use Rattle.machine.specs.declared.seats.View.TheVariants.{AtRoot}
pub use Rattle.running.proofs.Leading.{finding}
pub use Rattle.running.specs.Code.{Account, Finding, Leads, MatchNext, to_answer}
pub use Rattle.running.specs.Going.{Ended, Going, HasRun, begun_in}
pub use Rattle.running.specs.Kept.{Makes, WasRun as WasRunBy, underway_in}
pub use Rattle.running.specs.Lists.{AtStep}
pub use Rattle.running.specs.Ops.{IsUnderWay}
pub use Rattle.running.specs.Passes.{pass_in}
pub use Rattle.running.specs.Rule.{line_in, line_now}
pub use Rattle.running.specs.Steps.{Ran, Stops, StopsAt}
pub use Rattle.running.specs.Tables.{values as slot_values}
pub use Rattle.running.specs.declared.access.Outcome.{Outcome}
pub use Rattle.running.specs.declared.code.Next.{Next}
pub use Rattle.running.specs.declared.code.Next.TheVariants.{Done, Lost as NextLost, On}
pub use Rattle.running.specs.declared.kept.PassWith.{PassWith}
pub use Rattle.running.specs.declared.kept.RootWith.{RootWith}
pub use Rattle.running.specs.declared.op.Op.{Op}
pub use Rattle.running.specs.declared.passes.Note.{Note}
pub use Rattle.running.specs.declared.passes.Pass.{Pass}
pub use Rattle.stack_machine.proofs.Made.{made_refusal}
pub use Rattle.stack_machine.specs.Answers.{IsGauged, shape}
pub use Rattle.stack_machine.specs.Deeds.{Deeds, handed_back, in_order}
pub use Rattle.stack_machine.specs.Machine.{at_load_free, at_load_top, at_load_top_to_refuse, at_load_top_to_take, ends, is_idle, next_node, stacked}
pub use Rattle.stack_machine.specs.Machine.{starts, unplaced, with_node}
pub use Rattle.stack_machine.specs.declared.lines.Answer.{Answer}
pub use Rattle.stack_machine.specs.declared.lines.Answer.TheVariants.{Close as AnswerClose, Fold as AnswerFold, Look as AnswerLook, Put as AnswerPut}
pub use Rattle.stack_machine.specs.declared.lines.Answer.TheVariants.{Shut as AnswerShut, Take as AnswerTake}
pub use Rattle.stack_machine.specs.declared.lines.Call.{Call}
pub use Rattle.stack_machine.specs.declared.lines.Call.TheVariants.{Put as CallPut, Take as CallTake}
pub use Rattle.stack_machine.specs.declared.lines.Giving.{Giving}
pub use Rattle.stack_machine.specs.declared.lines.Line.{Line}
pub use Rattle.stack_machine.specs.declared.lines.Line.TheVariants.{GiveBack, LinkTaken, LinkToFree, LinkToTop, LoadFree as LoadFreeLine, LoadFreeLink}
pub use Rattle.stack_machine.specs.declared.lines.Line.TheVariants.{LoadFreeToGive, LoadLinkToFold, LoadLinkToTurn, LoadTop, LoadTopToLook}
pub use Rattle.stack_machine.specs.declared.lines.Line.TheVariants.{LoadTopToRefuse, LoadTopToTake, SwapTop, TakeFree}
pub use Rattle.stack_machine.specs.declared.lines.Putting.{Putting}
pub use Rattle.stack_machine.specs.declared.lines.Taking.{Taking}
pub use Rattle.stack_machine.specs.declared.lines.Taking.TheVariants.{One, Whole}
pub use Rattle.stack_table.proofs.Slots.{length_in_order, vacant_append, values_full}
pub use Rattle.stack_table.specs.Core.{stack_with}
pub use Rattle.stack_table.specs.Layout.{link_at}
pub use Rattle.stack_table.specs.Lines.{call_of, direction, names, next}
pub use Rattle.stack_table.specs.Lists.{lists}
pub use Rattle.stack_table.specs.Slots.{IsHand, Links, full, vacant}
pub use Rattle.stack_table.specs.declared.operation.Operation.{Operation}
pub use Rattle.stack_table.specs.declared.operation.Operation.TheVariants.{Close as CloseFirst, Fold as FoldFirst, Look as LookFirst}
pub use Rattle.stack_table.specs.declared.operation.Operation.TheVariants.{Shut as ShutFirst, Take as TakeFirst}
pub use Rattle.tagged_index.specs.Fields.{fields_of, index_of, mark_of, second_of, tag_of}
pub use Rattle.tagged_index.specs.Limits.{capacity_of, tag_limit_of}
pub use Rattle.tagged_index.specs.declared.limit.Limits.{Limits}
pub use Rattle.tagged_index.specs.declared.word.TheConstants.{NULL}
