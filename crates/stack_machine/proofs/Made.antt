-- What an answer says of the events of its pass, whatever the call was.
use Rattle.std.proofs.Common.{◌≡◌, ℕ, List, [], length, arith, Err}
use Rattle.bounded_model.specs.declared.answers.Word.TheVariants.{Free as FreeWord, Top as TopWord}
use Rattle.bounded_model.specs.declared.answers.PutRefused.{PutRefused}
use Rattle.bounded_model.specs.declared.answers.PutRefused.TheVariants.{Full, Closed, Spent}
use Rattle.bounded_model.specs.declared.answers.TakeRefused.{TakeRefused}
use Rattle.bounded_model.specs.declared.answers.TakeRefused.TheVariants.{Empty, Closed as TakeClosed, Shut as TakeShut, Spent as TakeSpent}
use Rattle.bounded_model.specs.declared.history.Event.{Event}
use Rattle.stack_machine.specs.declared.lines.Taking.TheVariants.{One, Whole}
use Rattle.stack_machine.specs.declared.lines.Call.{Call}
use Rattle.stack_machine.specs.declared.lines.Call.TheVariants.{Put as CallPut, Take as CallTake}
use Rattle.stack_machine.specs.declared.lines.Answer.TheVariants.{Put as AnswerPut, Take as AnswerTake, Fold as AnswerFold}
use Rattle.stack_machine.specs.Deeds.{BackedOut, MakesRefusal, MakesNothing, Makes, handed_back}

module _ {T : Type 0} (p : ℕ) (events : List (Event T)) where
  none_out : (most : ℕ) → events ≡ [] → BackedOut p most events
  none_out most e = record { nodes = 0; at_most = omega arith; is = e }

  refused : (why : PutRefused (List T)) → MakesRefusal p why events → BackedOut p (length (handed_back why)) events
  refused (Full values) m = none_out (length values) m
  refused (Closed values) m = m
  refused (Spent values FreeWord tag) m = none_out (length values) m
  refused (Spent values TopWord tag) m = m
  refused why m = absurd m

  nothing : (why : TakeRefused) → MakesNothing p why events → events ≡ []
  nothing Empty m = m
  nothing TakeClosed m = m
  nothing TakeShut m = m
  nothing (TakeSpent TopWord tag) m = m
  nothing why m = absurd m

  pub made_refusal : (call : Call T) (why : PutRefused (List T)) → Makes p call (AnswerPut (Err why)) events → BackedOut p (length (handed_back why)) events
  made_refusal (CallPut v vs) why m = refused why m.1
  made_refusal (CallTake One) why m = absurd m
  made_refusal call why m = absurd m

  pub made_no_take : (call : Call T) (why : TakeRefused) → Makes p call (AnswerTake (Err why)) events → events ≡ []
  made_no_take (CallTake One) why m = nothing why m
  made_no_take call why m = absurd m

  pub made_no_fold : (call : Call T) (why : TakeRefused) → Makes p call (AnswerFold (Err why)) events → events ≡ []
  made_no_fold (CallTake (Whole d)) why m = nothing why m
  made_no_fold call why m = absurd m
