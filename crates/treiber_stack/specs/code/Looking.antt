-- Looks made by steps: each has one.
use Rattle.std.specs.Prelude.{Bool, []}
use Rattle.treiber_stack.specs.Prelude.{Account, AnswerLook, Limits, Line, LoadTopToLook, LookFirst, Operation, ends, to_answer}
use Rattle.treiber_stack.specs.declared.code.looking.LookAt.{LookAt}
use Rattle.treiber_stack.specs.declared.code.looking.LookAt.TheVariants.{Load}
use Rattle.treiber_stack.specs.code.Machine.{Answered}

module _ {T : Type 0} where
  -- the machine's line
  abbrev pub look_line : LookAt → Line T
  look_line Load = LoadTopToLook

  -- how it is read
  abbrev pub look_account : Limits → Account T (Line T) (Operation T) LookAt (Answered Bool)
  look_account k = to_answer (λ at. LookFirst) look_line (λ at. []) (λ at. Unit {0}) (λ o a. ends (AnswerLook a.reply))
