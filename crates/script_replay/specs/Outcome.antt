-- What a replay of a text does.
use Rattle.std.specs.Prelude.{◌≡◌, ℕ, ◌⊎◌, IfErr, IfSome, List, OnOk, Option, Result, map}
use Rattle.std.specs.Io.KnownBytes.{Appends}
use Rattle.script_replay.specs.declared.fault.ReplayFault.{ReplayFault}
use Rattle.script_replay.specs.declared.fault.ReplayFault.TheVariants.{NoMemory, Device, NoFinalNewline, TooLong, BadLine, Output}
use Rattle.told.specs.Writing.{AppendsFront, Written}
use Rattle.bounded_model.specs.declared.history.Order.{Order}
use Rattle.script.specs.declared.answer.Answer.{Answer}
use Rattle.script.specs.declared.line.Line.{Line}
use Rattle.bounded_model.specs.declared.container.TheConstants.{MAX_PASSES}
use Rattle.bounded_model.specs.Laws.{fresh}
use Rattle.player.specs.Plays.{Plays, start}
use Rattle.script.specs.AnswerTexts.{answer_text}
use Rattle.script.specs.Faults.{IsUnended, IsFirstBad, IsAccepted}
use Rattle.script.specs.Reading.{split_lines}
use Rattle.script.specs.Script.{Head, IsScript, text_of}

-- what is written for a script, which is played over a new container of this order: the answers of its calls, each under
-- the container's own laws
abbrev pub IsOutputIn : Order → Head → List Line → List ℕ → Type 0
IsOutputIn order head lines output = (answers : List Answer) × Plays (record { order = order; capacity = head.capacity; limit = head.tag_limit; passes = MAX_PASSES }) (start fresh) lines answers × (output ≡ text_of (map answer_text answers))

abbrev pub IsOutputOf : Head → List Line → List ℕ → Type 0
IsOutputOf head lines output = IsOutputIn head.order head lines output

-- the text is a script, and this is written for it
pub record IsOutputFor (text output : List ℕ) : Type 0 where
  pub accepted : IsAccepted text
  pub output_is : (head : Head) (lines : List Line) → IsScript text head lines → IsOutputOf head lines output

-- what is known of the text after a fault
abbrev pub IsFaultOf : ReplayFault → List ℕ → Type 0
IsFaultOf NoFinalNewline text = IsUnended text
IsFaultOf (BadLine number) text = ¬ (IsUnended text) × IsFirstBad (split_lines text) number
IsFaultOf NoMemory text = Unit {0}
IsFaultOf Device text = Unit {0}
IsFaultOf TooLong text = Unit {0}
IsFaultOf Output text = IsAccepted text

-- the fault is none of the text's
abbrev pub IsOutside : ReplayFault → Type 0
IsOutside fault = (fault ≡ NoMemory) ⊎ ((fault ≡ Device) ⊎ ((fault ≡ TooLong) ⊎ (fault ≡ Output)))

-- some output for the text went out, or a front of one
pub record Wrote (text : List ℕ) (old new : Option (List ℕ)) : Type 0 where
  pub output : List ℕ
  pub is : IsOutputFor text output
  pub went_out : Appends old new output

pub record WroteFront (text : List ℕ) (old new : Option (List ℕ)) : Type 0 where
  pub output : List ℕ
  pub is : IsOutputFor text output
  pub went_out : AppendsFront old new output

-- what a replay does to a writer, of the text that its reader gave: a script's replies go out, whole
-- unless a write fails, and a fault of the text is in the text
pub record Replays {A : Type 0} (text : Option (List ℕ)) (writer : Written) (result : Result A ReplayFault) : Type 0 where
  pub accepted : OnOk result (IfSome text IsAccepted)
  pub replies : OnOk result (IfSome text (λ text. Wrote text writer.old writer.new))
  pub fault : IfErr result (λ fault. IfSome text (IsFaultOf fault))
  pub only : IfErr result (λ fault. IfSome text (λ text. IsAccepted text → IsOutside fault))
  pub front : IfErr result (λ fault. fault ≡ Output → IfSome text (λ text. WroteFront text writer.old writer.new))
