-- What is wrong with a text that is no script.
use Rattle.std.specs.Prelude.{◌≡◌, ◌≢◌, ℕ, zero, suc, ◌+◌, ◌⊎◌, IsTrue, List, [], ◌∷◌, ◌++◌}
use Rattle.bounded_model.specs.declared.history.Order.{Order}
use Rattle.script.specs.declared.fault.ScriptFault.{ScriptFault}
use Rattle.script.specs.declared.fault.ScriptFault.TheVariants.{NoMemory, NoFinalNewline, BadLine}
use Rattle.script.specs.declared.line.Line.{Line}
use Rattle.script.specs.declared.line.Line.TheVariants.{Finish}
use Rattle.script.specs.Reading.{split_lines}
use Rattle.script.specs.Script.{Head, IsHead, IsLine, IsScript, head_text, line_text, is_allowed}

-- something stands after the last newline
abbrev pub IsUnended : List ℕ → Type 0
IsUnended text = (front : List ℕ) × (last : ℕ) × (text ≡ front ++ last ∷ []) × (last ≢ 10)

abbrev pub IsHeadText : List ℕ → Type 0
IsHeadText text = (head : Head) × IsHead head × (text ≡ head_text head)

-- the line of a script of this order has this text and may stand before these: `finish` stands last
pub record Stands (order : Order) (text : List ℕ) (after : List (List ℕ)) (line : Line) : Type 0 where
  pub is : IsLine line
  pub written : text ≡ line_text line
  pub allowed : IsTrue (is_allowed order line)
  pub last : line ≡ Finish → after ≡ []

abbrev pub StandsBefore : Order → List ℕ → List (List ℕ) → Type 0
StandsBefore order text after = (line : Line) × Stands order text after line

-- the line at this place, from 0, of the lines after the first, is the first that cannot stand there
abbrev pub IsWrongAt : Order → List (List ℕ) → ℕ → Type 0
IsWrongAt order [] place = ⊥
IsWrongAt order (text ∷ after) zero = ¬ (StandsBefore order text after)
IsWrongAt order (text ∷ after) (suc place) = StandsBefore order text after × IsWrongAt order after place

-- a first line and the lines after it, one of which is the first that cannot stand there
pub record IsBadBehind (first : List ℕ) (after : List (List ℕ)) (number : ℕ) : Type 0 where
  pub head : Head
  pub is : IsHead head
  pub written : first ≡ head_text head
  pub place : ℕ
  pub counted : number ≡ place + 2
  pub wrong : IsWrongAt head.order after place

-- the line of this number, from 1, is the first that cannot stand there; a text of no line lacks line 1
abbrev pub IsFirstBad : List (List ℕ) → ℕ → Type 0
IsFirstBad [] number = number ≡ 1
IsFirstBad (first ∷ after) number = ((number ≡ 1) × ¬ (IsHeadText first)) ⊎ IsBadBehind first after number

abbrev pub IsAccepted : List ℕ → Type 0
IsAccepted text = (head : Head) × (lines : List Line) × IsScript text head lines

-- what is known of the text after a fault
abbrev pub IsTextFault : ScriptFault → List ℕ → Type 0
IsTextFault NoFinalNewline text = IsUnended text
IsTextFault (BadLine number) text = ¬ (IsUnended text) × IsFirstBad (split_lines text) number
IsTextFault NoMemory text = Unit {0}
