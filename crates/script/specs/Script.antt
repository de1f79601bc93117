-- The grammar of scripts, over the whole text.
use Rattle.std.specs.Prelude.{◌≡◌, ℕ, ◌≤◌, Bool, true, false, IsTrue, List, [], ◌∷◌, ◌++◌, length, map, codes, ◌==◌, not}
use Rattle.std.specs.List.{flat_map, list_all, AllByRecursion}
use Rattle.std.specs.Char.{is_ascii_alphanumeric, is_ascii_lowercase}
use Rattle.std.specs.Fmt.{decimal}
use Rattle.bounded_model.specs.declared.commands.Command.{Command}
use Rattle.bounded_model.specs.declared.commands.Command.TheVariants.{Put, Take, Close, Shut, Look}
use Rattle.bounded_model.specs.declared.history.Order.{Order}
use Rattle.bounded_model.specs.declared.history.Order.TheVariants.{Fifo, Lifo}
use Rattle.tagged_index.specs.declared.limit.TheConstants.{MAX_CAPACITY, MIN_CAPACITY, MIN_TAG_LIMIT}
use Rattle.tagged_index.specs.declared.word.TheConstants.{MAX_TAG}
use Rattle.script.specs.declared.line.Act.{Act}
use Rattle.script.specs.declared.line.Act.TheVariants.{Call, Begin, Step, Range, Fold, ReversedFold, Meet, Drop}
use Rattle.script.specs.declared.line.Line.{Line}
use Rattle.script.specs.declared.line.Line.TheVariants.{By, Finish}
use Rattle.script.specs.declared.value.TheConstants.{MAX_VALUE_LEN}
use Rattle.script.specs.Words.{spaced}

-- ---- what each line says, and how it is written

-- the first line: which container is made, and its limits
pub record Head : Type 0 where
  pub order : Order
  pub capacity : ℕ
  pub tag_limit : ℕ

pub record IsHead (head : Head) : Type 0 where
  pub some_capacity : MIN_CAPACITY ≤ head.capacity
  pub capacity_in_range : head.capacity ≤ MAX_CAPACITY
  pub some_tag_limit : MIN_TAG_LIMIT ≤ head.tag_limit
  pub tag_limit_in_range : head.tag_limit ≤ MAX_TAG

abbrev pub order_text : Order → List ℕ
order_text Fifo = codes "queue"
order_text Lifo = codes "stack"

abbrev pub head_text : Head → List ℕ
head_text head = order_text head.order ++ codes " " ++ decimal head.capacity ++ codes " " ++ decimal head.tag_limit

-- a value has 1 to 64 ASCII letters and digits
pub record IsValue (value : List ℕ) : Type 0 where
  pub some : 1 ≤ length value
  pub short : length value ≤ MAX_VALUE_LEN
  pub alphanumeric : IsTrue (list_all is_ascii_alphanumeric value)

abbrev pub IsCommand : Command (List ℕ) → Type 0
IsCommand (Put value) = IsValue value
IsCommand Take = Unit {0}
IsCommand Close = Unit {0}
IsCommand Shut = Unit {0}
IsCommand Look = Unit {0}

abbrev pub command_text : Command (List ℕ) → List ℕ
command_text (Put value) = codes "put " ++ value
command_text Take = codes "take"
command_text Close = codes "close"
command_text Shut = codes "shut"
command_text Look = codes "look"

-- a count of steps is 1 to 65,535
abbrev pub IsAct : Act → Type 0
IsAct (Call command) = IsCommand command
IsAct (Begin command) = IsCommand command
IsAct (Step count) = (1 ≤ count) × (count ≤ 65535)
IsAct (Range values) = AllByRecursion IsValue values
IsAct Fold = Unit {0}
IsAct ReversedFold = Unit {0}
IsAct (Meet other) = IsTrue (is_ascii_lowercase other.0)
IsAct Drop = Unit {0}

abbrev pub act_text : Act → List ℕ
act_text (Call command) = command_text command
act_text (Begin command) = codes "begin " ++ command_text command
act_text (Step count) = codes "step " ++ decimal count
act_text (Range values) = codes "range" ++ spaced values
act_text Fold = codes "fold"
act_text ReversedFold = codes "rfold"
act_text (Meet other) = codes "meet " ++ other.0 ∷ []
act_text Drop = codes "drop"

-- a pass is named by a letter from a to z
abbrev pub IsLine : Line → Type 0
IsLine (By pass act) = IsTrue (is_ascii_lowercase pass.0) × IsAct act
IsLine Finish = Unit {0}

abbrev pub line_text : Line → List ℕ
line_text (By pass act) = pass.0 ∷ codes " " ++ act_text act
line_text Finish = codes "finish"

-- ---- which script may have which line

-- a stack's look is one load, so it isn't begun
abbrev pub is_begun : Order → Command (List ℕ) → Bool
is_begun Fifo call = true
is_begun Lifo Look = false
is_begun Lifo (Put value) = true
is_begun Lifo Take = true
is_begun Lifo Close = true
is_begun Lifo Shut = true

-- a stack puts many values and takes all of them by one exchange; a queue can't
abbrev pub is_bulk : Order → Bool
is_bulk Fifo = false
is_bulk Lifo = true

-- no pass meets itself
abbrev pub is_act : Order → ℕ → Act → Bool
is_act order pass (Call command) = true
is_act order pass (Begin command) = is_begun order command
is_act order pass (Step count) = true
is_act order pass (Range values) = is_bulk order
is_act order pass Fold = is_bulk order
is_act order pass ReversedFold = is_bulk order
is_act order pass (Meet other) = not (pass == other.0)
is_act order pass Drop = true

abbrev pub is_allowed : Order → Line → Bool
is_allowed order (By pass act) = is_act order pass.0 act
is_allowed order Finish = true

-- ---- the whole text

-- these lines, a newline at the end of each
abbrev pub text_of : List (List ℕ) → List ℕ
text_of lines = flat_map (λ line. line ++ codes "\n") lines

-- `finish` stands last or not at all
abbrev pub FinishesLast : List Line → Type 0
FinishesLast [] = Unit {0}
FinishesLast (line ∷ after) = (line ≡ Finish → after ≡ []) × FinishesLast after

-- the text is the head and these lines, written one after another
pub record IsScript (text : List ℕ) (head : Head) (lines : List Line) : Type 0 where
  pub written : text ≡ text_of (head_text head ∷ map line_text lines)
  pub head_in_range : IsHead head
  pub each : AllByRecursion IsLine lines
  pub allowed : AllByRecursion (λ line. IsTrue (is_allowed head.order line)) lines
  pub finish_last : FinishesLast lines
