-- What the lines of a script are read as.
use Rattle.std.specs.Prelude.{◌≡◌, ℕ, suc, ◌+◌, ◌⊎◌, ◌^◌, Bool, true, ◌&&◌, false, List, [], ◌∷◌, length, nat_lt, nat_le, ◌==◌, if◌then◌else◌, Option, Some, None, codes, option_map, option_and_then, Result, Ok, Err}
use Rattle.std.specs.List.{list_all, onto_first, slice_split}
use Rattle.std.specs.Char.{is_ascii_alphanumeric, is_ascii_lowercase}
use Rattle.std.specs.Str.{bytes_eq}
use denote.Ref.{Bor}
use Rattle.std.specs.Str.Parse.{digits_value}
use Rattle.std.specs.Fmt.{decimal}
use Rattle.bounded_model.specs.declared.commands.Command.{Command}
use Rattle.bounded_model.specs.declared.commands.Command.TheVariants as command
use Rattle.bounded_model.specs.declared.history.Order.{Order}
use Rattle.bounded_model.specs.declared.history.Order.TheVariants.{Fifo, Lifo}
use Rattle.tagged_index.specs.declared.limit.TheConstants.{MAX_CAPACITY, MIN_CAPACITY, MIN_TAG_LIMIT}
use Rattle.tagged_index.specs.declared.word.TheConstants.{MAX_TAG}
use Rattle.script.specs.declared.fault.ScriptFault.{ScriptFault}
use Rattle.script.specs.declared.fault.ScriptFault.TheVariants.{NoFinalNewline, BadLine}
use Rattle.script.specs.declared.line.PassName.{PassName}
use Rattle.script.specs.declared.line.Act.{Act}
use Rattle.script.specs.declared.line.Act.TheVariants.{Call, Begin, Step, Range, Fold, ReversedFold, Meet, Drop}
use Rattle.script.specs.declared.line.Line.{Line}
use Rattle.script.specs.declared.line.Line.TheVariants.{By, Finish}
use Rattle.script.specs.declared.value.TheConstants.{MAX_VALUE_LEN}
use Rattle.script.specs.Script.{Head, is_allowed}
use Rattle.script.specs.Words.{value_of, values_of, number_of, cut_at, word_and_rest}

-- the pass that a word names
abbrev pub pass_of : List ℕ → Option PassName
pass_of (letter ∷ []) = if is_ascii_lowercase letter then Some (record { 0 = letter }) else None
pass_of _ = None

-- ---- calls

-- the call that a verb with one word after it is
abbrev pub call_with : List ℕ → List ℕ → Option (Command (List ℕ))
call_with verb word = if bytes_eq verb (codes "put") then option_map (λ value. command.Put value) (value_of word) else None

-- the call that one word is
abbrev pub call_alone : List ℕ → Option (Command (List ℕ))
call_alone verb =
    if bytes_eq verb (codes "take") then Some command.Take
    else if bytes_eq verb (codes "close") then Some command.Close
    else if bytes_eq verb (codes "shut") then Some command.Shut
    else if bytes_eq verb (codes "look") then Some command.Look
    else None

abbrev pub call_of_words : List ℕ → Option (List ℕ × List ℕ) → Option (Command (List ℕ))
call_of_words words None = call_alone words
call_of_words words (Some parts) = call_with parts.0 parts.1

-- the call that these words are, without the pass before them
unfoldable pub command_of : List ℕ → Option (Command (List ℕ))
command_of words = call_of_words words (word_and_rest words)

-- ---- what a pass does

abbrev pub in_step_range : ℕ → Option ℕ
in_step_range count = if nat_le 1 count && nat_le count 65535 then Some count else None

abbrev pub steps_of : List ℕ → Option ℕ
steps_of word = option_and_then in_step_range (number_of word)

abbrev pub call_in : List ℕ → Option Act
call_in words = option_map (λ command. Call command) (command_of words)

-- what one word has a pass do
unfoldable pub act_alone : List ℕ → Option Act
act_alone word =
    if bytes_eq word (codes "range") then Some (Range [])
    else if bytes_eq word (codes "fold") then Some Fold
    else if bytes_eq word (codes "rfold") then Some ReversedFold
    else if bytes_eq word (codes "drop") then Some Drop
    else call_in word

-- what these words, which begin with a verb and a space, have a pass do
abbrev pub act_with : List ℕ → List ℕ → List ℕ → Option Act
act_with words verb rest =
    if bytes_eq verb (codes "begin") then option_map (λ command. Begin command) (command_of rest)
    else if bytes_eq verb (codes "step") then option_map (λ count. Step count) (steps_of rest)
    else if bytes_eq verb (codes "range") then option_map (λ values. Range values) (values_of rest)
    else if bytes_eq verb (codes "meet") then option_map (λ other. Meet other) (pass_of rest)
    else call_in words

abbrev pub act_of_words : List ℕ → Option (List ℕ × List ℕ) → Option Act
act_of_words words None = act_alone words
act_of_words words (Some parts) = act_with words parts.0 parts.1

-- what these words have a pass do, without the pass before them
unfoldable pub act_of : List ℕ → Option Act
act_of words = act_of_words words (word_and_rest words)

-- the line that has this text, without the newline at its end
unfoldable pub line_of : List ℕ → Option Line
line_of text =
    if bytes_eq text (codes "finish") then Some Finish
    else option_and_then (λ parts. option_and_then (λ pass. option_map (λ act. By pass act) (act_of parts.1)) (pass_of parts.0)) (word_and_rest text)

-- ---- the lines of a text

-- whether a text is empty or has a newline at its end
abbrev pub is_ended : List ℕ → Bool
is_ended [] = true
is_ended (b ∷ []) = b == 10
is_ended (b ∷ c ∷ bs) = is_ended (c ∷ bs)

-- the first line, and the text after the newline at its end
abbrev pub line_and_rest : List ℕ → Option (List ℕ × List ℕ)
line_and_rest text = cut_at 10 text

-- the lines, each without the newline at its end
abbrev pub split_lines : List ℕ → List (List ℕ)
split_lines [] = []
split_lines (b ∷ bs) = if b == 10 then [] ∷ split_lines bs else onto_first b (split_lines bs)

-- ---- a whole script

-- `finish` stands last
abbrev pub is_in_place : Line → List (List ℕ) → Bool
is_in_place (By pass act) after = true
is_in_place Finish [] = true
is_in_place Finish (next ∷ more) = false

-- whether the line may stand before these in the script of a container of this order
abbrev pub stands : Order → Line → List (List ℕ) → Bool
stands order line after = is_allowed order line && is_in_place line after

abbrev pub placed : Order → Line → List (List ℕ) → Option Line
placed order line after = if stands order line after then Some line else None

abbrev pub line_before : Order → List ℕ → List (List ℕ) → Option Line
line_before order text after = option_and_then (λ line. placed order line after) (line_of text)

-- a line and those after it, or the place of the first line that cannot stand in its place
abbrev pub with_line : Option Line → Result (List Line) ℕ → Result (List Line) ℕ
with_line None rest = Err 0
with_line (Some line) (Ok lines) = Ok (line ∷ lines)
with_line (Some line) (Err place) = Err (suc place)

abbrev pub lines_from : Order → List (List ℕ) → Result (List Line) ℕ
lines_from order [] = Ok []
lines_from order (text ∷ after) = with_line (line_before order text after) (lines_from order after)

abbrev pub order_of : List ℕ → Option Order
order_of word =
    if bytes_eq word (codes "queue") then Some Fifo
    else if bytes_eq word (codes "stack") then Some Lifo
    else None

-- the capacity and the tag limit, in range
abbrev pub limits_of : ℕ → ℕ → Option (ℕ × ℕ)
limits_of capacity tag_limit =
    if (nat_le MIN_CAPACITY capacity && nat_le capacity MAX_CAPACITY) && (nat_le MIN_TAG_LIMIT tag_limit && nat_le tag_limit MAX_TAG) then Some (capacity, tag_limit) else None

unfoldable pub limits_in : List ℕ → Option (ℕ × ℕ)
limits_in words =
    option_and_then (λ parts. option_and_then (λ capacity. option_and_then (λ tag_limit. limits_of capacity tag_limit) (number_of parts.1)) (number_of parts.0)) (word_and_rest words)

-- the first line
unfoldable pub head_of : List ℕ → Option Head
head_of text =
    option_and_then (λ parts. option_and_then (λ order. option_map (λ limits. record { order = order; capacity = limits.0; tag_limit = limits.1 }) (limits_in parts.1)) (order_of parts.0)) (word_and_rest text)

-- the lines after the first, whose first fault is named by its line's number
abbrev pub numbered : Result (List Line) ℕ → Result (List Line) ScriptFault
numbered (Ok lines) = Ok lines
numbered (Err place) = Err (BadLine (place + 2))

abbrev pub with_lines : Head → Result (List Line) ScriptFault → Result (Head × List Line) ScriptFault
with_lines head (Ok lines) = Ok (head, lines)
with_lines head (Err fault) = Err fault

abbrev pub with_head : Option Head → List (List ℕ) → Result (Head × List Line) ScriptFault
with_head None after = Err (BadLine 1)
with_head (Some head) after = with_lines head (numbered (lines_from head.order after))

abbrev pub script_in : List (List ℕ) → Result (Head × List Line) ScriptFault
script_in [] = Err (BadLine 1)
script_in (first ∷ after) = with_head (head_of first) after

-- the script that has this text, or what is wrong with the text
unfoldable pub script_of : List ℕ → Result (Head × List Line) ScriptFault
script_of text = if is_ended text then script_in (split_lines text) else Err NoFinalNewline

-- what a function answered, seen by view, is what reading gives, unless memory ran out
abbrev pub Gives : {X Y E : Type 0} → E → (X → Y) → Result X E → Result Y E → Type 0
Gives no_memory view (Ok x) read = read ≡ Ok (view x)
Gives no_memory view (Err e) read = (e ≡ no_memory) ⊎ (read ≡ Err e)
