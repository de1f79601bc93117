-- How the reply of a call is written.
use Rattle.std.specs.Prelude.{ℕ, Bool, true, false, List, ◌++◌, codes, Result, Ok, Err}
use Rattle.std.specs.Fmt.{decimal}
use Rattle.bounded_model.specs.declared.answers.Word.{Word}
use Rattle.bounded_model.specs.declared.answers.Word.TheVariants as word
use Rattle.bounded_model.specs.declared.answers.PutRefused.{PutRefused}
use Rattle.bounded_model.specs.declared.answers.PutRefused.TheVariants as put
use Rattle.bounded_model.specs.declared.answers.TakeRefused.{TakeRefused}
use Rattle.bounded_model.specs.declared.answers.TakeRefused.TheVariants as take
use Rattle.bounded_model.specs.declared.commands.Reply.{Reply}
use Rattle.bounded_model.specs.declared.commands.Reply.TheVariants.{Put, Take, Close, Shut, Look}
use Rattle.script.specs.Words.{spaced}

abbrev pub word_text : Word → List ℕ
word_text word.Cells = codes "cells"
word_text word.Nodes = codes "nodes"
word_text (word.Next node) = codes "next " ++ decimal node
word_text word.Free = codes "free"
word_text word.Top = codes "top"
word_text word.Count = codes "count"

abbrev pub put_text : Result ℕ (PutRefused (List ℕ)) → List ℕ
put_text (Ok number) = codes "put " ++ decimal number
put_text (Err (put.Full value)) = codes "full " ++ value
put_text (Err (put.Closed value)) = codes "closed " ++ value
put_text (Err (put.Spent value word tag)) = codes "spent " ++ word_text word ++ codes " " ++ decimal tag ++ codes " " ++ value

abbrev pub refused_text : TakeRefused → List ℕ
refused_text take.Empty = codes "empty"
refused_text take.Closed = codes "closed"
refused_text (take.Spent word tag) = codes "spent " ++ word_text word ++ codes " " ++ decimal tag
refused_text take.Shut = codes "shut"

abbrev pub take_text : Result (List ℕ × ℕ) TakeRefused → List ℕ
take_text (Ok (value, number)) = codes "take " ++ decimal number ++ codes " " ++ value
take_text (Err refused) = refused_text refused

abbrev pub bool_text : Bool → List ℕ
bool_text true = codes "true"
bool_text false = codes "false"

abbrev pub look_text : Bool → List ℕ
look_text true = codes "look empty"
look_text false = codes "look some"

abbrev pub reply_text : Reply (List ℕ) → List ℕ
reply_text (Put answer) = put_text answer
reply_text (Take answer) = take_text answer
reply_text (Close closed) = codes "close " ++ bool_text closed
reply_text (Shut shut) = codes "shut " ++ bool_text shut
reply_text (Look is_empty) = look_text is_empty

-- the values left, a space before each
abbrev pub rest_text : List (List ℕ) → List ℕ
rest_text values = codes "rest" ++ spaced values
