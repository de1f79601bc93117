-- How the answer of a line is written.
use Rattle.std.specs.Prelude.{ℕ, List, ◌++◌, codes, Result, Ok, Err}
use Rattle.std.specs.Fmt.{decimal}
use Rattle.bounded_model.specs.declared.answers.TakeRefused.{TakeRefused}
use Rattle.script.specs.declared.answer.Answer.{Answer}
use Rattle.script.specs.declared.answer.Answer.TheVariants.{Call, Begun, Again, Ended, Range, Fold, ReversedFold, Met, Dropped, Busy, NothingBegun, NoPass, Rest}
use Rattle.script.specs.declared.answer.RangeReply.{RangeReply}
use Rattle.script.specs.declared.answer.RangeReply.TheVariants as range
use Rattle.script.specs.ReplyTexts.{word_text, refused_text, reply_text, rest_text}
use Rattle.script.specs.Words.{spaced}

-- with the values that were not put
abbrev pub range_text : RangeReply → List (List ℕ) → List ℕ
range_text (range.Put number count) kept = codes "range " ++ decimal number ++ codes " " ++ decimal count ++ codes " kept" ++ spaced kept
range_text range.Nothing kept = codes "nothing"
range_text range.Full kept = codes "full kept" ++ spaced kept
range_text range.Closed kept = codes "closed kept" ++ spaced kept
range_text (range.Spent word tag) kept = codes "spent " ++ word_text word ++ codes " " ++ decimal tag ++ codes " kept" ++ spaced kept

abbrev pub fold_text : List ℕ → Result (ℕ × List (List ℕ)) TakeRefused → List ℕ
fold_text name (Ok (number, values)) = name ++ codes " " ++ decimal number ++ spaced values
fold_text name (Err refused) = refused_text refused

abbrev pub answer_text : Answer → List ℕ
answer_text (Call reply) = reply_text reply
answer_text Begun = codes "begun"
answer_text (Again steps) = codes "again " ++ decimal steps
answer_text (Ended reply steps) = reply_text reply ++ codes " steps " ++ decimal steps
answer_text (Range reply kept) = range_text reply kept
answer_text (Fold answer) = fold_text (codes "fold") answer
answer_text (ReversedFold answer) = fold_text (codes "rfold") answer
answer_text Met = codes "met"
answer_text Dropped = codes "dropped"
answer_text Busy = codes "busy"
answer_text NothingBegun = codes "nothing begun"
answer_text NoPass = codes "no pass"
answer_text (Rest values) = rest_text values
