use Rattle.std.proofs.Common.{◌≡◌, length}
use Rattle.std.specs.List.{list_all}
use Rattle.std.specs.Str.{IsUtf8}
use Rattle.script.specs.Words.{is_value, words}
use Rattle.script.proofs.value.are_values.Given as goal

-- the words before the rest spell values
abbrev pub invariant-loop-word : goal.invariant-loop-word
invariant-loop-word l = record {
  told : list_all is_value (words l.fn.text) ≡ list_all is_value (words l.rest);
  text : IsUtf8 l.rest;
}

abbrev pub decreases-loop-word : goal.decreases-loop-word
decreases-loop-word l = length l.rest
