-- A source for each name so far, and what is left of the standard input.
use Rattle.std.proofs.Common.{◌≡◌, ◌+◌, length, map, take, count_by, string_bytes}
use Rattle.std.specs.List.{AllZip}
use Rattle.lockfree_tool.specs.Sources.{IsSourceOf, given, is_input}
use Rattle.lockfree_tool.proofs.opening.open_sources.Given as goal

abbrev pub invariant-loop-place : goal.invariant-loop-place
invariant-loop-place g l = record {
  long : length l.opened.items ≡ l.place;
  each : AllZip (IsSourceOf (g.F.OpenFiles.is_file l.files)) (map string_bytes (take l.place l.names)) l.opened.items;
  once : count_by is_input l.opened.items + given l.input ≡ given l.fn.input;
}
