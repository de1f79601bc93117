use Rattle.std.proofs.Common.{◌≡◌, ◌++◌, drop, string_bytes}
use Rattle.script.specs.Words.{spaced, values_in}
use Rattle.script.proofs.value_list.write_values.Given as goal

-- what was written, and what is still to be written
abbrev pub invariant-loop-place : goal.invariant-loop-place
invariant-loop-place l =
    string_bytes l.output ++ spaced (values_in (drop l.place-index l.places)) ≡ string_bytes l.fn.output ++ spaced (values_in l.places)
