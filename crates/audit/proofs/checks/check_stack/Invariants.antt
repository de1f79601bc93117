-- The numbers up to here rise.
use Rattle.std.proofs.Common.{ℕ, ◌+◌, ◌<◌}
use Rattle.std.specs.List.{slice_index}
use Rattle.audit.proofs.checks.check_stack.Given as goal

abbrev pub invariant-loop-place : goal.invariant-loop-place
invariant-loop-place l = (k : ℕ) → k + 1 < l.place → slice_index l.numbers k < slice_index l.numbers (k + 1)
