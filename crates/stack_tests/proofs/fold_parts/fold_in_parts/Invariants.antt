use Rattle.std.proofs.Common.{List}
use Rattle.treiber_stack.specs.Bulk.{IsFolding}
use Rattle.stack_tests.proofs.fold_parts.fold_in_parts.Given as goal

abbrev pub invariant-loop : goal.invariant-loop
invariant-loop g l = (front : _) × (values : List _) × IsFolding l.fn.stack front values l.fold
