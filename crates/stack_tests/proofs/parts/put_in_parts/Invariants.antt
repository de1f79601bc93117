use Rattle.std.proofs.Common.{List}
use Rattle.treiber_stack.specs.Bulk.{IsRanging}
use Rattle.stack_tests.proofs.parts.put_in_parts.Given as goal

abbrev pub invariant-loop-before : goal.invariant-loop-before
invariant-loop-before g l = (vs : List _) × IsRanging l.fn.stack vs l.values l.range
