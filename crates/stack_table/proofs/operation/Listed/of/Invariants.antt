use Rattle.std.proofs.Common.{◌≡◌, ◌-◌, drop, length}
use Rattle.bounded_model.specs.Bulk.{somes}
use Rattle.stack_table.specs.Lines.{listed}
use Rattle.stack_table.proofs.operation.Listed.of.Given as goal

abbrev pub invariant-loop-back : goal.invariant-loop-back
invariant-loop-back g l = listed l.list ≡ somes (drop (length l.values - l.back) l.values)
