use Rattle.std.proofs.Common.{◌≡◌, ◌-◌, drop, length}
use Rattle.stack_table.specs.Lines.{listed}
use Rattle.treiber_stack.proofs.bulk.source.listing.Given as goal

abbrev pub invariant-loop-back : goal.invariant-loop-back
invariant-loop-back g l = listed l.list ≡ drop (length l.values - l.back) l.values
