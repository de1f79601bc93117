-- The messages so far are counted.
use Rattle.std.proofs.Common.{take}
use Rattle.audit.specs.Counting.{CountsEach}
use Rattle.audit.proofs.tallies.count_delivered.Given as goal

abbrev pub invariant-loop-taken : goal.invariant-loop-taken
invariant-loop-taken l = CountsEach (λ t. t.message.sender) (take l.taken-index l.delivered) l.first l.counts
