-- The messages so far are counted.
use Rattle.std.proofs.Common.{take}
use Rattle.audit.specs.Counting.{CountsEach}
use Rattle.audit.proofs.tallies.count_left.Given as goal

abbrev pub invariant-loop-message : goal.invariant-loop-message
invariant-loop-message l = CountsEach (λ m. m.sender) (take l.message-index l.left) l.first l.counts
