use Rattle.std.proofs.Common.{length}
use Rattle.script.proofs.Splitting.{Progress}
use Rattle.script.proofs.reading.lines_of.Given as goal

-- the lines so far, and the rest of the text
abbrev pub invariant-loop-line : goal.invariant-loop-line
invariant-loop-line l = Progress l.order l.fn.text l.rest l.lines.items

abbrev pub decreases-loop-line : goal.decreases-loop-line
decreases-loop-line l = length l.rest
