use Rattle.told.proofs.Sending.{Sent}
use Rattle.told.proofs.writing.tell.Given as goal

-- what went out so far
abbrev pub invariant-loop : goal.invariant-loop
invariant-loop g l = Sent (g.W.Write.contents l.fn.writer) (g.W.Write.contents l.writer) l.bytes l.rest
