use Rattle.std.proofs.Common.{All}
use Rattle.treiber_stack.specs.Calls.{IsPassOf, IsRootOf}
use Rattle.examples.proofs.buffers.passes.Given as goal

abbrev pub invariant-loop : goal.invariant-loop
invariant-loop l = IsRootOf l.fn.pool l.root × All (IsPassOf l.fn.pool) l.all.items
