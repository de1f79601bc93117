use Rattle.treiber_stack.specs.Calls.{IsPassOf}
use Rattle.examples.proofs.buffers.fill.Given as goal

abbrev pub invariant-loop : goal.invariant-loop
invariant-loop g l = IsPassOf l.fn.pool l.pass
