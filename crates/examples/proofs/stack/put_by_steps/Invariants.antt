use Rattle.treiber_stack.specs.Calls.{IsPutting}
use Rattle.examples.proofs.stack.put_by_steps.Given as goal

abbrev pub invariant-loop-count : goal.invariant-loop-count
invariant-loop-count l = IsPutting l.fn.stack l.fn.value l.op
