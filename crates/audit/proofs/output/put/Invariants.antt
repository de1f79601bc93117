-- What is gone from `rest` went out. A write takes some of it, or is interrupted once more.
use Rattle.std.proofs.Common.{◌≡◌, ℕ, ◌+◌, ◌-◌, List, ◌++◌, length}
use Rattle.audit.specs.declared.output.TheConstants.{MAX_INTERRUPTIONS}
use Rattle.audit.specs.Output.{Sends, sent}
use Rattle.audit.proofs.output.put.Given as goal

abbrev pub invariant-loop-rest : goal.invariant-loop-rest
invariant-loop-rest g l = (out : List ℕ) × (l.initial.rest ≡ out ++ l.rest)
    × Sends out (sent (g.W.Write.contents l.initial.writer) l.initial.progress.written) (sent (g.W.Write.contents l.writer) l.progress.written)

abbrev pub decreases-loop-rest : goal.decreases-loop-rest
decreases-loop-rest g l = length l.rest + (MAX_INTERRUPTIONS - l.progress.interrupted)
