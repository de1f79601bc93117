-- None so far has met the close.
use Rattle.std.proofs.Common.{All, true, take}
use Rattle.relay.specs.Parts.{MayUse}
use Rattle.relay.proofs.threads.some_met_closed.Given as goal

abbrev pub invariant-loop-one : goal.invariant-loop-one
invariant-loop-one g l = All (MayUse true) (take l.one-index l.sent)
