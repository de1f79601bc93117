use Rattle.std.proofs.Common.{◌≡◌, ◌++◌, length}
use Rattle.player.proofs.stage.values_left.Given as goal

-- the values so far, and those that are still to come
abbrev pub invariant-loop-value : goal.invariant-loop-value
invariant-loop-value g l = l.values ++ g.L.Leaving.left l.rest ≡ g.L.Leaving.left l.initial.rest

abbrev pub decreases-loop-value : goal.decreases-loop-value
decreases-loop-value g l = length (g.L.Leaving.left l.rest)
