-- What was moved, and what is still there, is what was left.
use Rattle.std.proofs.Common.{◌≡◌, ◌≤◌, ◌++◌, length, vec_items, vec_capacity}
use Rattle.relay.proofs.merge.drain.Given as goal

abbrev pub invariant-loop-message : goal.invariant-loop-message
invariant-loop-message g l =
    record {
      items : vec_items l.left ++ g.L.Leaving.left l.rest ≡ g.L.Leaving.left l.fn.rest;
      room : length (g.L.Leaving.left l.fn.rest) ≤ vec_capacity l.left;
    }

abbrev pub decreases-loop-message : goal.decreases-loop-message
decreases-loop-message g l = length (g.L.Leaving.left l.rest)
