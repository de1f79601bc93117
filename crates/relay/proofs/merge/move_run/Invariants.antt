-- What was moved falls, and the list is still above the others.
use Rattle.std.proofs.Common.{◌≡◌, ◌≤◌, ◌+◌, ◌++◌, ◌∷◌, [], List, vec_len, vec_items, vec_capacity}
use Rattle.relay.specs.declared.outcome.Taken.{Taken}
use Rattle.relay.specs.Merge.{IsUp, IsAbove, Merging}
use Rattle.relay.proofs.merge.move_run.Given as goal

abbrev pub invariant-loop-taken : goal.invariant-loop-taken
invariant-loop-taken l =
    record {
      up : IsUp l.rest;
      above : IsAbove l.rest l.others;
      few : vec_len l.rest ≤ vec_len l.fn.list;
      room : vec_len l.all + vec_len l.rest ≡ vec_len l.fn.moved + vec_len l.fn.list;
      capacity : vec_capacity l.all ≡ vec_capacity l.fn.moved;
      merging : (start : List Taken) → Merging start (vec_items l.fn.moved) (l.others ++ l.fn.list ∷ []) → Merging start (vec_items l.all) (l.others ++ l.rest ∷ []);
    }

abbrev pub decreases-loop-taken : goal.decreases-loop-taken
decreases-loop-taken l = vec_len l.rest
