-- What was moved falls, and nothing that is still to come is above it.
use Rattle.std.proofs.Common.{◌<◌, ◌≤◌, ◌+◌, All, length, vec_len, vec_items, vec_capacity}
use Rattle.relay.specs.Merge.{all_of, IsUp, Merging}
use Rattle.relay.proofs.merge.merge_many.Given as goal

abbrev pub invariant-loop-list : goal.invariant-loop-list
invariant-loop-list l =
    record {
      some : 0 < vec_len l.lists;
      up : All IsUp (vec_items l.lists);
      merging : Merging (all_of l.fn.lists.items) (vec_items l.all) (vec_items l.lists);
      room : vec_len l.all + length (all_of (vec_items l.lists)) ≤ vec_capacity l.all;
    }

abbrev pub decreases-loop-list : goal.decreases-loop-list
decreases-loop-list l = length (all_of (vec_items l.lists))
