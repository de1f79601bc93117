use Rattle.std.proofs.Common.{◌≡◌, ◌≤◌, ◌+◌, ◌++◌, length, vec_len}
use Rattle.std.specs.Prelude.{vec_capacity}
use Rattle.std.specs.Vec.Iter.{into_iter_items, into_iter_len}
use Rattle.bounded_model.specs.Plain.{plain_replies, list_after_all}
use Rattle.bounded_model.proofs.plain_list.PlainList.run.Given as goal

abbrev pub invariant-loop-command : goal.invariant-loop-command
invariant-loop-command g l =
    record {
      can : (goal.iterator-loop-command g).can_next l.command-iterator;
      finite : (goal.iterator-loop-command g).is_finite l.command-iterator;
      replies : l.replies.items ++ plain_replies l.self (into_iter_items l.command-iterator) ≡ plain_replies l.initial.self l.fn.commands.items;
      list : list_after_all l.self (into_iter_items l.command-iterator) ≡ list_after_all l.initial.self l.fn.commands.items;
      long : into_iter_len l.command-iterator ≡ length (into_iter_items l.command-iterator);
      room : vec_len l.replies + length (into_iter_items l.command-iterator) ≤ vec_capacity l.replies;
    }
