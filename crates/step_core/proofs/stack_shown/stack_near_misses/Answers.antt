use Rattle.std.proofs.Common.{refl}
use Rattle.step_core.proofs.stack.Mistakes.{node_held_twice-unlawful, node_held_by_two, wins_held_node, number_again-unlawful, cut_off-unlawful, forgotten-unlawful, left_there-unlawful, put_after_close-unlawful, take_after_shut-unlawful}
use Rattle.step_core.proofs.stack.WrongAnswers.{put_only_the_first-unlawful, shut_as_a_close-unlawful, fold_as_a_take-unlawful, fold_without_a_turn-unlawful, value_between-unlawful}
use Rattle.step_core.proofs.stack.WrongRuns.{lost_take-unanswered, lost_take-not_linearizable, stale_take-unlawful, stale_take-not_linearizable, full_of_hands-not_plain, starving-not_lock_free, starving-not_unhindered}
use Rattle.step_core.proofs.stack.WrongHands.{resting_hand-refused, full_of_resting_hands-refused, second_cell-refused, full_of_its_own-refused}
use Rattle.step_core.proofs.stack_shown.stack_near_misses.Goals as goal

pub returns : goal.returns
returns c = record {
  node_in_two_hands = refl;
  node_held_twice_unlawful = node_held_twice-unlawful;
  node_held_by_two = node_held_by_two;
  wins_held_node = wins_held_node;
  number_again_unlawful = number_again-unlawful;
  cut_off_unlawful = cut_off-unlawful;
  forgotten_unlawful = forgotten-unlawful;
  left_there_unlawful = left_there-unlawful;
  put_after_close_unlawful = put_after_close-unlawful;
  take_after_shut_unlawful = take_after_shut-unlawful;
  put_only_the_first_unlawful = put_only_the_first-unlawful;
  shut_as_a_close_unlawful = shut_as_a_close-unlawful;
  fold_as_a_take_unlawful = fold_as_a_take-unlawful;
  fold_without_a_turn_unlawful = fold_without_a_turn-unlawful;
  value_between_unlawful = value_between-unlawful;
  lost_take_unanswered = lost_take-unanswered;
  lost_take_not_linearizable = lost_take-not_linearizable;
  stale_take_unlawful = stale_take-unlawful;
  stale_take_not_linearizable = stale_take-not_linearizable;
  full_of_hands_not_plain = full_of_hands-not_plain;
  resting_hand_refused = resting_hand-refused;
  full_of_resting_hands_refused = full_of_resting_hands-refused;
  second_cell_refused = second_cell-refused;
  full_of_its_own_refused = full_of_its_own-refused;
  starving_not_lock_free = starving-not_lock_free;
  starving_not_unhindered = starving-not_unhindered;
}
