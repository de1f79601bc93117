use Rattle.std.proofs.Common.{refl}
use Rattle.step_core.proofs.queue.Mistakes.{cell_held_twice-unlawful, cell_held_by_two, wins_held_cell, node_held_twice-unlawful, node_held_by_two, wins_held_node, number_again-unlawful, linked_late-unlawful, dummy_free-unlawful, left_there-unlawful, overtaken-unlawful, put_after_close-unlawful, take_after_shut-unlawful, wrong_cell-unlawful, no_node-unlawful, linked_aside-unlawful}
use Rattle.step_core.proofs.queue.WrongAnswers.{put_another-unlawful, handed_back-unlawful, kept_cell-unlawful, closed_instead-unlawful}
use Rattle.step_core.proofs.queue.WrongRuns.{lost_take-unanswered, lost_take-not_linearizable, stale_take-unlawful, stale_take-not_linearizable, full_of_hands-not_plain, starving-not_lock_free, starving-not_unhindered}
use Rattle.step_core.proofs.queue.WrongHands.{resting_hand-refused, full_of_resting_hands-refused, second_cell-refused, full_of_its_own-refused, kept_cell-not_linearizable}
use Rattle.step_core.proofs.queue_shown.queue_near_misses.Goals as goal

pub returns : goal.returns
returns c = record {
  cell_in_two_hands = refl;
  cell_held_twice_unlawful = cell_held_twice-unlawful;
  cell_held_by_two = cell_held_by_two;
  wins_held_cell = wins_held_cell;
  node_in_two_hands = refl;
  node_held_twice_unlawful = node_held_twice-unlawful;
  node_held_by_two = node_held_by_two;
  wins_held_node = wins_held_node;
  number_again_unlawful = number_again-unlawful;
  linked_late_unlawful = linked_late-unlawful;
  dummy_free_unlawful = dummy_free-unlawful;
  left_there_unlawful = left_there-unlawful;
  overtaken_unlawful = overtaken-unlawful;
  put_after_close_unlawful = put_after_close-unlawful;
  take_after_shut_unlawful = take_after_shut-unlawful;
  other_cell_in_two_hands = refl;
  wrong_cell_unlawful = wrong_cell-unlawful;
  no_node_unlawful = no_node-unlawful;
  linked_aside_unlawful = linked_aside-unlawful;
  put_another_unlawful = put_another-unlawful;
  handed_back_unlawful = handed_back-unlawful;
  kept_cell_unlawful = kept_cell-unlawful;
  closed_instead_unlawful = closed_instead-unlawful;
  lost_take_unanswered = lost_take-unanswered;
  lost_take_not_linearizable = lost_take-not_linearizable;
  stale_take_unlawful = stale_take-unlawful;
  stale_take_not_linearizable = stale_take-not_linearizable;
  full_of_hands_not_plain = full_of_hands-not_plain;
  resting_hand_refused = resting_hand-refused;
  full_of_resting_hands_refused = full_of_resting_hands-refused;
  second_cell_refused = second_cell-refused;
  full_of_its_own_refused = full_of_its_own-refused;
  kept_cell_not_linearizable = kept_cell-not_linearizable;
  starving_not_lock_free = starving-not_lock_free;
  starving_not_unhindered = starving-not_unhindered;
}
