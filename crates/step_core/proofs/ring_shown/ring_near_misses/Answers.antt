use Rattle.std.proofs.Common.{refl}
use Rattle.step_core.proofs.ring.Mistakes.{cell_held_twice-unlawful, cell_held_by_two, wins_held_cell, number_again-unlawful, put_late-unlawful, taken_early-unlawful, slot_left_out-unlawful, closed_full-unlawful, put_after_close-unlawful, take_after_shut-unlawful, open_again-unlawful, unshut_again-unlawful, above_limit-unlawful, not_full-unlawful}
use Rattle.step_core.proofs.ring.WrongAnswers.{put_another-unlawful, handed_back-unlawful, closed_instead-unlawful, counted_two-unlawful}
use Rattle.step_core.proofs.ring.WrongRuns.{lost_take-unanswered, lost_take-not_linearizable, stale_take-unlawful, stale_take-not_linearizable, starving-not_lock_free, starving-not_unhindered}
use Rattle.step_core.proofs.ring.WrongHands.{resting_hand-refused, full_of_resting_hands-refused, second_cell-refused, full_of_its_own-refused, full_of_another_call-refused, spent_too_early-refused}
use Rattle.step_core.proofs.ring_shown.ring_near_misses.Goals as goal

pub returns : goal.returns
returns c = record {
  cell_in_two_hands = refl;
  cell_held_twice_unlawful = cell_held_twice-unlawful;
  cell_held_by_two = cell_held_by_two;
  wins_held_cell = wins_held_cell;
  number_again_unlawful = number_again-unlawful;
  put_late_unlawful = put_late-unlawful;
  taken_early_unlawful = taken_early-unlawful;
  slot_left_out_unlawful = slot_left_out-unlawful;
  closed_full_unlawful = closed_full-unlawful;
  put_after_close_unlawful = put_after_close-unlawful;
  take_after_shut_unlawful = take_after_shut-unlawful;
  open_again_unlawful = open_again-unlawful;
  unshut_again_unlawful = unshut_again-unlawful;
  above_limit_unlawful = above_limit-unlawful;
  not_full_unlawful = not_full-unlawful;
  counted_two_unlawful = counted_two-unlawful;
  put_another_unlawful = put_another-unlawful;
  handed_back_unlawful = handed_back-unlawful;
  closed_instead_unlawful = closed_instead-unlawful;
  lost_take_unanswered = lost_take-unanswered;
  lost_take_not_linearizable = lost_take-not_linearizable;
  stale_take_unlawful = stale_take-unlawful;
  stale_take_not_linearizable = stale_take-not_linearizable;
  resting_hand_refused = resting_hand-refused;
  full_of_resting_hands_refused = full_of_resting_hands-refused;
  second_cell_refused = second_cell-refused;
  full_of_its_own_refused = full_of_its_own-refused;
  full_of_another_call_refused = full_of_another_call-refused;
  spent_too_early_refused = spent_too_early-refused;
  starving_not_lock_free = starving-not_lock_free;
  starving_not_unhindered = starving-not_unhindered;
}
