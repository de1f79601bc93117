-- What the calls of a ring cost, and what all its passes have done together.
use Rattle.std.specs.Prelude.{ℕ, ◌+◌, ◌-◌, ◌*◌, ◌≤◌}
use Rattle.bounded_model.specs.declared.views.Answered.{Answered}
use Rattle.bounded_model.specs.declared.views.Answered.TheVariants.{Put, Take, Fold, Close, Shut, Look, Len, Gauge, Heard}
use Rattle.bounded_model.specs.declared.views.RootView.{RootView}
use Rattle.machine.specs.Seats.{Acts}
use Rattle.step_core.specs.ring.Costs.{cost}
use Rattle.ring_table.specs.declared.line.SeatLine.{SeatLine}
use Rattle.runs.specs.Work.{total_steps, total_answers, total_fees, in_all, pays}
use Rattle.runs.specs.ring.Bounded.{call_in}

module _ {T : Type 0} where
  -- what a call with this answer has cost at most, if k other passes were in a call meanwhile. A ring has no folds. A meeting or a note
  -- heard is one load
  abbrev pub fee : ℕ → Answered T → ℕ
  fee k (Put r) = 10 + 24 * k
  fee k (Take r) = 11 + 23 * k
  fee k (Fold r) = 0
  fee k (Close b) = 9 + 14 * k
  fee k (Shut b) = 9 + 14 * k
  fee k (Look b) = 8
  fee k (Len n) = 17
  fee k (Gauge closed used) = 8
  fee k Heard = 1

  -- A ring for `passes` passes at once. The joined passes together have made no more steps than the calls cost that these acts begin,
  -- with a load for each meeting and each note heard. Nor have they made more than the fees of all answers, or 17 + 24 * (passes - 1) for
  -- each answer
  pub record TotalWork (passes : ℕ) (r : RootView T) (acts : Acts (SeatLine T)) : Type 0 where
    pub prices : total_steps r.works ≤ in_all (pays (λ l. cost (passes - 1) (call_in l))) acts
    pub fees : total_steps r.works ≤ total_fees (fee (passes - 1)) r.works
    pub answers : total_steps r.works ≤ (17 + 24 * (passes - 1)) * total_answers r.works
