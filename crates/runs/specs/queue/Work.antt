-- What the calls of a queue cost, and what all its passes have done together.
use Rattle.std.specs.Prelude.{ℕ, ◌+◌, ◌-◌, ◌*◌, ◌≤◌}
use Rattle.bounded_model.specs.declared.views.Answered.{Answered}
use Rattle.bounded_model.specs.declared.views.Answered.TheVariants.{Put, Take, Fold, Close, Shut, Look, Len, Gauge, Heard}
use Rattle.bounded_model.specs.declared.views.RootView.{RootView}
use Rattle.machine.specs.Seats.{Acts}
use Rattle.queue_machine.specs.declared.lines.Line.{Line}
use Rattle.step_core.specs.queue.Costs.{cost}
use Rattle.runs.specs.Work.{total_steps, total_answers, total_fees, in_all, pays}
use Rattle.runs.specs.queue.Bounded.{call_at}

module _ {T : Type 0} where
  -- What a call that gave this answer has cost at most, if k other passes were in a call meanwhile. A queue has no folds. A meeting or a
  -- note heard is one load
  abbrev pub fee : ℕ → Answered T → ℕ
  fee k (Put r) = 18 + 14 * k
  fee k (Take r) = 17 + 12 * k
  fee k (Fold r) = 0
  fee k (Close b) = 8 + 8 * k
  fee k (Shut b) = 2 + 6 * k
  fee k (Look b) = 3
  fee k (Len n) = 4
  fee k (Gauge closed used) = 8
  fee k Heard = 1

  -- the number of passes but one
  abbrev pub others_of : RootView T → ℕ
  others_of r = r.given - 1

  -- Three bounds on the number of steps that the joined passes have made together:
  -- - the sum of what the calls cost that these acts begin, with one load for each meeting and each note heard;
  -- - the sum of the fees of all answers;
  -- - 18 + 14 * others for each answer
  pub record TotalWork (r : RootView T) (acts : Acts (Line T)) : Type 0 where
    pub prices : total_steps r.works ≤ in_all (pays (λ l. cost (others_of r) (call_at l))) acts
    pub fees : total_steps r.works ≤ total_fees (fee (others_of r)) r.works
    pub answers : total_steps r.works ≤ (18 + 14 * others_of r) * total_answers r.works
