-- What the calls of a stack cost, and what all its passes have done together.
use Rattle.std.specs.Prelude.{ℕ, ◌+◌, ◌-◌, ◌*◌, ◌≤◌}
use Rattle.std.specs.List.{AllByRecursion as Every}
use Rattle.bounded_model.specs.declared.views.Answered.{Answered}
use Rattle.bounded_model.specs.declared.views.Answered.TheVariants.{Put, Take, Fold, Close, Shut, Look, Len, Gauge, Heard}
use Rattle.bounded_model.specs.declared.views.RootView.{RootView}
use Rattle.machine.specs.Seats.{Acts}
use Rattle.running.specs.Acts.{Doing, Begins, Steps, Looks, Hears}
use Rattle.stack_machine.specs.declared.lines.Line.{Line}
use Rattle.step_core.specs.stack.Costs.{cost, IsSingleCall}
use Rattle.runs.specs.Work.{total_steps, total_answers, total_fees, in_all, pays, is_look}
use Rattle.runs.specs.stack.Bounded.{call_at}

module _ {T : Type 0} where
  -- What a call of a stack of n nodes that gave this answer has cost at most, if k other passes were in a call meanwhile. A stack has no
  -- counts. A put may be one of any number of values. A meeting or a note heard is one load
  abbrev pub fee : ℕ → ℕ → Answered T → ℕ
  fee n k (Put r) = 4 * n + 4 + (3 * n + 4) * k
  fee n k (Take r) = 6 + 7 * k
  fee n k (Fold r) = 3 * n + 5 + 7 * k
  fee n k (Close b) = 2 + 4 * k
  fee n k (Shut b) = 2 + 4 * k
  fee n k (Look b) = 1
  fee n k (Len m) = 0
  fee n k (Gauge closed used) = 1
  fee n k Heard = 1

  -- the fee if each put and each take is of one value
  abbrev pub single_fee : ℕ → Answered T → ℕ
  single_fee k (Put r) = 7 + 7 * k
  single_fee k (Take r) = 6 + 7 * k
  single_fee k (Fold r) = 0
  single_fee k (Close b) = 2 + 4 * k
  single_fee k (Shut b) = 2 + 4 * k
  single_fee k (Look b) = 1
  single_fee k (Len m) = 0
  single_fee k (Gauge closed used) = 1
  single_fee k Heard = 1

  abbrev pub BeginsSingle : Doing (Line T) → Type 0
  BeginsSingle (Begins first) = IsSingleCall (call_at first)
  BeginsSingle Steps = Unit {0}
  BeginsSingle Looks = Unit {0}
  BeginsSingle Hears = Unit {0}

  -- the number of passes but one
  abbrev pub others_of : RootView T → ℕ
  others_of r = r.given - 1

  -- Bounds on the number of steps that the joined passes of a stack of n nodes have made together. The last two hold if each put and each
  -- take is of one value. Each bound adds 1 for each load that reads a refused range back:
  -- - the sum of what the calls cost that these acts begin, with one load for each meeting and each note heard;
  -- - the sum of the fees of all answers;
  -- - 4 * n + 4 + (3 * n + 4) * others for each answer;
  -- - the sum of the single fees of all answers;
  -- - 7 + 7 * others for each answer
  pub record TotalWork (n : ℕ) (r : RootView T) (acts : Acts (Line T)) : Type 0 where
    pub prices : total_steps r.works ≤ in_all (pays (λ l. cost n (others_of r) (call_at l))) acts
    pub fees : total_steps r.works ≤ total_fees (fee n (others_of r)) r.works + in_all is_look acts
    pub answers : total_steps r.works ≤ (4 * n + 4 + (3 * n + 4) * others_of r) * total_answers r.works + in_all is_look acts
    pub singles : Every (λ a. BeginsSingle a.1) acts → total_steps r.works ≤ total_fees (single_fee (others_of r)) r.works + in_all is_look acts
    pub single_answers : Every (λ a. BeginsSingle a.1) acts → total_steps r.works ≤ (7 + 7 * others_of r) * total_answers r.works + in_all is_look acts
