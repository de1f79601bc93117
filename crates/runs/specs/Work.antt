-- What all passes of a container have done together, by the acts that led to its table: steps, and what their calls cost.
use Rattle.std.specs.Prelude.{ℕ, ◌+◌, ◌*◌, ◌≤◌, List, length}
use Rattle.bounded_model.specs.declared.views.Answered.{Answered}
use Rattle.bounded_model.specs.declared.views.Work.{Work}
use Rattle.machine.specs.Seats.{Acts}
use Rattle.machine.specs.Words.{total}
use Rattle.running.specs.Acts.{Doing, Begins, Steps, Looks, Hears}

-- how many loads, stores and exchanges the joined passes have made, and how often their calls have answered, with each meeting and each note heard
abbrev pub total_steps : {T : Type 0} → List (Work T) → ℕ
total_steps works = total (λ w. w.steps) works

abbrev pub total_answers : {T : Type 0} → List (Work T) → ℕ
total_answers works = total (λ w. length w.answers) works

-- what these answers cost, each by what it is
abbrev pub total_fees : {T : Type 0} → (Answered T → ℕ) → List (Work T) → ℕ
total_fees fee works = total (λ w. total fee w.answers) works

module _ {L : Type 0} where
  abbrev pub is_look : Doing L → ℕ
  is_look (Begins first) = 0
  is_look Steps = 0
  is_look Looks = 1
  is_look Hears = 0

  abbrev pub is_hear : Doing L → ℕ
  is_hear (Begins first) = 0
  is_hear Steps = 0
  is_hear Looks = 0
  is_hear Hears = 1

  -- the sum over the acts of all passes
  abbrev pub in_all : (Doing L → ℕ) → Acts L → ℕ
  in_all f acts = total (λ a. f a.1) acts

  -- What an act pays for: a begin what its call costs, and a step of the call nothing more. A load that belongs to no line is one step, and so is
  -- that of a meeting or of a note heard
  abbrev pub pays : (L → ℕ) → Doing L → ℕ
  pays price (Begins first) = price first
  pays price Steps = 0
  pays price Looks = 1
  pays price Hears = 1

-- If a call that begins at a line has its price, and each answer its fee: the joined passes have made at most the number of steps that
-- these acts pay for. Their steps are also at most the fees of what the passes have answered, which are `most` for each answer. Loads that
-- belong to no line are counted beside
pub record IsPaid {T L : Type 0} (acts : Acts L) (works : List (Work T)) (price : L → ℕ) (fee : Answered T → ℕ) (most : ℕ) : Type 0 where
  pub prices : total_steps works ≤ in_all (pays price) acts
  pub fees : total_steps works ≤ total_fees fee works + in_all is_look acts
  pub answers : total_steps works ≤ most * total_answers works + in_all is_look acts
