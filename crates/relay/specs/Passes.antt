-- The passes of a relay: given one after another before anything was done, and taken back at the end.
use Rattle.std.specs.Prelude.{◌≡◌, ℕ, ◌+◌, List, [], ◌∷◌}
use Rattle.bounded_model.specs.declared.views.PassView.{PassView}
use Rattle.bounded_model.specs.declared.views.RootView.{RootView}
use Rattle.bounded_model.specs.Laws.{Joins}
use Rattle.relay.specs.declared.messages.Message.{Message}
use Rattle.relay.specs.declared.workers.Job.{Job}

-- a root that has given n passes and has seen nothing
abbrev pub gave : ℕ → RootView Message
gave n = record { seen = []; given = n; account = []; works = [] }

-- the pass of this number, which has done and seen nothing
abbrev pub new_pass : ℕ → PassView Message
new_pass n = record { number = n; seen = []; steps = 0; answers = [] }

-- a job of this place among those of its kind, whose passes begin at this number
pub record IsNewJob {P T : Type 0} (is_pass : P → Type 0) (view : P → PassView Message) (first place : ℕ) (job : Job P T) : Type 0 where
  pub of : is_pass job.pass
  pub pass : view job.pass ≡ new_pass (first + place)
  pub number : job.place ≡ place

-- these passes are joined, one after another
abbrev pub JoinsAll : RootView Message → List (PassView Message) → RootView Message → Type 0
JoinsAll r [] t = t ≡ r
JoinsAll r (v ∷ vs) t = (s : RootView Message) × Joins r v s × JoinsAll s vs t
