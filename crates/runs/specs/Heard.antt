-- The invocations and responses of the passes of a running container, read off the acts that led to its table, and when they
-- are linearizable (Herlihy and Wing 1990).
use Rattle.std.specs.Prelude.{◌≡◌, ℕ, if◌then◌else◌, List, [], ◌∷◌, ◌++◌}
use mathlib.Core.Option.{Option}
use Rattle.machine.specs.Seats.{Acts}
use Rattle.running.specs.Machine.{Names, Core}
use Rattle.running.specs.Acts.{Doing, Begins, Steps, Looks, Hears, Now, played}
use Rattle.step_core.specs.Linearizable.{Object, Entry, Invokes, Responds, IsLinearization, without_points, events}

-- `call_at` says which call begins at a line, and `answer` what a pass has answered at one, if anything
module _ {T L O C A : Type 0} (names : Names L O) (c : Core T L O) (call_at : L → C) (answer : L → Option A) where
  -- An operation is invoked as it is begun, and responds with the step that leaves its pass idle
  abbrev pub heard_at : Now names c → ℕ → Doing L → List (Entry T C A)
  heard_at s p (Begins first) = if names.is_idle (s.line p) then Invokes p (call_at first) ∷ [] else []
  heard_at s p Steps =
      if names.is_idle (s.line p) then []
      else if names.is_idle (c.lands s.memory p (s.line p)) then Responds p (answer (c.lands s.memory p (s.line p))) ∷ []
      else []
  heard_at s p Looks = []
  heard_at s p Hears = []

  -- all of them, the newest first
  abbrev pub heard : Acts L → List (Entry T C A)
  heard [] = []
  heard (a ∷ older) = heard_at (played names c older) a.0 a.1 ++ heard older

  -- The acts are linearizable: linearization points can be put among their invocations and responses, so that it is a linearization
  -- for the object, whose events are those that the acts have made
  pub record IsLinearizable (o : Object T C A) (acts : Acts L) : Type 0 where
    pub course : List (Entry T C A)
    pub same_calls : without_points course ≡ heard acts
    pub right : IsLinearization o course
    pub same_history : events course ≡ (played names c acts).history
