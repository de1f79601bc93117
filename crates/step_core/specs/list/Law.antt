-- What the list's machine keeps in every schedule.
use Rattle.std.specs.Prelude.{◌≡◌, ℕ, ◌+◌, ◌≤◌, ltb, if◌then◌else◌, List, [], ◌∷◌}
use Rattle.machine.specs.Words.{times, total, Stands}
use Rattle.step_core.specs.list.Machine.{Line, LoadTopToGive, LinkToTop, GiveBack, At, State}

-- the index that a line is giving back
abbrev pub giving : Line → List ℕ
giving (LoadTopToGive i) = i ∷ []
giving (LinkToTop i w) = i ∷ []
giving (GiveBack i w) = i ∷ []
giving l = []

-- how often a pass holds i
abbrev pub holds : ℕ → At → ℕ
holds i at = times i (giving at.line) + times i at.hand

-- The top and the links stand for a list. Each index below n is once in the list or in one hand, and no other index is
-- anywhere. So the list's indexes are distinct, the hands share none with it or with one another, and together they are
-- all the indexes below n
pub record Lawful (n limit : ℕ) (s : State) : Type 0 where
  pub list : List ℕ
  pub stands : Stands s.memory.link s.memory.top.index list
  pub once : (i : ℕ) → times i list + total (λ v. holds i v.line) s.passes ≡ if ltb i n then 1 else 0
  pub tag : s.memory.top.tag ≤ limit
