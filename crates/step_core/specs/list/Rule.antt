-- What holds of the list's machine between any two steps.
use Rattle.std.specs.Prelude.{◌≡◌, ℕ, ◌+◌, ◌≤◌, ltb, if◌then◌else◌, List}
use mathlib.Core.Option.{some}
use lib.ListN.{get_elem?}
use Rattle.machine.specs.Words.{Tagged, times, total, Stands}
use Rattle.machine.specs.OneList.{ReadTop, ReadLink}
use Rattle.step_core.specs.list.Machine.{Memory, At, Line, LoadTopLink, TakeTop, GiveBack}
use Rattle.step_core.specs.list.Law.{holds}

-- what a pass has read
abbrev pub IsFine : ℕ → Tagged → (ℕ → ℕ) → List ℕ → Line → Type 0
IsFine limit top link list (LoadTopLink w) = ReadTop limit top list w
IsFine limit top link list (TakeTop w k) = ReadTop limit top list w × ReadLink top link w k
IsFine limit top link list (GiveBack i w) = link i ≡ w.index
IsFine limit top link list l = Unit {0}

-- the whole machine, if the top and the links stand for this list
pub record Good (n limit : ℕ) (m : Memory) (passes : List At) (list : List ℕ) : Type 0 where
  pub stands : Stands m.link m.top.index list
  pub once : (i : ℕ) → times i list + total (holds i) passes ≡ if ltb i n then 1 else 0
  pub tag : m.top.tag ≤ limit
  pub fine : (p : ℕ) (v : At) → get_elem? passes p ≡ some v → IsFine limit m.top m.link list v.line

-- with some list
pub record Kept (n limit : ℕ) (m : Memory) (passes : List At) : Type 0 where
  pub list : List ℕ
  pub good : Good n limit m passes list
