-- Many passes split off, and joined.
use Rattle.std.specs.Prelude.{◌≡◌, ℕ, ◌<◌, List, [], ◌∷◌, length}
use Rattle.bounded_model.specs.declared.views.PassView.{PassView}
use Rattle.bounded_model.specs.declared.views.RootView.{RootView}
use Rattle.bounded_model.specs.Laws.{Splits, Joins, IsFullOfPasses}
use Rattle.bounded_model.specs.Machine.{Shape}
use Rattle.waiting.specs.declared.passes.SplitRefused.{SplitRefused}
use Rattle.waiting.specs.declared.passes.SplitRefused.TheVariants.{NoMemory, NoPass}

-- these passes were split off one after another
abbrev pub SplitsEach : {T : Type 0} → Shape → RootView T → List (PassView T) → RootView T → Type 0
SplitsEach c r [] s = r ≡ s
SplitsEach {T} c r (v ∷ vs) s = (q : RootView T) × Splits c r q v × SplitsEach c q vs s

-- and joined one after another
abbrev pub JoinsEach : {T : Type 0} → RootView T → List (PassView T) → RootView T → Type 0
JoinsEach r [] s = r ≡ s
JoinsEach {T} r (v ∷ vs) s = (q : RootView T) × Joins r v q × JoinsEach q vs s

-- this many passes were split off
pub record SplitsMany {T : Type 0} (c : Shape) (count : ℕ) (r : RootView T) (passes : List (PassView T)) (s : RootView T) : Type 0 where
  pub many : length passes ≡ count
  pub splits : SplitsEach c r passes s

-- fewer were split off until no more could be out, and these were joined again
pub record SplitsFew {T : Type 0} (c : Shape) (count : ℕ) (r s : RootView T) : Type 0 where
  pub passes : List (PassView T)
  pub few : length passes < count
  pub then : RootView T
  pub splits : SplitsEach c r passes then
  pub full : IsFullOfPasses c then
  pub joins : JoinsEach then passes s

abbrev pub SplitsNone : {T : Type 0} → Shape → ℕ → RootView T → RootView T → SplitRefused → Type 0
SplitsNone c count r s NoMemory = s ≡ r
SplitsNone c count r s NoPass = SplitsFew c count r s
