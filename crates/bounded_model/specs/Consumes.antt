-- Takes one after another that hand their values to a function.
use Rattle.std.specs.Prelude.{◌≡◌, ℕ, List, [], ◌∷◌, map, Ok, Err}
use Rattle.bounded_model.specs.declared.answers.TakeRefused.{TakeRefused}
use Rattle.bounded_model.specs.declared.views.PassView.{PassView}
use Rattle.bounded_model.specs.Machine.{Shape}
use Rattle.bounded_model.specs.Laws.{Call, TakeGives}

-- these values, each with its number, were taken one after another
abbrev pub TakesEach : {T : Type 0} → Shape → PassView T → List (T × ℕ) → PassView T → Type 0
TakesEach c v [] w = v ≡ w
TakesEach {T} c v (x ∷ xs) w = (u : PassView T) × TakeGives c v u (Ok x) × TakesEach c u xs w

-- f made t of s and these values, one after another; `Gives s x t` says that f may answer t on s
-- and x
abbrev pub Folds : {T S : Type 0} → (S → T → S → Type 0) → S → List T → S → Type 0
Folds Gives s [] t = s ≡ t
Folds {T} {S} Gives s (x ∷ xs) t = (r : S) × Gives s x r × Folds Gives r xs t

-- some values were taken one after another until a take was refused, and the fold did with them, in
-- the order of taking, what `folds` says
pub record ConsumesAll {T : Type 0} (call : Call T) (folds : List T → Type 0) (why : TakeRefused) : Type 0 where
  pub taken : List (T × ℕ)
  pub last : PassView T
  pub takes : TakesEach call.shape call.from taken last
  pub folded : folds (map (λ x. x.0) taken)
  pub refused : TakeGives call.shape last call.to (Err why)
