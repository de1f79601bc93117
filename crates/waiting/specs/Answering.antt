-- What a pass has answered after calls that wait.
use Rattle.std.specs.Prelude.{◌≡◌, ℕ, List, [], ◌∷◌, ◌++◌, replicate, Result, Err}
use Rattle.bounded_model.specs.declared.answers.PutRefused.{PutRefused}
use Rattle.bounded_model.specs.declared.answers.PutRefused.TheVariants.{Full}
use Rattle.bounded_model.specs.declared.answers.TakeRefused.{TakeRefused}
use Rattle.bounded_model.specs.declared.answers.TakeRefused.TheVariants.{Empty}
use Rattle.bounded_model.specs.declared.views.Answered.{Answered}
use Rattle.bounded_model.specs.declared.views.Answered.TheVariants.{Take as TakeAnswered}
use Rattle.bounded_model.specs.declared.views.PassView.{PassView}
use Rattle.bounded_model.specs.Laws.{put_answered}

-- its last call has answered `last`, and each of the tries before it `again`
pub record AnswersLast {T : Type 0} (again last : Answered T) (v w : PassView T) : Type 0 where
  pub tries : ℕ
  pub answers : w.answers ≡ last ∷ replicate tries again ++ v.answers

-- a put that waits: each try before the last found the container full, and handed the value back
abbrev pub PutAnswers : {T : Type 0} → T → Result ℕ (PutRefused T) → PassView T → PassView T → Type 0
PutAnswers x r v w = AnswersLast (put_answered (Err (Full x))) (put_answered r) v w

-- a take that waits: each try before the last found the container empty
abbrev pub TakeAnswers : {T : Type 0} → Result (T × ℕ) TakeRefused → PassView T → PassView T → Type 0
TakeAnswers r v w = AnswersLast (TakeAnswered (Err Empty)) (TakeAnswered r) v w

-- one call after another, for each of these one that answers so
abbrev pub AnswersEach : {A T : Type 0} → (A → PassView T → PassView T → Type 0) → PassView T → List A → PassView T → Type 0
AnswersEach Gives v [] w = v ≡ w
AnswersEach {A} {T} Gives v (x ∷ xs) w = (u : PassView T) × Gives x v u × AnswersEach Gives u xs w
