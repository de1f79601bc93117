-- What a message with a note tells.
use Rattle.std.specs.Prelude.{◌≡◌, ℕ, List, Ok}
use Rattle.bounded_model.specs.declared.history.Event.{Event}
use Rattle.bounded_model.specs.declared.views.PassView.{PassView}
use Rattle.bounded_model.specs.Justified.{Answer, Justifies, Sometime}
use Rattle.bounded_model.specs.Laws.{PutGives}
use Rattle.bounded_model.specs.Machine.{Shape}

-- the note tells what a pass has seen that has just put this value
pub record TellsOfPut {T : Type 0} (c : Shape) (v : PassView T) (x : T) (told : List (Event T)) : Type 0 where
  pub after : PassView T
  pub number : ℕ
  pub gives : PutGives c v x after (Ok number)
  pub is : told ≡ after.seen

-- the answer was right at a time at which everything that was told had happened
abbrev pub RightSince : {T : Type 0} → Shape → List (Event T) → PassView T → Answer → Type 0
RightSince c told w answer = Sometime told w.seen (λ h. Justifies c h answer)
