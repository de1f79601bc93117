-- A refusal of a pass that has heard a note.
use Rattle.std.specs.Prelude.{ℕ, List, Result, Ok, Err, IfErr}
use Rattle.bounded_model.specs.declared.answers.TakeRefused.{TakeRefused}
use Rattle.bounded_model.specs.declared.history.Event.{Event}
use Rattle.bounded_model.specs.declared.views.PassView.{PassView}
use Rattle.bounded_model.specs.Histories.{Later}
use Rattle.bounded_model.specs.Justified.{take_answer}
use Rattle.bounded_model.specs.Laws.{TakeGives}
use Rattle.bounded_model.specs.Machine.{Shape}
use Rattle.bounded_model.proofs.Histories.{Later-trans}
use Rattle.examples.specs.Told.{RightSince}

pub right_since : {T : Type 0} (c : Shape) (told : List (Event T)) (v w : PassView T) (r : Result (T × ℕ) TakeRefused) → Later told v.seen → TakeGives c v w r → IfErr r (λ why. RightSince c told w (take_answer why))
right_since c told v w (Ok taken) heard gives = tt
right_since c told v w (Err why) heard gives = record { at = gives.1.at; since = Later-trans heard gives.1.since; until = gives.1.until; holds = gives.1.holds }
