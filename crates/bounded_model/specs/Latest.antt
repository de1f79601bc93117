-- The latest put that has not been taken.
use Rattle.std.specs.Prelude.{◌≡◌, ℕ, ◌+◌, ◌≤◌, List, ◌∷◌, ◌++◌, length}
use Rattle.bounded_model.specs.declared.history.Event.{Event}
use Rattle.bounded_model.specs.declared.history.Event.TheVariants.{Put}
use Rattle.bounded_model.specs.Gathers.{gather, put_of, took_of}

-- Value v was put, and of the values that were put after it, in the same put or since, all have been taken but
-- the `left` ones that the take that takes v takes before it: since v was put, so many have been taken, and
-- at no time more than were put
pub record IsLatest {T : Type 0} (v : T) (left : ℕ) (h : List (Event T)) : Type 0 where
  pub since : List (Event T)
  pub by : ℕ
  pub below : List T
  pub above : List T
  pub number : ℕ
  pub before : List (Event T)
  pub was_put : h ≡ since ++ Put by (below ++ v ∷ above) number ∷ before
  pub all_taken : length (gather took_of since) + left ≡ length above + length (gather put_of since)
  pub never_more : (more less : List (Event T)) → since ≡ more ++ less → length (gather took_of less) ≤ length above + length (gather put_of less)
