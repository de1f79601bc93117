-- What a fold collects, and what it tells of it.
use Rattle.std.specs.Prelude.{◌≡◌, ℕ, List, [], ◌∷◌, ◌++◌, Result, Ok, Err}
use Rattle.bounded_model.specs.declared.answers.TakeRefused.{TakeRefused}
use Rattle.bounded_model.specs.declared.bulk.Folded.{Folded}

-- a fold's number with the values that it gave
abbrev pub numbered : List (List ℕ) → Result Folded TakeRefused → Result (ℕ × List (List ℕ)) TakeRefused
numbered values (Ok folded) = Ok (folded.number, values)
numbered values (Err refused) = Err refused

-- one value more, at the end, unless there was no memory for one of them
abbrev pub AddsOne : {E : Type 0} → Result (List (List ℕ)) E → List ℕ → Result (List (List ℕ)) E → Type 0
AddsOne (Ok values) value (Ok more) = more ≡ values ++ value ∷ []
AddsOne (Err why) value (Ok more) = ⊥
AddsOne values value (Err why) = Unit {0}
