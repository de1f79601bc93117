-- The values of a range, and those that a fold collects.
use Rattle.std.proofs.Common.{◌≡◌, ℕ, List, [], ◌∷◌, ◌++◌, map, Some, Bool, Result, Ok, Err, refl, sym, ap, ◌∙◌, append_assoc}
use Rattle.std.proofs.lemmas.List.{append-nil}
use Rattle.std.specs.Prelude.{IsSome}
use Rattle.std.specs.List.{AllByRecursion}
use Rattle.bounded_model.specs.Bulk.{FoldsAll}
use Rattle.bounded_model.specs.Consumes.{Folds}
use Rattle.bounded_model.specs.Machine.{Shape}
use Rattle.bounded_model.specs.declared.answers.TakeRefused.{TakeRefused}
use Rattle.bounded_model.specs.declared.bulk.Folded.{Folded}
use Rattle.bounded_model.specs.declared.views.PassView.{PassView}
use Rattle.player.specs.Plays.{FoldTold, in_direction}
use Rattle.player.specs.Folds.{AddsOne, numbered}

pub all_some : (values : List (List ℕ)) → AllByRecursion (λ place. IsSome place) (map (λ value. Some value) values)
all_some [] = tt
all_some (value ∷ values) = (refl, all_some values)

ok_value : {A E : Type 0} → A → Result A E → A
ok_value other (Ok value) = value
ok_value other (Err why) = other

-- what a fold adds to, one value after another, is no longer there where memory was wanting
adds_none : {E : Type 0} (values last : List (List ℕ)) (why : E) (Adds : Result (List (List ℕ)) E → List ℕ → Result (List (List ℕ)) E → Type 0) → ((s : Result (List (List ℕ)) E) (x : List ℕ) (t : Result (List (List ℕ)) E) → Adds s x t → AddsOne s x t) → Folds Adds (Err why) values (Ok last) → ⊥
adds_none [] last why Adds adds folds = absurd cc
adds_none (x ∷ values) last why Adds adds (Ok between, one, more) = adds (Err why) x (Ok between) one
adds_none (x ∷ values) last why Adds adds (Err still, one, more) = adds_none values last still Adds adds more

adds_all : {E : Type 0} (values first last : List (List ℕ)) (Adds : Result (List (List ℕ)) E → List ℕ → Result (List (List ℕ)) E → Type 0) → ((s : Result (List (List ℕ)) E) (x : List ℕ) (t : Result (List (List ℕ)) E) → Adds s x t → AddsOne s x t) → Folds Adds (Ok first) values (Ok last) → last ≡ first ++ values
unfolding ok_value
adds_all [] first last Adds adds folds = sym (ap (ok_value first) folds) ∙ sym (append-nil first)
adds_all (x ∷ values) first last Adds adds (Ok between, one, more) =
    adds_all values between last Adds adds more ∙ ap (λ (l : List (List ℕ)). l ++ values) (adds (Ok first) x (Ok between) one) ∙ append_assoc first (x ∷ []) values
adds_all (x ∷ values) first last Adds adds (Err why, one, more) = absurd (adds_none values last why Adds adds more)

pub fold_told : {E : Type 0} (c : Shape) (reversed : Bool) (v w : PassView (List ℕ)) (answer : Result Folded TakeRefused) (told : List (List ℕ)) (first last : Result (List (List ℕ)) E) (Adds : Result (List (List ℕ)) E → List ℕ → Result (List (List ℕ)) E → Type 0) (unchanged : Type 0) → first ≡ Ok [] → last ≡ Ok told → ((s : Result (List (List ℕ)) E) (x : List ℕ) (t : Result (List (List ℕ)) E) → Adds s x t → AddsOne s x t) → FoldsAll (record { shape = c; from = v; to = w }) (λ values. Folds Adds first (in_direction reversed values) last) unchanged answer → FoldTold c reversed v w (numbered told answer)
fold_told c reversed v w (Ok folded) told first last Adds unchanged starts ends adds (values, gives, count, folds) =
    (values, gives, adds_all (in_direction reversed values) [] told Adds adds (rw (starts, ends) at folds))
fold_told c reversed v w (Err why) told first last Adds unchanged starts ends adds all = all.0
