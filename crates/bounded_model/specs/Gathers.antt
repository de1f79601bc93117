-- What a history holds of one kind, in the order of time: the values put, the values taken, ..
use Rattle.std.specs.Prelude.{◌≡◌, ℕ, suc, ◌<◌, List, [], ◌∷◌, ◌++◌, map, length}
use Rattle.std.specs.List.{AllByRecursion as Every}
use Rattle.bounded_model.specs.declared.history.Event.{Event}
use Rattle.bounded_model.specs.declared.history.Event.TheVariants.{Hold, Put, Take, TakeAll, Free, Close, Shut}
use Rattle.bounded_model.specs.declared.views.PassView.{PassView}
use Rattle.bounded_model.specs.Histories.{own}

abbrev pub gather : {T A : Type 0} → (Event T → List A) → List (Event T) → List A
gather f [] = []
gather f (e ∷ h) = gather f h ++ f e

abbrev pub put_of : {T : Type 0} → Event T → List T
put_of (Hold p) = []
put_of (Put p vs n) = vs
put_of (Take p v n) = []
put_of (TakeAll p vs n) = []
put_of (Free p k) = []
put_of (Close p) = []
put_of (Shut p) = []

-- a value that went in or out, the number of the call that moved it, and the pass that called
pub record Moved (T : Type 0) : Type 0 where
  pub value : T
  pub number : ℕ
  pub by : ℕ

abbrev pub moved_by : {T : Type 0} → ℕ → ℕ → List T → List (Moved T)
moved_by p n vs = map (λ v. record { value = v; number = n; by = p }) vs

abbrev pub sent_of : {T : Type 0} → Event T → List (Moved T)
sent_of (Hold p) = []
sent_of (Put p vs n) = moved_by p n vs
sent_of (Take p v n) = []
sent_of (TakeAll p vs n) = []
sent_of (Free p k) = []
sent_of (Close p) = []
sent_of (Shut p) = []

abbrev pub took_of : {T : Type 0} → Event T → List (Moved T)
took_of (Hold p) = []
took_of (Put p vs n) = []
took_of (Take p v n) = record { value = v; number = n; by = p } ∷ []
took_of (TakeAll p vs n) = moved_by p n vs
took_of (Free p k) = []
took_of (Close p) = []
took_of (Shut p) = []

abbrev pub values_of : {T : Type 0} → List (Moved T) → List T
values_of ms = map (λ m. m.value) ms

-- the number of the call, if it moved values
abbrev pub number_of : {T : Type 0} → Event T → List ℕ
number_of (Hold p) = []
number_of (Put p vs n) = n ∷ []
number_of (Take p v n) = n ∷ []
number_of (TakeAll p vs n) = n ∷ []
number_of (Free p k) = []
number_of (Close p) = []
number_of (Shut p) = []

-- whose event it is, if it is of one kind
abbrev pub hold_of : {T : Type 0} → Event T → List ℕ
hold_of (Hold p) = p ∷ []
hold_of (Put p vs n) = []
hold_of (Take p v n) = []
hold_of (TakeAll p vs n) = []
hold_of (Free p k) = []
hold_of (Close p) = []
hold_of (Shut p) = []

abbrev pub fold_of : {T : Type 0} → Event T → List ℕ
fold_of (Hold p) = []
fold_of (Put p vs n) = []
fold_of (Take p v n) = []
fold_of (TakeAll p vs n) = p ∷ []
fold_of (Free p k) = []
fold_of (Close p) = []
fold_of (Shut p) = []

abbrev pub close_of : {T : Type 0} → Event T → List ℕ
close_of (Hold p) = []
close_of (Put p vs n) = []
close_of (Take p v n) = []
close_of (TakeAll p vs n) = []
close_of (Free p k) = []
close_of (Close p) = p ∷ []
close_of (Shut p) = []

abbrev pub shut_of : {T : Type 0} → Event T → List ℕ
shut_of (Hold p) = []
shut_of (Put p vs n) = []
shut_of (Take p v n) = []
shut_of (TakeAll p vs n) = []
shut_of (Free p k) = []
shut_of (Close p) = []
shut_of (Shut p) = p ∷ []

-- keyed by these numbers, each is below all that follow
abbrev pub Rises : {A : Type 0} → (A → ℕ) → List A → Type 0
Rises key [] = Unit {0}
Rises key (x ∷ xs) = Every (λ y. key x < key y) xs × Rises key xs

-- keyed by these numbers, they are k, k + 1, ..
abbrev pub Counts : {A : Type 0} → (A → ℕ) → ℕ → List A → Type 0
Counts key k [] = Unit {0}
Counts key k (x ∷ xs) = (key x ≡ k) × Counts key (suc k) xs

-- P holds of a and the first, of a + 1 and the second, ..
abbrev pub EachFrom : {A : Type 0} → (ℕ → A → Type 0) → ℕ → List A → Type 0
EachFrom P a [] = Unit {0}
EachFrom P a (x ∷ xs) = P a x × EachFrom P (suc a) xs

-- the same of what a pass itself has done
abbrev pub did : {T A : Type 0} → (Event T → List A) → PassView T → List A
did f v = gather f (own v.number v.seen)

-- how many cells it has taken so far
abbrev pub holds_by : {T : Type 0} → PassView T → ℕ
holds_by v = length (did hold_of v)
