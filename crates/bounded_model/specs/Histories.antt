-- Whose events a history holds, and when one history is an earlier part of another.
use Rattle.std.specs.Prelude.{◌≡◌, ℕ, ◌==◌, ◌⊎◌, List, [], ◌∷◌, ◌++◌, filter}
use Rattle.bounded_model.specs.declared.history.Event.{Event}
use Rattle.bounded_model.specs.declared.history.Event.TheVariants.{Hold, Put, Take, TakeAll, Free, Close, Shut}

abbrev pub pass_of : {T : Type 0} → Event T → ℕ
pass_of (Hold p) = p
pass_of (Put p vs n) = p
pass_of (Take p v n) = p
pass_of (TakeAll p vs n) = p
pass_of (Free p k) = p
pass_of (Close p) = p
pass_of (Shut p) = p

-- the events of pass p
abbrev pub own : {T : Type 0} → ℕ → List (Event T) → List (Event T)
own p h = filter (λ e. pass_of e == p) h

-- x is one of these
abbrev pub Among : {A : Type 0} → A → List A → Type 0
Among x [] = ⊥
Among x (y ∷ ys) = (x ≡ y) ⊎ Among x ys

-- the new history begins with the old one: it is the old one with more on top
pub record Later {T : Type 0} (old new : List (Event T)) : Type 0 where
  pub more : List (Event T)
  pub is : new ≡ more ++ old
