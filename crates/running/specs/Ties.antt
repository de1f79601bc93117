-- A client's own rule on the history of its container, and what each call owes it.
use Rattle.std.specs.Prelude.{◌≡◌, ◌⊎◌, ℕ, ◌<◌, false, List, [], ◌∷◌, ◌++◌, length}
use Rattle.bounded_model.specs.declared.history.Event.{Event}
use Rattle.bounded_model.specs.declared.history.Event.TheVariants.{Put, Take, TakeAll, Close, Shut}
use Rattle.bounded_model.specs.declared.views.PassView.{PassView}
use Rattle.bounded_model.specs.Histories.{own, Later}
use Rattle.bounded_model.specs.Alone.{changes, without_hands}
use Rattle.bounded_model.specs.Machine.{Shape, Legal}

-- what pass p has changed
abbrev pub changed_by : {T : Type 0} → ℕ → List (Event T) → List (Event T)
changed_by p h = without_hands (own p h)

-- A rule that a client may give its container: it holds of a new one, and moves of hands keep it
pub record IsTie {T : Type 0} (rule : List (Event T) → Type 0) : Type 0 where
  pub first : rule []
  pub hands : (h : List (Event T)) (e : Event T) → changes e ≡ false → rule h → rule (e ∷ h)

-- none: every history keeps it
abbrev pub no_rule : {T : Type 0} → List (Event T) → Type 0
no_rule h = Unit {0}

-- An operation of pass p that was begun once the pass had seen `begun` keeps the rule by whatever effect it may have. It owes that for each
-- history that may stand at its point of effect: one with all that the pass had seen, since which the pass itself has changed nothing
abbrev pub Deals : {T : Type 0} → Shape → (List (Event T) → Type 0) → (Event T → Type 0) → ℕ → List (Event T) → Type 0
Deals {T} c rule effect p begun = (h : List (Event T)) (e : Event T) → effect e → Later begun h → changed_by p h ≡ changed_by p begun → Legal c (e ∷ h) → rule h → rule (e ∷ h)

-- What one step of such an operation adds to the history h: moves of hands, and its effect if its pass has changed nothing since it was begun
abbrev pub Adds : {T : Type 0} → (Event T → Type 0) → ℕ → (begun h events : List (Event T)) → Type 0
Adds effect p begun h [] = Unit {0}
Adds effect p begun h (e ∷ events) = Adds effect p begun h events × ((changes e ≡ false) ⊎ (effect e × (changed_by p (events ++ h) ≡ changed_by p begun)))

-- Pass p puts some of these values at once: at least one, from the first of them on. The others are left over
pub record PutsSome {T : Type 0} (p : ℕ) (wanted : List T) (e : Event T) : Type 0 where
  pub values : List T
  pub left : List T
  pub number : ℕ
  pub some_value : 0 < length values
  pub all : values ++ left ≡ wanted
  pub is : e ≡ Put p values number

-- What each call owes the rule, in a container of this shape, if its pass was p as it was begun
module _ {T : Type 0} (c : Shape) (rule : List (Event T) → Type 0) (p : PassView T) where
  abbrev DealsBy : (Event T → Type 0) → Type 0
  DealsBy effect = Deals c rule effect p.number p.seen

  abbrev pub PutDeals : T → Type 0
  PutDeals x = DealsBy (λ e. (k : ℕ) × (e ≡ Put p.number (x ∷ []) k))

  abbrev pub TakeDeals : Type 0
  TakeDeals = DealsBy (λ e. (x : T) × (k : ℕ) × (e ≡ Take p.number x k))

  abbrev pub CloseDeals : Type 0
  CloseDeals = DealsBy (λ e. e ≡ Close p.number)

  abbrev pub ShutDeals : Type 0
  ShutDeals = DealsBy (λ e. e ≡ Shut p.number)

  -- and those of a stack that move several values
  abbrev pub PutAllDeals : List T → Type 0
  PutAllDeals xs = DealsBy (PutsSome p.number xs)

  abbrev pub TakeAllDeals : Type 0
  TakeAllDeals = DealsBy (λ e. (xs : List T) × (k : ℕ) × (e ≡ TakeAll p.number xs k))
