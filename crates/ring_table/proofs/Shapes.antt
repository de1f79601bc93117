-- How many passes of a container may be out is nothing to its history.
use Rattle.std.proofs.Common.{◌≡◌, ℕ, List, [], ◌∷◌, refl, sym, ap, ◌∙◌, subst}
use Rattle.bounded_model.specs.declared.history.Event.{Event}
use Rattle.bounded_model.specs.declared.history.Event.TheVariants.{Hold, Put, Take, TakeAll, Free, Close, Shut}
use Rattle.bounded_model.specs.Machine.{Shape, State, state, after, Needs, Legal}

abbrev pub with_passes : Shape → ℕ → Shape
with_passes c passes = record c { passes = passes }

module _ {T : Type 0} (c : Shape) (passes : ℕ) where
  after_same : (s : State T) (e : Event T) → after (with_passes c passes) s e ≡ after c s e
  after_same s (Hold p) = refl
  after_same s (Put p vs n) = refl
  after_same s (Take p v n) = refl
  after_same s (TakeAll p vs n) = refl
  after_same s (Free p k) = refl
  after_same s (Close p) = refl
  after_same s (Shut p) = refl

  needs_same : (s : State T) (e : Event T) → Needs c s e → Needs (with_passes c passes) s e
  needs_same s (Hold p) x = x
  needs_same s (Put p vs n) x = x
  needs_same s (Take p v n) x = x
  needs_same s (TakeAll p vs n) x = x
  needs_same s (Free p k) x = x
  needs_same s (Close p) x = x
  needs_same s (Shut p) x = x

  pub state_same : (h : List (Event T)) → state (with_passes c passes) h ≡ state c h
  state_same [] = refl
  state_same (e ∷ h) = after_same (state (with_passes c passes) h) e ∙ ap (λ (s : State T). after c s e) (state_same h)

  pub legal_same : (h : List (Event T)) → Legal c h → Legal (with_passes c passes) h
  legal_same [] legal = tt
  legal_same (e ∷ h) legal = (subst (λ (s : State T). Needs (with_passes c passes) s e) (sym (state_same h)) (needs_same (state c h) e legal.0), legal_same h legal.1)
