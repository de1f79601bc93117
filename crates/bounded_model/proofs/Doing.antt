-- What a call adds to all that its pass has done.
use Rattle.std.proofs.Common.{◌≡◌, ℕ, zero, suc, ◌+◌, ◌≤◌, List, [], ◌∷◌, ◌++◌, refl, ap, ◌∙◌, arith, append-nil, length, length-append}
use Rattle.bounded_model.specs.declared.history.Event.{Event}
use Rattle.bounded_model.specs.declared.history.Event.TheVariants.{Hold, Free}
use Rattle.bounded_model.specs.declared.views.PassView.{PassView}
use Rattle.bounded_model.specs.Histories.{own}
use Rattle.bounded_model.specs.Gathers.{gather, did, hold_of, holds_by}
use Rattle.bounded_model.specs.Laws.{Adds, holds_of, gave_back, BacksOut}
use Rattle.bounded_model.proofs.Adding.{own-adds}
use Rattle.bounded_model.proofs.Gathering.{gather-append}

module _ {T A : Type 0} (f : Event T → List A) where
  pub did-adds : {v w : PassView T} {events : List (Event T)} → Adds v w events → did f w ≡ did f v ++ gather f events
  did-adds {v} {w} {events} a = ap (gather f) (own-adds a) ∙ gather-append f events (own v.number v.seen)

  pub did-nothing : {v w : PassView T} → Adds v w [] → did f w ≡ did f v
  did-nothing {v} {w} a = did-adds a ∙ append-nil (did f v)

  gather-holds_of : (p k : ℕ) → f (Hold p) ≡ [] → gather f (holds_of p k) ≡ []
  gather-holds_of p zero quiet = refl
  gather-holds_of p (suc k) quiet = rw (gather-holds_of p k quiet, quiet) refl

  -- what speaks of neither Hold nor Free sees nothing of a put that was given up
  pub gather-gave_back : (p k : ℕ) → f (Hold p) ≡ [] → ((j : ℕ) → f (Free p j) ≡ []) → gather f (gave_back p k) ≡ []
  gather-gave_back p zero quiet still = refl
  gather-gave_back p (suc k) quiet still = rw (gather-holds_of p k quiet, quiet, still (suc k)) refl

  pub did-backs_out : {v w : PassView T} {most : ℕ} → BacksOut v w most → f (Hold v.number) ≡ [] → ((j : ℕ) → f (Free v.number j) ≡ []) → did f w ≡ did f v
  did-backs_out {v} {w} {most} b quiet still = did-adds b.adds ∙ (ap (λ l. did f v ++ l) (gather-gave_back v.number b.held quiet still) ∙ append-nil (did f v))

holds-holds_of : (T : Type 0) (p k : ℕ) → length (gather (hold_of {T = T}) (holds_of p k)) ≡ k
holds-holds_of T p zero = refl
holds-holds_of T p (suc k) = length-append (gather (hold_of {T = T}) (holds_of p k)) (p ∷ []) ∙ omega (arith, holds-holds_of T p k)

holds-gave_back : (T : Type 0) (p k : ℕ) → length (gather (hold_of {T = T}) (gave_back p k)) ≡ k
holds-gave_back T p zero = refl
holds-gave_back T p (suc k) = ap length (append-nil (gather (hold_of {T = T}) (holds_of p (suc k)))) ∙ holds-holds_of T p (suc k)

pub holds_by-backs_out : {T : Type 0} {v w : PassView T} {most : ℕ} → BacksOut v w most → holds_by w ≤ holds_by v + most
holds_by-backs_out {T} {v} {w} {most} b =
    let all : holds_by w ≡ holds_by v + b.held = ap length (did-adds hold_of b.adds) ∙ (length-append (did hold_of v) (gather hold_of (gave_back v.number b.held)) ∙ ap (λ k. holds_by v + k) (holds-gave_back T v.number b.held)) in
    let few = b.at_most in
    omega arith
