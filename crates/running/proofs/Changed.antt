-- What a pass has changed since it began an operation, by its events since.
use Rattle.std.proofs.Common.{◌≡◌, ℕ, zero, suc, List, [], ◌++◌, refl, ap, ◌∙◌}
use Rattle.std.proofs.lemmas.List.Elements.{filter-append}
use Rattle.bounded_model.specs.declared.history.Event.{Event}
use Rattle.bounded_model.specs.Alone.{changes, without_hands}
use Rattle.bounded_model.specs.Histories.{own}
use Rattle.bounded_model.specs.Laws.{gave_back, holds_of}
use Rattle.bounded_model.proofs.Histories.{own-append}
use Rattle.running.specs.Ties.{changed_by}

module _ {T : Type 0} (p : ℕ) where
  pub holds_change_nothing : (k : ℕ) → without_hands (holds_of {T = T} p k) ≡ []
  holds_change_nothing zero = refl
  holds_change_nothing (suc k) = holds_change_nothing k

  pub back_changes_nothing : (k : ℕ) → without_hands (gave_back {T = T} p k) ≡ []
  back_changes_nothing zero = refl
  back_changes_nothing (suc k) = holds_change_nothing k

  module _ (begun : List (Event T)) {h : List (Event T)} (events between : List (Event T)) (is : h ≡ between ++ begun) (own_are : own p between ≡ events) where
    pub changed_since : changed_by p h ≡ without_hands events ++ changed_by p begun
    changed_since = ap (changed_by p) is ∙ ap without_hands (own-append p between begun ∙ ap (λ (es : List (Event T)). es ++ own p begun) own_are) ∙ filter-append changes events (own p begun)

    -- nothing, if it has moved hands alone
    pub unchanged : without_hands events ≡ [] → changed_by p h ≡ changed_by p begun
    unchanged none = changed_since ∙ ap (λ (es : List (Event T)). es ++ changed_by p begun) none
