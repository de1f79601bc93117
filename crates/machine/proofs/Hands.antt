-- A pass's hand hangs on its own events alone.
use Rattle.std.proofs.Common.{◌≡◌, ◌≢◌, ℕ, ◌+◌, ◌-◌, List, [], ◌∷◌, length, set, refl, sym, ap, ◌∙◌, subst, ⊎_elim}
use Rattle.std.proofs.lemmas.Bool.Decides.{eqb_tells}
use mathlib.Core.Option.{Option, some, some-injective}
use lib.ListN.{get_elem?}
use Rattle.bounded_model.specs.declared.history.Event.{Event}
use Rattle.bounded_model.specs.declared.history.Event.TheVariants.{Hold, Put, Take, TakeAll, Free, Close, Shut}
use Rattle.bounded_model.specs.Machine.{Shape, state}
use Rattle.bounded_model.specs.Histories.{pass_of, own}
use Rattle.bounded_model.proofs.Histories.{own-mine, own-other}
use Rattle.bounded_model.proofs.Hands.{with_hand-same, with_hand-other}
use Rattle.machine.proofs.Sums.{at_set}

-- one pass's hand changes with its line, of which `size` tells
pub hands_set : {L : Type 0} (size : L → ℕ) (who : ℕ → Option ℕ) (lines : List L) (hand hand' : ℕ → ℕ) (q p : ℕ) (l' : L) → ((q r p : ℕ) → who q ≡ some p → who r ≡ some p → q ≡ r) → who q ≡ some p
    → ((q p : ℕ) (l : L) → get_elem? lines q ≡ some l → who q ≡ some p → hand p ≡ size l)
    → hand' p ≡ size l' → ((x : ℕ) → x ≢ p → hand' x ≡ hand x) → (r x : ℕ) (u : L) → get_elem? (set lines q l') r ≡ some u → who r ≡ some x → hand' x ≡ size u
hands_set {L} size who lines hand hand' q p l' alone is h here else r x u at of = ⊎_elim
    (λ t.
    let same : p ≡ x = some-injective p x (sym is ∙ ap who (sym t.0) ∙ of) in
    subst (λ (y : ℕ). hand' y ≡ size u) same (here ∙ ap size t.1))
    (λ t. let ne = t.0 in else x (λ e. ne (alone r q p (of ∙ ap some e) is)) ∙ h r x u t.1 of)
    (at_set lines q r l' u at)

-- what an event leaves in its pass's hand
abbrev pub hand_after : {T : Type 0} → Event T → ℕ → ℕ
hand_after (Hold p) n = n + 1
hand_after (Put p vs k) n = n - length vs
hand_after (Take p v k) n = n + 1
hand_after (TakeAll p vs k) n = n + length vs
hand_after (Free p k) n = n - k
hand_after (Close p) n = n
hand_after (Shut p) n = n

module _ {T : Type 0} (c : Shape) where
  pub hand-mine : (h : List (Event T)) (e : Event T) → (state c (e ∷ h)).hand (pass_of e) ≡ hand_after e ((state c h).hand (pass_of e))
  hand-mine h (Hold p) = with_hand-same (state c h).hand p ((state c h).hand p + 1)
  hand-mine h (Put p vs k) = with_hand-same (state c h).hand p ((state c h).hand p - length vs)
  hand-mine h (Take p v k) = with_hand-same (state c h).hand p ((state c h).hand p + 1)
  hand-mine h (TakeAll p vs k) = with_hand-same (state c h).hand p ((state c h).hand p + length vs)
  hand-mine h (Free p k) = with_hand-same (state c h).hand p ((state c h).hand p - k)
  hand-mine h (Close p) = refl
  hand-mine h (Shut p) = refl

  pub hand-other : (h : List (Event T)) (e : Event T) (x : ℕ) → pass_of e ≢ x → (state c (e ∷ h)).hand x ≡ (state c h).hand x
  hand-other h (Hold p) x ne = with_hand-other (state c h).hand p ((state c h).hand p + 1) x (λ q. ne (sym q))
  hand-other h (Put p vs k) x ne = with_hand-other (state c h).hand p ((state c h).hand p - length vs) x (λ q. ne (sym q))
  hand-other h (Take p v k) x ne = with_hand-other (state c h).hand p ((state c h).hand p + 1) x (λ q. ne (sym q))
  hand-other h (TakeAll p vs k) x ne = with_hand-other (state c h).hand p ((state c h).hand p + length vs) x (λ q. ne (sym q))
  hand-other h (Free p k) x ne = with_hand-other (state c h).hand p ((state c h).hand p - k) x (λ q. ne (sym q))
  hand-other h (Close p) x ne = refl
  hand-other h (Shut p) x ne = refl

  mine_at : (h : List (Event T)) (e : Event T) (x : ℕ) → pass_of e ≡ x → (state c (e ∷ h)).hand x ≡ hand_after e ((state c h).hand x)
  mine_at h e x is = ap (state c (e ∷ h)).hand (sym is) ∙ hand-mine h e ∙ ap (λ (p : ℕ). hand_after e ((state c h).hand p)) is

  hand-own : (x : ℕ) (h : List (Event T)) → (state c (own x h)).hand x ≡ (state c h).hand x
  hand-own x [] = refl
  hand-own x (e ∷ h) = ⊎_elim
      (λ t. ap (λ (l : List (Event T)). (state c l).hand x) (own-mine x e h t.1) ∙ mine_at (own x h) e x t.1 ∙ ap (hand_after e) (hand-own x h) ∙ sym (mine_at h e x t.1))
      (λ t. ap (λ (l : List (Event T)). (state c l).hand x) (own-other x e h t.1) ∙ hand-own x h ∙ sym (hand-other h e x t.1))
      (eqb_tells (pass_of e) x)

  pub same_hand : (x : ℕ) (h k : List (Event T)) → own x h ≡ own x k → (state c h).hand x ≡ (state c k).hand x
  same_hand x h k e = sym (hand-own x h) ∙ ap (λ (l : List (Event T)). (state c l).hand x) e ∙ hand-own x k
