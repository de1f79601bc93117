-- Histories that go on, and the events of one pass in them.
use Rattle.std.proofs.Common.{◌≡◌, ◌≢◌, ℕ, ◌<◌, ◌≤◌, true, false, List, [], ◌∷◌, ◌++◌, length, refl, sym, ap, ◌∙◌, arith, append-nil, append_assoc, length-append, lt_of_not-le}
use Rattle.std.specs.Prelude.{◌==◌}
use Rattle.std.specs.List.{AllByRecursion as Every}
use Rattle.std.proofs.lemmas.Bool.Decides.{nat_tests}
use Rattle.std.proofs.lemmas.List.Elements.{filter-append}
use Rattle.bounded_model.specs.declared.history.Event.{Event}
use Rattle.bounded_model.specs.Histories.{pass_of, own, Later}

pub no_parts : {A : Type 0} (xs ys : List A) → xs ++ ys ≡ [] → (xs ≡ []) × (ys ≡ [])
no_parts [] ys e = (refl, e)
no_parts (x ∷ xs) ys e = cc

pub is_nil : {A : Type 0} (xs : List A) → length xs ≡ 0 → xs ≡ []
is_nil [] e = refl
is_nil (x ∷ xs) e = absurd (omega arith)

module _ {T : Type 0} where
  pub Later-refl : (h : List (Event T)) → Later h h
  Later-refl h = record { more = []; is = refl }

  pub Later-cons : (e : Event T) (h : List (Event T)) → Later h (e ∷ h)
  Later-cons e h = record { more = e ∷ []; is = refl }

  pub Later-trans : {a b c : List (Event T)} → Later a b → Later b c → Later a c
  Later-trans {a} {b} {c} p q = record { more = q.more ++ p.more; is = q.is ∙ (ap (λ l. q.more ++ l) p.is ∙ sym (append_assoc q.more p.more a)) }

  -- any history is later than none
  pub Later-start : (h : List (Event T)) → Later [] h
  Later-start h = record { more = h; is = sym (append-nil h) }

  pub own-append : (p : ℕ) (more h : List (Event T)) → own p (more ++ h) ≡ own p more ++ own p h
  own-append p more h = filter-append (λ e. pass_of e == p) more h

  pub own-mine : (p : ℕ) (e : Event T) (h : List (Event T)) → pass_of e ≡ p → own p (e ∷ h) ≡ e ∷ own p h
  own-mine p e h mine = let b : (pass_of e == p) ≡ true = grind (arith, nat_tests) in rw b

  pub own-other : (p : ℕ) (e : Event T) (h : List (Event T)) → pass_of e ≢ p → own p (e ∷ h) ≡ own p h
  own-other p e h other = let b : (pass_of e == p) ≡ false = grind (arith, nat_tests) in rw b

  -- where a later history has the same events of p, the new part has none
  pub own-between : (p : ℕ) (more h : List (Event T)) → own p (more ++ h) ≡ own p h → own p more ≡ []
  own-between p more h same =
      let long : length (own p more ++ own p h) ≡ length (own p h) = ap length (sym (own-append p more h) ∙ same) in
      is_nil (own p more) (omega (arith, length-append (own p more) (own p h)))

  -- what a later history has none of, an earlier one has none of
  pub own-earlier : (p : ℕ) {old new : List (Event T)} → Later old new → own p new ≡ [] → own p old ≡ []
  own-earlier p {old} {new} later none = (no_parts (own p later.more) (own p old) (sym (own-append p later.more old) ∙ (sym (ap (own p) later.is) ∙ none))).1

  -- every event is of a number below n exactly where no number from n on has one
  pub own-unknown : (n : ℕ) (h : List (Event T)) → Every (λ e. pass_of e < n) h → (p : ℕ) → n ≤ p → own p h ≡ []
  own-unknown n [] known p above = refl
  own-unknown n (e ∷ h) known p above = let below = known.0 in own-other p e h (λ q. absurd (omega arith)) ∙ own-unknown n h known.1 p above

  kept_none : (p : ℕ) (e : Event T) (h : List (Event T)) → own p (e ∷ h) ≡ [] → own p h ≡ []
  kept_none p e h none = own-earlier p (Later-cons e h) none

  pub known_from_own : (n : ℕ) (h : List (Event T)) → ((p : ℕ) → n ≤ p → own p h ≡ []) → Every (λ e. pass_of e < n) h
  known_from_own n [] none = tt
  known_from_own n (e ∷ h) none = (
    lt_of_not-le (λ above. let q : e ∷ own (pass_of e) h ≡ [] = sym (own-mine (pass_of e) e h refl) ∙ none (pass_of e) above in cc),
    known_from_own n h (λ p above. kept_none p e h (none p above)),
  )
