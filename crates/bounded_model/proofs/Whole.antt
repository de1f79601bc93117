-- Where no pass is out, a root has seen the whole history: as many different numbers as were given are all of them.
use Rattle.std.proofs.Common.{◌≡◌, ◌≢◌, ℕ, zero, suc, ◌<◌, ◌≤◌, List, [], ◌∷◌, ◌++◌, length, refl, sym, ap, ◌∙◌, subst, arith, lt_of_not-le}
use Rattle.std.specs.List.{AllByRecursion as Every}
use Rattle.bounded_model.specs.declared.history.Event.{Event}
use Rattle.bounded_model.specs.declared.views.RootView.{RootView}
use Rattle.bounded_model.specs.Machine.{Shape}
use Rattle.bounded_model.specs.Histories.{pass_of, own, Later}
use Rattle.bounded_model.specs.Laws.{Apart, IsSound, NoneOut}
use Rattle.bounded_model.proofs.Histories.{own-mine, own-between}

data Compared (a b : ℕ) : Type 0 where
  Same : a ≡ b → Compared a b
  Different : a ≢ b → Compared a b

compared : (a b : ℕ) → Compared a b
compared zero zero = Same refl
compared zero (suc b) = Different (λ e. absurd (omega arith))
compared (suc a) zero = Different (λ e. absurd (omega arith))
compared (suc a) (suc b) = elim (compared a b) [ Same e ↦ Same (ap suc e) | Different f ↦ Different (λ e. f (omega arith)) ]

module _ {A : Type 0} where
  -- numbers below suc n without n are below n
  lowered : (n : ℕ) (xs : List (ℕ × A)) → Every (λ x. x.0 ≢ n) xs → Every (λ x. x.0 < suc n) xs → Every (λ x. x.0 < n) xs
  lowered n [] never below = tt
  lowered n (x ∷ xs) never below = let not_n = never.0 in let low = below.0 in (omega arith, lowered n xs never.1 below.1)

  -- a list without the one that has the number n
  record Without (n : ℕ) (xs : List (ℕ × A)) : Type 0 where
    rest : List (ℕ × A)
    apart : Apart rest
    below : Every (λ x. x.0 < n) rest
    long : length xs ≤ suc (length rest)
    kept : (k : ℕ) → Every (λ x. x.0 ≢ k) xs → Every (λ x. x.0 ≢ k) rest

  without : (n : ℕ) (xs : List (ℕ × A)) → Apart xs → Every (λ x. x.0 < suc n) xs → Without n xs
  without n [] apart below = record { rest = []; apart = tt; below = tt; long = omega arith; kept = λ k e. tt }
  without n (x ∷ xs) apart below =
      elim (compared x.0 n) [
        | Same is ↦ record {
          rest = xs;
          apart = apart.1;
          below = lowered n xs (subst (λ k. Every (λ y. y.0 ≢ k) xs) is apart.0) below.1;
          long = omega arith;
          kept = λ k e. e.1;
        }
        | Different not_n ↦
            let w = without n xs apart.1 below.1 in
            let low = below.0 in
            let more = w.long in
            record {
              rest = x ∷ w.rest;
              apart = (w.kept x.0 apart.0, w.apart);
              below = (omega arith, w.below);
              long = omega arith;
              kept = λ k e. (e.0, w.kept k e.1);
            }
      ]

  -- different numbers below n are at most n
  pub few : (n : ℕ) (xs : List (ℕ × A)) → Apart xs → Every (λ x. x.0 < n) xs → length xs ≤ n
  few zero [] apart below = omega arith
  few zero (x ∷ xs) apart below = let low = below.0 in absurd (omega arith)
  few (suc n) xs apart below =
      let w = without n xs apart below in
      let long = w.long in
      let fewer = few n w.rest w.apart w.below in
      omega arith

module _ {T : Type 0} where
  -- a number whose own events differ stands in no account that is right of both histories
  stranger : (x : ℕ) (h k : List (Event T)) (account : List (ℕ × List (Event T))) → (own x h ≡ own x k → ⊥)
      → Every (λ a. own a.0 h ≡ a.1) account → Every (λ a. own a.0 k ≡ a.1) account → Every (λ a. a.0 ≢ x) account
  stranger x h k [] differ right right' = tt
  stranger x h k (a ∷ rest) differ right right' = (λ is. differ (subst (λ y. own y h ≡ own y k) is (right.0 ∙ sym right'.0)), stranger x h k rest differ right.1 right'.1)

  -- one event more would be of a pass that is out
  no_more : (c : Shape) (e : Event T) (more : List (Event T)) (r : RootView T) → IsSound c r → NoneOut r
      → Every (λ a. own a.0 (e ∷ more ++ r.seen) ≡ a.1) r.account → ((x : ℕ) → r.given ≤ x → own x (e ∷ more ++ r.seen) ≡ []) → ⊥
  no_more c e more r sound nobody right unknown =
      let x : ℕ = pass_of e in
      let mine : own x (e ∷ more ++ r.seen) ≡ e ∷ own x (more ++ r.seen) = own-mine x e (more ++ r.seen) refl in
      let low : x < r.given = lt_of_not-le (λ above. let q : e ∷ own x (more ++ r.seen) ≡ [] = sym mine ∙ unknown x above in cc) in
      let differ : own x (e ∷ more ++ r.seen) ≡ own x r.seen → ⊥ = λ same.
      let q : e ∷ own x more ≡ [] = sym (own-mine x e more refl) ∙ own-between x (e ∷ more) r.seen same in
      cc in
      let out = stranger x (e ∷ more ++ r.seen) r.seen r.account differ right sound.joined in
      let many : length ((x, []) ∷ r.account) ≤ r.given = few r.given ((x, []) ∷ r.account) (out, sound.apart) (low, sound.given) in
      let all : length r.account ≡ r.given = nobody in
      omega arith

  whole_case : (c : Shape) (more : List (Event T)) (r : RootView T) → IsSound c r → NoneOut r
      → Every (λ a. own a.0 (more ++ r.seen) ≡ a.1) r.account → ((x : ℕ) → r.given ≤ x → own x (more ++ r.seen) ≡ []) → more ++ r.seen ≡ r.seen
  whole_case c [] r sound nobody right unknown = refl
  whole_case c (e ∷ more) r sound nobody right unknown = absurd (no_more c e more r sound nobody right unknown)

  -- a later history for which the root's account is right, and which has no event of a number not given, is what the root has seen
  pub whole : (c : Shape) (h : List (Event T)) (r : RootView T) → Later r.seen h → IsSound c r → NoneOut r
      → Every (λ a. own a.0 h ≡ a.1) r.account → ((x : ℕ) → r.given ≤ x → own x h ≡ []) → h ≡ r.seen
  whole c h r later sound nobody right unknown =
      later.is ∙ whole_case c later.more r sound nobody
      (subst (λ k. Every (λ a. own a.0 k ≡ a.1) r.account) later.is right)
      (λ x above. ap (own x) (sym later.is) ∙ unknown x above)
