-- Sums over all acts are sums over the passes that made them.
use Rattle.std.proofs.Common.{◌≡◌, ◌≢◌, ◌⊎◌, inl, inr, ⊎_elim, ℕ, ◌+◌, ◌*◌, ◌<◌, ◌≤◌, ◌==◌, cond, Bool, List, [], ◌∷◌, length, refl, ap, ◌∙◌, subst, eq-eqb, ne_eqb, lt_of_not-le, arith}
use Rattle.std.proofs.Math.Nat.{mul-add}
use Rattle.std.specs.List.{AllByRecursion as Every}
use Rattle.bounded_model.specs.Laws.{Apart}
use Rattle.bounded_model.proofs.Whole.{few}
use Rattle.machine.specs.Seats.{Acts}
use Rattle.machine.specs.Words.{total}
use Rattle.machine.proofs.Tests.{same_or_not}
use Rattle.running.specs.Acts.{Doing, Begins, Steps, Looks, Hears, counted, is_begin, sum_of}
use Rattle.running.proofs.Acts.{sum_same}
use Rattle.runs.specs.Runs.{Below}
use Rattle.runs.specs.Work.{in_all}

module _ {V : Type 0} where
  pub total_plus : (f g h : V → ℕ) → ((v : V) → h v ≡ f v + g v) → (vs : List V) → total h vs ≡ total f vs + total g vs
  total_plus f g h e [] = refl
  total_plus f g h e (v ∷ vs) = omega (arith, e v, total_plus f g h e vs)

  pub total_none : (vs : List V) → total (λ v. 0) vs ≡ 0
  total_none [] = refl
  total_none (v ∷ vs) = omega (arith, total_none vs)

  pub total_most : (f g : V → ℕ) (most : ℕ) → ((v : V) → f v ≤ most * g v) → (vs : List V) → total f vs ≤ most * total g vs
  total_most f g most h [] = omega arith
  total_most f g most h (v ∷ vs) = omega (arith, h v, mul-add most (g v) (total g vs), total_most f g most h vs)

  pub total_below : (f g : V → ℕ) (vs : List V) → Every (λ v. f v ≤ g v) vs → total f vs ≤ total g vs
  total_below f g [] e = omega arith
  total_below f g (v ∷ vs) e = omega (arith, e.0, total_below f g vs e.1)

  pub total_length : (f : V → ℕ) (most : ℕ) → ((v : V) → f v ≤ most) → (vs : List V) → total f vs ≤ most * length vs
  total_length f most h [] = omega arith
  total_length f most h (v ∷ vs) = omega (arith, h v, mul-add most 1 (length vs), total_length f most h vs)

  pub total_alike : (f g : V → ℕ) (vs : List V) → Every (λ v. f v ≡ g v) vs → total f vs ≡ total g vs
  total_alike f g [] e = refl
  total_alike f g (v ∷ vs) e = omega (arith, e.0, total_alike f g vs e.1)

module _ {A : Type 0} where
  abbrev share : ℕ → ℕ → ℕ × A → ℕ
  share p k a = cond (a.0 == p) k 0

  share_none : (p k : ℕ) (xs : List (ℕ × A)) → Every (λ a. a.0 ≢ p) xs → total (share p k) xs ≡ 0
  share_none p k [] none = refl
  share_none p k (a ∷ xs) none = omega (arith, ap (λ (b : Bool). cond b k 0) (ne_eqb a.0 p none.0), share_none p k xs none.1)

  -- a number stands in a list once, or nowhere
  share_one : (p k : ℕ) (xs : List (ℕ × A)) → Apart xs → Every (λ a. a.0 ≢ p) xs ⊎ (total (share p k) xs ≡ k)
  share_one p k [] apart = inl tt
  share_one p k (a ∷ xs) apart = ⊎_elim
      (λ is. inr (omega (arith, ap (λ (b : Bool). cond b k 0) (eq-eqb a.0 p is), share_none p k xs (subst (λ (n : ℕ). Every (λ b. b.0 ≢ n) xs) is apart.0))))
      (λ not. ⊎_elim
      (λ none. inl (not, none))
      (λ one. inr (omega (arith, ap (λ (b : Bool). cond b k 0) (ne_eqb a.0 p not), one)))
      (share_one p k xs apart.1))
      (same_or_not a.0 p)

  -- if all numbers below n stand in the list, each does once
  share_all : (n p k : ℕ) (xs : List (ℕ × A)) → Apart xs → Every (λ a. a.0 < n) xs → n ≤ length xs → p < n → (x : A) → total (share p k) xs ≡ k
  share_all n p k xs apart low many here x = ⊎_elim
      (λ none. absurd (omega (arith, few n ((p, x) ∷ xs) (none, apart) (here, low), many)))
      (λ one. one)
      (share_one p k xs apart)

  pub by_pass : {L : Type 0} (f : Doing L → ℕ) (n : ℕ) (x : A) (xs : List (ℕ × A)) → Apart xs → Every (λ a. a.0 < n) xs → n ≤ length xs → (acts : Acts L) → Below n acts → total (λ a. sum_of f a.0 acts) xs ≡ in_all f acts
  by_pass f n x xs apart low many [] below = total_none xs
  by_pass {L} f n x xs apart low many (a ∷ older) below =
      total_plus (share a.0 (f a.1)) (λ b. sum_of f b.0 older) (λ b. sum_of f b.0 (a ∷ older)) (λ b. refl) xs
      ∙ (let one = share_all n a.0 (f a.1) xs apart low many below.0 x in let r = by_pass f n x xs apart low many older below.1 in omega arith)

-- a pass that has done nothing has no act
module _ {L : Type 0} where
  abbrev does : ℕ → Acts L → ℕ
  does x acts = sum_of counted x acts + sum_of is_begin x acts

  does_one : (d : Doing L) → 0 < counted d + is_begin d
  does_one (Begins first) = omega arith
  does_one Steps = omega arith
  does_one Looks = omega arith
  does_one Hears = omega arith

  pub only_below : (n : ℕ) (acts : Acts L) → ((x : ℕ) → n ≤ x → does x acts ≡ 0) → Below n acts
  only_below n [] none = tt
  only_below n (a ∷ older) none = (
    lt_of_not-le (λ above. absurd (omega (arith, none a.0 above, does_one a.1, sum_same {L = L} counted a.0 a.1 older, sum_same {L = L} is_begin a.0 a.1 older))),
    only_below n older (λ x above. omega (arith, none x above)),
  )
