-- Chains of nodes: their links and their slots.
use Rattle.std.proofs.Common.{◌≡◌, ◌≢◌, ℕ, zero, suc, ◌+◌, ◌<◌, ◌≤◌, cond, eqb, List, [], ◌∷◌, ◌++◌, length, reverse, refl, sym, ap, ◌∙◌, subst, ⊎_elim, eq-eqb, ne_eqb, arith}
use Rattle.std.specs.Prelude.{Option as Slot, Some, None}
use Rattle.std.proofs.lemmas.Bool.Decides.{eqb_tells}
use Rattle.std.proofs.lemmas.List.{reverse-append}
use mathlib.Core.Option.{Option, none, some}
use Rattle.tagged_index.specs.declared.word.TheConstants.{NULL}
use Rattle.bounded_model.specs.Machine.{without_first}
use Rattle.machine.specs.Words.{store, times, Leads, Stands, IsChain}
use Rattle.machine.specs.Chains.{first, last, second, chain_from, with_home, away, filled, emptied, values_in, HasValues}
use Rattle.machine.proofs.Lists.{times_here, times_else, times_append, not_there, store_here, store_else}

pub times_reverse : (i : ℕ) (is : List ℕ) → times i (reverse is) ≡ times i is
times_reverse i [] = refl
times_reverse i (j ∷ js) = ap (times i) (reverse-append (j ∷ []) js) ∙ omega (arith, times_append i (reverse js) (j ∷ []), times_reverse i js)

pub times_rest : (i : ℕ) (is : List ℕ) → times i (without_first is) ≤ times i is
times_rest i [] = omega arith
times_rest i (j ∷ js) = omega arith

-- links

pub chain_frame : (link link' : ℕ → ℕ) (chain : List ℕ) → ((j : ℕ) → 0 < times j chain → link' j ≡ link j) → IsChain link chain → IsChain link' chain
chain_frame link link' [] h c = tt
chain_frame link link' (i ∷ []) h c = tt
chain_frame link link' (i ∷ j ∷ js) h c = (h i (omega (arith, times_here i (j ∷ js))) ∙ c.0, chain_frame link link' (j ∷ js) (λ k there. h k (omega arith)) c.1)

pub leads_chain : (link : ℕ → ℕ) (x : ℕ) (list : List ℕ) (y : ℕ) → Leads link x list y → IsChain link list
leads_chain link x [] y l = tt
leads_chain link x (i ∷ []) y l = tt
leads_chain link x (i ∷ j ∷ js) y l = (l.1.0, leads_chain link (link i) (j ∷ js) y l.1)

-- a chain is a part of a list, up to what its last link names
pub chain_leads : (link : ℕ → ℕ) (chain : List ℕ) → 0 < length chain → IsChain link chain → Leads link (first chain) chain (link (last chain))
chain_leads link [] h c = absurd (omega arith)
chain_leads link (i ∷ []) h c = (refl, refl)
chain_leads link (i ∷ j ∷ js) h c = (refl, subst (λ (x : ℕ). Leads link x (j ∷ js) (link (last (j ∷ js)))) (sym c.0) (chain_leads link (j ∷ js) (omega arith) c.1))

pub first_in : (chain : List ℕ) → 0 < length chain → 0 < times (first chain) chain
first_in [] h = absurd (omega arith)
first_in (i ∷ is) h = omega (arith, times_here i is)

pub last_in : (chain : List ℕ) → 0 < length chain → 0 < times (last chain) chain
last_in [] h = absurd (omega arith)
last_in (i ∷ []) h = omega (arith, times_here i [])
last_in (i ∷ j ∷ js) h = let r = last_in (j ∷ js) (omega arith) in omega arith

-- a store into the last link leaves the chain
pub chain_store_last : (link : ℕ → ℕ) (chain : List ℕ) (x : ℕ) → times (last chain) chain ≤ 1 → IsChain link chain → IsChain (store link (last chain) x) chain
chain_store_last link [] x once c = tt
chain_store_last link (i ∷ []) x once c = tt
chain_store_last link (i ∷ j ∷ js) x once c =
    let there = last_in (j ∷ js) (omega arith) in
    let ne : i ≢ last (j ∷ js) = λ e. let q : times (last (j ∷ js)) (i ∷ j ∷ js) ≡ times i (i ∷ j ∷ js) = ap (λ (k : ℕ). times k (i ∷ j ∷ js)) (sym e) in
    let r : 0 < times i (j ∷ js) = subst (λ (k : ℕ). 0 < times k (j ∷ js)) (sym e) there in
    absurd (omega (arith, q, times_here i (j ∷ js))) in
    (store_else link (last (j ∷ js)) x i ne ∙ c.0, chain_store_last link (j ∷ js) x (omega arith) c.1)

-- a store into the first link that names the second links the whole chain
pub chain_store_first : (link : ℕ → ℕ) (chain : List ℕ) → times (first chain) chain ≤ 1 → IsChain link (without_first chain) → IsChain (store link (first chain) (second chain)) chain
chain_store_first link [] once c = tt
chain_store_first link (i ∷ []) once c = tt
chain_store_first link (i ∷ j ∷ js) once c =
    (store_here link i j, chain_frame link (store link i j) (j ∷ js) (λ k there. store_else link i j k (not_there i k (j ∷ js) (omega (arith, times_here i (j ∷ js))) there)) c)

-- the chain that the links lead through
pub chain_from-is : (link : ℕ → ℕ) (most x : ℕ) (list : List ℕ) → length list ≤ most → times NULL list ≡ 0 → Stands link x list → chain_from most link x ≡ list
chain_from-is link zero x [] few never s = refl
chain_from-is link (suc most) x [] few never s = rw (eq-eqb x NULL s) refl
chain_from-is link zero x (i ∷ is) few never s = absurd (omega arith)
chain_from-is link (suc most) x (i ∷ is) few never s =
    let ne : i ≢ NULL = λ e. absurd (let q : times NULL (i ∷ is) ≡ times i (i ∷ is) = ap (λ (k : ℕ). times k (i ∷ is)) (sym e) in omega (arith, q, never, times_here i is)) in
    let r = chain_from-is link most (link i) is (omega arith) (omega arith) s.1 in
    subst (λ (y : ℕ). cond (eqb y NULL) [] (y ∷ chain_from most link (link y)) ≡ i ∷ is) (sym s.0) (rw (ne_eqb i NULL ne, r) refl)

-- slots

-- an index outside a longer chain is not its first and is outside the rest
outside : (j i : ℕ) (is : List ℕ) → times j (i ∷ is) ≡ 0 → (j ≢ i) × (times j is ≡ 0)
outside j i is h = ((λ e. absurd (let q : times j (i ∷ is) ≡ times i (i ∷ is) = ap (λ (k : ℕ). times k (i ∷ is)) e in omega (arith, q, h, times_here i is))), omega arith)

module _ {T : Type 0} where
  pub home_here : (home : ℕ → Option (Slot T)) (i : ℕ) (x : Option (Slot T)) → with_home home i x i ≡ x
  home_here home i x = rw (eq-eqb i i refl) refl

  pub home_else : (home : ℕ → Option (Slot T)) (i : ℕ) (x : Option (Slot T)) (j : ℕ) → j ≢ i → with_home home i x j ≡ home j
  home_else home i x j ne = rw (ne_eqb j i ne) refl

  pub away_else : (home : ℕ → Option (Slot T)) (chain : List ℕ) (j : ℕ) → times j chain ≡ 0 → away home chain j ≡ home j
  away_else home [] j h = refl
  away_else home (i ∷ is) j h = let o = outside j i is h in home_else (away home is) i none j o.0 ∙ away_else home is j o.1

  pub emptied_else : (home : ℕ → Option (Slot T)) (chain : List ℕ) (j : ℕ) → times j chain ≡ 0 → emptied home chain j ≡ home j
  emptied_else home [] j h = refl
  emptied_else home (i ∷ is) j h = let o = outside j i is h in home_else (emptied home is) i (some None) j o.0 ∙ emptied_else home is j o.1

  pub emptied_here : (home : ℕ → Option (Slot T)) (chain : List ℕ) (j : ℕ) → 0 < times j chain → emptied home chain j ≡ some None
  emptied_here home [] j h = absurd (omega arith)
  emptied_here home (i ∷ is) j h = ⊎_elim
      (λ e. subst (λ (x : ℕ). with_home (emptied home is) i (some None) x ≡ some None) (sym e.1) (home_here (emptied home is) i (some None)))
      (λ e. home_else (emptied home is) i (some None) j e.1 ∙ emptied_here home is j (omega (arith, times_else j i is e.1)))
      (eqb_tells j i)

  pub filled_else : (home : ℕ → Option (Slot T)) (chain : List ℕ) (vs : List T) (j : ℕ) → times j chain ≡ 0 → filled home chain vs j ≡ home j
  filled_else home [] vs j h = refl
  filled_else home (i ∷ is) [] j h = refl
  filled_else home (i ∷ is) (v ∷ vs) j h = let o = outside j i is h in home_else (filled home is vs) i (some (Some v)) j o.0 ∙ filled_else home is vs j o.1

  pub values_frame : (home home' : ℕ → Option (Slot T)) (is : List ℕ) (vs : List T) → ((j : ℕ) → 0 < times j is → home' j ≡ home j) → HasValues home is vs → HasValues home' is vs
  values_frame home home' [] [] h x = tt
  values_frame home home' (i ∷ is) (v ∷ vs) h x = (h i (omega (arith, times_here i is)) ∙ x.0, values_frame home home' is vs (λ j there. h j (omega arith)) x.1)
  values_frame home home' [] (v ∷ vs) h x = absurd x
  values_frame home home' (i ∷ is) [] h x = absurd x

  -- a chain of distinct nodes has the values that it was filled with, and stands above the others
  pub filled_values : (home : ℕ → Option (Slot T)) (chain : List ℕ) (vs : List T) (is : List ℕ) (us : List T) → length chain ≡ length vs → ((j : ℕ) → times j chain + times j is ≤ 1)
      → HasValues home is us → HasValues (filled home chain vs) (chain ++ is) (vs ++ us)
  filled_values home [] [] is us e once x = x
  filled_values home (i ∷ chain) (v ∷ vs) is us e once x =
      let rest = filled_values home chain vs is us (omega arith) (λ j. omega (arith, once j)) x in (
        home_here (filled home chain vs) i (some (Some v)),
        values_frame (filled home chain vs) (with_home (filled home chain vs) i (some (Some v))) (chain ++ is) (vs ++ us)
            (λ j there. home_else (filled home chain vs) i (some (Some v)) j (not_there i j (chain ++ is) (omega (arith, times_append i chain is, once i, times_here i chain)) there)) rest,
      )
  filled_values home [] (v ∷ vs) is us e once x = absurd (omega arith)
  filled_values home (i ∷ chain) [] is us e once x = absurd (omega arith)

  pub values_in-is : (home : ℕ → Option (Slot T)) (is : List ℕ) (vs : List T) → HasValues home is vs → values_in home is ≡ vs
  values_in-is home [] [] x = refl
  values_in-is home (i ∷ is) (v ∷ vs) x = let r = values_in-is home is vs x.1 in rw (x.0, r) refl
  values_in-is home [] (v ∷ vs) x = absurd x
  values_in-is home (i ∷ is) [] x = absurd x

  pub values_length : (home : ℕ → Option (Slot T)) (is : List ℕ) (vs : List T) → HasValues home is vs → length is ≡ length vs
  values_length home [] [] x = refl
  values_length home (i ∷ is) (v ∷ vs) x = ap suc (values_length home is vs x.1)
  values_length home [] (v ∷ vs) x = absurd x
  values_length home (i ∷ is) [] x = absurd x

-- the value of the first slot, and the others without it
pub record First {T : Type 0} (home : ℕ → Option (Slot T)) (i : ℕ) (rest : List ℕ) (values : List T) : Type 0 where
  pub value : T
  pub left : List T
  pub here : home i ≡ some (Some value)
  pub is : values ≡ value ∷ left
  pub stored : HasValues home rest left

pub first_value : {T : Type 0} (home : ℕ → Option (Slot T)) (i : ℕ) (rest : List ℕ) (values : List T) → HasValues home (i ∷ rest) values → First home i rest values
first_value home i rest [] h = absurd h
first_value home i rest (v ∷ vs) h = record { value = v; left = vs; here = h.0; is = refl; stored = h.1 }
