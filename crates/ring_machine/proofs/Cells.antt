-- The cells of the slots, when one of them is exchanged.
use Rattle.std.proofs.Common.{◌≡◌, ◌≢◌, ℕ, zero, suc, ◌+◌, ◌<◌, ◌≤◌, [], ◌∷◌, refl, sym, ap, ◌∙◌, subst, ⊎_elim, arith}
use Rattle.std.proofs.lemmas.Bool.Decides.{eqb_tells}
use Rattle.machine.specs.Words.{Tagged, times}
use Rattle.machine.proofs.Lists.{times_here}
use Rattle.ring_machine.specs.Machine.{store_word}
use Rattle.ring_machine.specs.Rule.{cells_in}
use Rattle.ring_machine.proofs.Positions.{word_here, word_else}

-- a word that is stored beyond these slots
cells_apart : (c n i : ℕ) (slot : ℕ → Tagged) (x : Tagged) → n ≤ i → times c (cells_in n (store_word slot i x)) ≡ times c (cells_in n slot)
cells_apart c zero i slot x h = refl
cells_apart c (suc n) i slot x h =
    let r = cells_apart c n i slot x (omega (arith, h)) in
    let e : store_word slot i x n ≡ slot n = word_else slot i x n (λ z. absurd (omega (arith, z, h))) in
    let e' : times c ((store_word slot i x n).index ∷ []) ≡ times c ((slot n).index ∷ []) = ap (λ (w : Tagged). times c (w.index ∷ [])) e in
    omega (arith, r, e')

-- one cell comes and one goes
pub cells_traded : (c n i : ℕ) (slot : ℕ → Tagged) (x : Tagged) → i < n → times c (cells_in n (store_word slot i x)) + times c ((slot i).index ∷ []) ≡ times c (cells_in n slot) + times c (x.index ∷ [])
cells_traded c zero i slot x h = absurd (omega (arith, h))
cells_traded c (suc n) i slot x h = ⊎_elim
    (λ t. let at = t.1 in let r = cells_apart c n i slot x (omega (arith, at)) in
    let e : times c ((store_word slot i x n).index ∷ []) ≡ times c (x.index ∷ []) = ap (λ (k : ℕ). times c ((store_word slot i x k).index ∷ [])) (sym at) ∙ ap (λ (w : Tagged). times c (w.index ∷ [])) (word_here slot i x) in
    let e' : times c ((slot i).index ∷ []) ≡ times c ((slot n).index ∷ []) = ap (λ (k : ℕ). times c ((slot k).index ∷ [])) at in
    omega (arith, r, e, e'))
    (λ t. let ne = t.1 in
    let r = cells_traded c n i slot x (let le : i ≤ n = omega (arith, h) in below i n le ne) in
    let e : times c ((store_word slot i x n).index ∷ []) ≡ times c ((slot n).index ∷ []) = ap (λ (w : Tagged). times c (w.index ∷ [])) (word_else slot i x n (λ z. ne (sym z))) in
    omega (arith, r, e))
    (eqb_tells i n)
  where
    below : (a b : ℕ) → a ≤ b → a ≢ b → a < b
    below a b le ne = grind (arith, ne)

-- the cell of each slot is there
pub cell_in : (n i : ℕ) (slot : ℕ → Tagged) → i < n → 0 < times (slot i).index (cells_in n slot)
cell_in n i slot h =
    let none_there : Tagged = record (slot i) { index = (slot i).index + 1 } in
    let r = cells_traded (slot i).index n i slot none_there h in
    let e = times_here (slot i).index [] in
    let g : times (slot i).index (((slot i).index + 1) ∷ []) ≡ 0 = other (slot i).index in
    omega (arith, r, e, g)
  where
    other : (a : ℕ) → times a ((a + 1) ∷ []) ≡ 0
    other a = grind arith

-- and the cells of two slots are two
pub cells_two : (n i j : ℕ) (slot : ℕ → Tagged) → i < n → j < n → j ≢ i → (slot j).index ≡ (slot i).index → 2 ≤ times (slot i).index (cells_in n slot)
cells_two n i j slot low low' ne e =
    let gone : Tagged = record (slot i) { index = (slot i).index + 1 } in
    let r = cells_traded (slot i).index n i slot gone low in
    let g = times_here (slot i).index [] in
    let there = cell_in n j (store_word slot i gone) low' in
    let same : (store_word slot i gone j).index ≡ (slot i).index = ap (λ (w : Tagged). w.index) (word_else slot i gone j ne) ∙ e in
    let there' : 0 < times (slot i).index (cells_in n (store_word slot i gone)) = subst (λ (c : ℕ). 0 < times c (cells_in n (store_word slot i gone))) same there in
    let none_new : times (slot i).index (((slot i).index + 1) ∷ []) ≡ 0 = other (slot i).index in
    omega (arith, r, g, there', none_new)
  where
    other : (a : ℕ) → times a ((a + 1) ∷ []) ≡ 0
    other a = grind arith
