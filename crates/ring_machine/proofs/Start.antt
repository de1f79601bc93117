-- A new ring meets the rule.
use Rattle.std.proofs.Common.{◌≡◌, ℕ, zero, suc, ◌+◌, ◌<◌, cond, ltb, List, [], ◌∷◌, refl, sym, ap, ◌∙◌, subst, arith}
use Rattle.std.specs.Prelude.{None}
use Rattle.std.proofs.lemmas.Bool.{false≢true}
use Rattle.std.proofs.lemmas.Bool.Decides.{nat_tests}
use mathlib.Core.Option.{some, some-injective, some-ne-none}
use lib.ListN.{get_elem?}
use Rattle.machine.specs.Words.{Tagged, start_word, times, total}
use Rattle.machine.proofs.Scheduled.{first_lines}
use Rattle.ring_machine.specs.declared.lines.Line.{Line}
use Rattle.ring_machine.specs.Machine.{Memory, cell_of, held_cells, resting, start, ring}
use Rattle.ring_machine.specs.Answers.{shape}
use Rattle.ring_machine.specs.Rule.{IsFine, Hints, cells_in, progress, Good}

-- whether an index is one of the first n
abbrev one_if : ℕ → ℕ → ℕ
one_if c n = cond (ltb c n) 1 0

-- one index more
one_more : (c n : ℕ) → one_if c n + times c (n ∷ []) ≡ one_if c (n + 1)
one_more c n = grind (arith, nat_tests)

none_below : (c : ℕ) → one_if c 0 ≡ 0
none_below c = grind (arith, nat_tests)

-- slot i has cell i
cells_start : (c n : ℕ) → times c (cells_in n start_word) ≡ one_if c n
cells_start c zero = sym (none_below c)
cells_start c (suc n) = let e : n + 1 ≡ suc n = omega arith in omega (arith, cells_start c n, one_more c n, ap (one_if c) e)

module _ (T : Type 0) (n laps : ℕ) where
  abbrev new : ℕ → ℕ → List (Line T)
  new p k = first_lines (ring (shape n laps)) p k

  -- and pass p cell n + p
  spares_start : (c p k first next : ℕ) → first ≡ n + p → next ≡ first + k → one_if c first + total (λ (l : Line T). times c (held_cells l)) (new p k) ≡ one_if c next
  spares_start c p zero first next is is' = let e : first ≡ next = omega (arith, is') in omega (arith, ap (one_if c) e)
  spares_start c p (suc k) first next is is' =
      let r = spares_start c (p + 1) k (first + 1) next (omega (arith, is)) (omega (arith, is')) in
      omega (arith, r, one_more c first, ap (λ (y : ℕ). times c (y ∷ [])) is)

  rest_fine : (p k q : ℕ) (l : Line T) → get_elem? (new p k) q ≡ some l → (m : Memory T) → IsFine n laps (progress T n laps m []) l
  rest_fine p zero q l e m = absurd (some-ne-none l (sym e))
  rest_fine p (suc k) zero l e m = subst (IsFine n laps (progress T n laps m [])) (some-injective (resting (n + p)) l e) tt
  rest_fine p (suc k) (suc q) l e m = rest_fine (p + 1) k q l e m

  rest_low : (p k q : ℕ) (l : Line T) → get_elem? (new p k) q ≡ some l → cell_of l < n + p + k
  rest_low p zero q l e = absurd (some-ne-none l (sym e))
  rest_low p (suc k) zero l e = let same : n + p ≡ cell_of l = ap cell_of (some-injective (resting (n + p)) l e) in omega arith
  rest_low p (suc k) (suc q) l e = let r = rest_low (p + 1) k q l e in omega arith

  cells_same : (c k : ℕ) (slot slot' : ℕ → Tagged) → ((i : ℕ) → i < k → slot i ≡ slot' i) → times c (cells_in k slot) ≡ times c (cells_in k slot')
  cells_same c zero slot slot' same = refl
  cells_same c (suc k) slot slot' same =
      let r = cells_same c k slot slot' (λ i low. same i (omega arith)) in
      let h : times c ((slot k).index ∷ []) ≡ times c ((slot' k).index ∷ []) = ap (λ (w : Tagged). times c (w.index ∷ [])) (same k (omega arith)) in
      omega arith

  -- The words and cells of a new ring: slot i has cell i, and so many cells are at home, empty. Of other words and cells it asks nothing
  pub record IsNew (cells : ℕ) (m : Memory T) : Type 0 where
    pub head : m.head ≡ start_word 0
    pub tail : m.tail ≡ start_word 0
    pub slots : (i : ℕ) → i < n → m.slot i ≡ start_word i
    pub home : (c : ℕ) → c < cells → m.home c ≡ some None

  pub shown_good : (passes : ℕ) (m : Memory T) → 0 < n → IsNew (n + passes) m → Good T n laps (n + passes) m (new 0 passes) []
  shown_good passes m h is =
      let tag : (i : ℕ) → i < n → (m.slot i).tag ≡ 0 = λ i low. ap (λ (w : Tagged). w.tag) (is.slots i low) in
      record {
        tail = subst (Hints n 0) (sym is.tail) (record { at = record { slot = h; before = omega arith }; near = omega arith });
        head = subst (Hints n 0) (sym is.head) (record { at = record { slot = h; before = omega arith }; near = omega arith });
        turned = record {
          put = λ i lap low less. absurd (omega (arith, less));
          unput = λ i lap low le. let t = tag i low in omega arith;
          taken = λ i lap low less. absurd (omega (arith, less));
          untaken = λ i lap low le. let t = tag i low in omega arith;
          within = λ i low. let t = tag i low in omega arith;
        };
        marked = record {
          closed_marked = λ c. absurd (false≢true c);
          marked_closed = λ i low c. sym (ap (λ (w : Tagged). w.mark) (is.slots i low)) ∙ c;
          shut_marked = λ c. absurd (false≢true c);
          marked_shut = λ i low c. sym (ap (λ (w : Tagged). w.second) (is.slots i low)) ∙ c;
        };
        filled = record {
          empty = λ i lap low e. ap (λ (w : Tagged). m.home w.index) (is.slots i low) ∙ is.home i (omega arith);
          stored = λ i lap v low e at. let t = tag i low in absurd (omega (arith, e, t));
        };
        spares = λ q l e rests. is.home (cell_of l) (let r = rest_low 0 passes q l e in omega arith);
        once = λ c. omega (arith, cells_same c n m.slot start_word is.slots, cells_start c n, spares_start c 0 passes n (n + passes) (omega arith) refl);
        told = record { legal = tt; hands = λ p. refl; held = refl; holds = refl; balance = omega arith };
        fine = λ q l e. rest_fine 0 passes q l e m;
      }

  pub new_good : (passes : ℕ) → 0 < n → Good T n laps (n + passes) (start (shape n laps)) (new 0 passes) []
  new_good passes h = shown_good passes (start (shape n laps)) h (record { head = refl; tail = refl; slots = λ i low. refl; home = λ c low. refl })
