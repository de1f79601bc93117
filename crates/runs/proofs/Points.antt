-- What a pass's own steps keep of its line, while it begins nothing.
use Rattle.std.proofs.Common.{◌≡◌, ◌≢◌, ℕ, ⊎_elim, Bool, cond, [], ◌∷◌, ◌++◌, refl, sym, ap, ◌∙◌, subst, ne_eqb, eq-eqb, arith}
use Rattle.std.specs.Prelude.{◌==◌}
use Rattle.machine.specs.Seats.{Acts}
use Rattle.machine.proofs.Tests.{cases, same_or_not}
use Rattle.running.specs.Machine.{Names, Machine}
use Rattle.running.specs.Acts.{Doing, Begins, Steps, Looks, Hears, is_begin, begins_in, Now, placed, having_stepped, after_act, played}

module _ {T L O : Type 0} {names : Names L O} (m : Machine T L O names) where
  abbrev now_begun : Now names m.core → ℕ → L → Now names m.core
  now_begun y p first = record { memory = y.memory; line = placed y.line p first; history = y.history }

  -- an act of another pass leaves its line
  pub line_other : (y : Now names m.core) (p q : ℕ) (d : Doing L) → p ≢ q → (after_act names m.core y q d).line p ≡ y.line p
  line_other y p q (Begins first) ne = cases (λ (z : Now names m.core). z.line p ≡ y.line p) (names.is_idle (y.line q)) (now_begun y q first) y (λ b. ap (λ (b : Bool). cond b first (y.line p)) (ne_eqb p q ne)) (λ b. refl)
  line_other y p q Steps ne = cases (λ (z : Now names m.core). z.line p ≡ y.line p) (names.is_idle (y.line q)) y (having_stepped names m.core y q (y.line q)) (λ b. refl) (λ b. ap (λ (b : Bool). cond b (m.core.lands y.memory q (y.line q)) (y.line p)) (ne_eqb p q ne))
  line_other y p q Looks ne = refl
  line_other y p q Hears ne = refl

module _ {T L O : Type 0} {names : Names L O} (m : Machine T L O names) (p : ℕ) (P : L → Type 0) (keeps : (memory : m.core.Memory) (l : L) → P l → P (m.core.lands memory p l)) where
  mine : (y : Now names m.core) (d : Doing L) → is_begin d ≡ 0 → P (y.line p) → P ((after_act names m.core y p d).line p)
  mine y (Begins first) none holds = absurd (omega (arith, none))
  mine y Steps none holds =
      let to : L = m.core.lands y.memory p (y.line p) in
      cases (λ (z : Now names m.core). P (z.line p)) (names.is_idle (y.line p)) y (having_stepped names m.core y p (y.line p))
      (λ idle. holds)
      (λ busy. subst P (sym (ap (λ (b : Bool). cond b to (y.line p)) (eq-eqb p p refl))) (keeps y.memory (y.line p) holds))
  mine y Looks none holds = holds
  mine y Hears none holds = holds

  one_kept : (y : Now names m.core) (q : ℕ) (d : Doing L) → cond (p == q) (is_begin d) 0 ≡ 0 → P (y.line p) → P ((after_act names m.core y q d).line p)
  one_kept y q d none holds = ⊎_elim
      (λ same. subst (λ (r : ℕ). cond (p == r) (is_begin d) 0 ≡ 0 → P ((after_act names m.core y r d).line p)) same
      (λ (none : cond (p == p) (is_begin d) 0 ≡ 0). mine y d (sym (ap (λ (b : Bool). cond b (is_begin d) 0) (eq-eqb p p refl)) ∙ none) holds) none)
      (λ ne. subst P (sym (line_other m y p q d ne)) holds)
      (same_or_not p q)

  pub stays : (more older : Acts L) → begins_in p more ≡ 0 → P ((played names m.core older).line p) → P ((played names m.core (more ++ older)).line p)
  stays [] older none holds = holds
  stays (a ∷ more) older none holds = one_kept (played names m.core (more ++ older)) a.0 a.1 (omega (arith, none)) (stays more older (omega (arith, none)) holds)
