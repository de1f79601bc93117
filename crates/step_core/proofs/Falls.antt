-- What a step of a pass costs the others, and what it leaves to its own call, by the weights and harms of lines: of any
-- machine.
use Rattle.std.proofs.Common.{◌≡◌, ℕ, ◌+◌, ◌<◌, ◌≤◌, Bool, true, false, cond, [], refl, arith}
use Rattle.machine.specs.Schedule.{Outcome}
use Rattle.machine.proofs.Tests.{lost, lost_none, lost_all}

module _ {M L : Type 0} (weight : M → L → ℕ) where
  -- an exchange: it is won, or changes nothing
  pub raised_by : {E : Type 0} (m : M) (u l : L) (b : Bool) (o : Outcome M L E) (d : ℕ) → (b ≡ true → weight o.memory u ≤ weight m u + d) → weight (cond b o (record { memory = m; line = l; events = [] })).memory u ≤ weight m u + cond b d 0
  raised_by m u l true o d won = won refl
  raised_by m u l false o d won = omega arith

  module _ (harm : L → ℕ) where
    -- in this memory a line weighs less than r, and has paid d out of a harm of h
    abbrev pub Lower : M → ℕ → ℕ → ℕ → L → Type 0
    Lower m d r h l = (weight m l < r) × (harm l + d ≤ h)

    abbrev pub Low : {E : Type 0} → Outcome M L E → ℕ → ℕ → ℕ → Type 0
    Low o d r h = Lower o.memory d r h o.line

    -- a test of what was loaded
    pub either : (m : M) (r h : ℕ) (b : Bool) (l l' : L) → Lower m 0 r h l → Lower m 0 r h l' → Lower m 0 r h (cond b l l')
    either m r h true l l' f f' = f
    either m r h false l l' f f' = f'

    -- an exchange: it is won, or the pass begins again
    pub swaps : {E : Type 0} (m : M) (b : Bool) (o : Outcome M L E) (l : L) (d r more h : ℕ) → (b ≡ true → Low o d r h) → Lower m 0 (r + more) h l → Low (cond b o (record { memory = m; line = l; events = [] })) (cond b d 0) (r + lost b more) h
    swaps m true o l d r more h f f' = let t = f refl in (omega (arith, t, lost_none true more refl), omega (arith, t))
    swaps m false o l d r more h f f' = (omega (arith, f', lost_all false more refl), omega (arith, f'))
