-- Why the wrong machine of specs/list/Samples is refused.
use Rattle.std.proofs.Common.{◌≡◌, ℕ, ◌+◌, List, [], ◌∷◌, sym, ap, arith}
use Rattle.machine.specs.Words.{times, total, Stands}
use Rattle.step_core.specs.list.Law.{holds}
use Rattle.step_core.specs.list.Samples.{last, UntaggedUnlawful}

pub untagged-unlawful : UntaggedUnlawful
untagged-unlawful l = twice l.list l.stands (l.once 1)
  where
    twice : (list : List ℕ) → Stands last.memory.link last.memory.top.index list → times 1 list + total (λ v. holds 1 v.line) last.passes ≡ 1 → ⊥
    twice [] s o = absurd (omega (arith, s))
    twice (i ∷ is) s o = let e : times 1 (i ∷ is) ≡ times 1 (1 ∷ is) = ap (λ (j : ℕ). times 1 (j ∷ is)) (sym s.0) in omega (arith, e, o)
