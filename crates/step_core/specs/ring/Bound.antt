-- The states in which the rule of a ring holds. Its passes, each with a spare cell, and its slots share `cells` cells.
use Rattle.std.specs.Prelude.{ℕ, map}
use Rattle.ring_machine.specs.Machine.{State}
use Rattle.ring_machine.specs.Rule.{Good}

-- the rule holds of the words, of the lines of all passes, and of the history
abbrev pub MeetsRule : {T : Type 0} → ℕ → ℕ → ℕ → State T → Type 0
MeetsRule {T} n laps cells s = Good T n laps cells s.memory (map (λ v. v.line) s.passes) s.history
