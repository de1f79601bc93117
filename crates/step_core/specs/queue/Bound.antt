-- The states from which the number of steps of a queue's call is bounded.
use Rattle.std.specs.Prelude.{ℕ, map}
use mathlib.Core.Option.{some}
use Rattle.queue_machine.specs.Machine.{State}
use Rattle.queue_machine.specs.Rule.{Kept}

-- the rule holds of the words, of the lines of all passes, and of the history
abbrev pub MeetsRule : {T : Type 0} → ℕ → ℕ → State T → Type 0
MeetsRule {T} n limit s = Kept T n limit s.memory some (map (λ v. v.line) s.passes) s.history
