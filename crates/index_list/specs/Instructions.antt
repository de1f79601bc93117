-- The atomic instructions on the words of a table, and when a seat may make one.
use Rattle.std.specs.Prelude.{ℕ, ◌==◌}
use mathlib.Core.Option.{none}
use prog.Atomic.{either}
use Rattle.atomic_table.specs.Table.{State, Step, step, Me, Allows}
use Rattle.atomic_table.specs.declared.shared.Seat.{Seat}

-- An instruction: the step as the table names it, the word that it leaves by the word that it finds,
-- and the word that it tells of, which is the one found, or of a store the one stored
pub record Instruction (S : Type 0) : Type 0 where
  pub step : Step S
  pub leaves : ℕ → ℕ
  pub tells : ℕ → ℕ

module _ {S : Type 0} (slots : ℕ) where
  -- on a table of `slots` slots: a load of the word at, a store of new in it, and a
  -- compare-and-swap of it from seen to new
  abbrev pub load : ℕ → Instruction S
  load at = record { step = step slots at 0 0 none; leaves = λ n. n; tells = λ n. n }

  abbrev pub store : ℕ → ℕ → Instruction S
  store at new = record { step = step slots at new 0 none; leaves = λ _. new; tells = λ _. new }

  abbrev pub compare_and_swap : ℕ → ℕ → ℕ → Instruction S
  compare_and_swap at seen new = record { step = step slots at seen new none; leaves = λ n. either (n == seen) new n; tells = λ n. n }

-- A seat may make an instruction under a rule: whatever the table is that meets the rule, some view of
-- the seat after it keeps the rule, and then `told` holds of the step
abbrev pub MayMake : {S V : Type 0} → (State S V → Type 0) → Seat S V → Instruction S → (Step S → Me S V → ℕ → Me S V → Type 0) → Type 0
MayMake rule seat made told = Allows rule made.step.slots seat.id seat.me made.step.word made.leaves (λ n. told made.step seat.me (made.tells n))
