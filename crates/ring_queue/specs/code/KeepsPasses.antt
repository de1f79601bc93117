-- How many passes may be out, as its limits say.
use Rattle.std.proofs.Common.{◌≡◌, ℕ, ◌≤◌, sym, subst}
use Rattle.bounded_model.specs.declared.container.TheConstants.{MIN_PASSES, MAX_PASSES}
use Rattle.bounded_model.specs.Laws.{PassesInRange}
use Rattle.ring_queue.specs.Prelude.{Shape}

pub passes_in_range : (c : Shape) (n : ℕ) → c.passes ≡ n → MIN_PASSES ≤ n → n ≤ MAX_PASSES → PassesInRange c
passes_in_range c n are some few = record { some = subst (λ (k : ℕ). MIN_PASSES ≤ k) (sym are) some; few = subst (λ (k : ℕ). k ≤ MAX_PASSES) (sym are) few }
