-- Chains of nodes in a pass's hands, with their slots.
use Rattle.std.specs.Prelude.{◌≡◌, ℕ, ◌<◌, ◌≤◌, List, ◌∷◌, ◌++◌, length, Option as Slot}
use Rattle.machine.specs.Words.{times}
use Rattle.machine.specs.Chains.{first}
pub use Rattle.machine.specs.Chains.{full, vacant}
use Rattle.stack_machine.specs.declared.lines.Direction.{Direction}
use Rattle.stack_machine.specs.Deeds.{in_order}

-- the link of a node names the next node of a chain, or is null
abbrev pub Links : List ℕ → ℕ → ℕ → Type 0
Links chain i next = (before after : List ℕ) → chain ≡ before ++ i ∷ after → next ≡ first after

module _ {T : Type 0} where
  -- a chain of nodes, each below n and on it once, with one value for each
  pub record IsHand (n : ℕ) (chain : List ℕ) (values : List T) : Type 0 where
    pub low : (i : ℕ) → 0 < times i chain → i < n
    pub once : (i : ℕ) → times i chain ≤ 1
    pub few : length chain ≤ n
    pub as_many : length chain ≡ length values

  -- all slots of the stack, in the order of a fold that goes in this direction. The node on top was i
  pub record IsWhole (n i : ℕ) (d : Direction) (zs : List (ℕ × Slot T)) : Type 0 where
    pub chain : List ℕ
    pub values : List T
    pub slots : zs ≡ full (in_order d chain) (in_order d values)
    pub hand : IsHand n chain values
    pub others : List ℕ
    pub begins : chain ≡ i ∷ others
