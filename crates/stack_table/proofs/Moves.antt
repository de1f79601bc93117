-- The values of a chain are at home.
use Rattle.std.proofs.Common.{List, [], ◌∷◌, ℕ}
use Rattle.std.specs.Prelude.{Option as Slot, Some}
use mathlib.Core.Option.{Option}
use lib.ListN.{get_elem?}
use Rattle.index_list.specs.Steps.{Each, IsHome}
use Rattle.machine.specs.Chains.{HasValues}
use Rattle.stack_table.specs.Memories.{at_home}
use Rattle.stack_table.specs.Slots.{full}
use Rattle.stack_table.proofs.Memories.{at_home_is}

module _ {T : Type 0} where
  pub each_home : (homes : List (Option (Slot T))) (is : List ℕ) (vs : List T) → HasValues (λ i. at_home (get_elem? homes i)) is vs → Each (IsHome homes) (full is vs)
  each_home homes [] [] a = tt
  each_home homes (i ∷ is) (v ∷ vs) a = (at_home_is homes i (Some v) a.0, each_home homes is vs a.1)
  each_home homes [] (v ∷ vs) a = absurd a
  each_home homes (i ∷ is) [] a = absurd a
