-- What is left in a stack at its end: the values along the links, from the top down.
use Rattle.std.specs.Prelude.{ℕ, suc, List, [], ◌∷◌, Option as Slot, Some, None, zero, slice_index, slice_set}
use mathlib.Core.Option.{Option, none, some}
use lib.ListN.{get_elem?}
use Rattle.std.specs.Mem.Slots.{slots_items}
use Rattle.treiber_stack.specs.Prelude.{index_of, link_at}
use Rattle.treiber_stack.specs.declared.life.rest.Rest.{Rest}

module _ {T : Type 0} where
  -- how many slots have a value
  abbrev pub count_full : List (Slot T) → ℕ
  count_full [] = 0
  count_full (None ∷ slots) = count_full slots
  count_full (Some v ∷ slots) = suc (count_full slots)

  -- the value in a slot above the other values. The values end if there is no such slot, as for
  -- null, or if it is empty
  abbrev pub on_top : Option (Slot T) → List T → List T
  on_top none others = []
  on_top (some None) others = []
  on_top (some (Some v)) others = v ∷ others

  -- the values from node i on, each moved out of its slot; the second argument bounds how many
  -- there are
  abbrev pub values_from : List ℕ → ℕ → List (Slot T) → ℕ → List T
  values_from words zero slots i = []
  values_from words (suc most) slots i = on_top (get_elem? slots i) (values_from words most (slice_set slots i None) (index_of (slice_index words (link_at i))))

  abbrev pub left_along : List ℕ → List (Slot T) → ℕ → List T
  left_along words slots i = values_from words (count_full slots) slots i

  abbrev pub left_in : Rest T → List T
  left_in r = left_along (slots_items r.closed.words) (slots_items r.closed.slots) r.index
