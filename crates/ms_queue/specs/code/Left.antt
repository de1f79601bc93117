-- What is left in a queue at its end: the values in the cells of the chain's nodes, from the front.
use Rattle.std.specs.Prelude.{ℕ, List, slice_index, suc, [], ◌∷◌, Option as Slot, Some, None, ltb, if◌then◌else◌, length, zero, slice_set}
use mathlib.Core.Option.{Option, none, some}
use lib.ListN.{get_elem?}
use Rattle.std.specs.Mem.Slots.{slots_items}
use Rattle.queue_table.specs.Layout.{cell_at}
use Rattle.ms_queue.specs.Prelude.{index_of, next_at}
use Rattle.ms_queue.specs.declared.life.rest.Rest.{Rest}

-- the node after a node, and a node's cell
abbrev pub node_behind : List ℕ → ℕ → ℕ
node_behind words j = index_of (slice_index words (next_at j))

abbrev pub cell_of : List ℕ → ℕ → ℕ
cell_of words j = slice_index words (cell_at j)

module _ {T : Type 0} where
  -- how many slots have a value
  abbrev pub count_full : List (Slot T) → ℕ
  count_full [] = 0
  count_full (None ∷ slots) = count_full slots
  count_full (Some v ∷ slots) = suc (count_full slots)

  -- the slot of a node's cell; there are as many nodes as cells and one more, and null is none
  abbrev pub slot_of : List ℕ → List (Slot T) → ℕ → Option (Slot T)
  slot_of words slots j = if ltb (length slots) j then none else get_elem? slots (cell_of words j)

  -- the value in a slot in front of the other values; the values end if there is no such slot, or
  -- if it is empty
  abbrev pub in_front : Option (Slot T) → List T → List T
  in_front none others = []
  in_front (some None) others = []
  in_front (some (Some v)) others = v ∷ others

  -- the values from node j on, each moved out of its slot; the second argument bounds how many
  -- there are
  abbrev pub values_from : List ℕ → ℕ → List (Slot T) → ℕ → List T
  values_from words zero slots j = []
  values_from words (suc most) slots j = in_front (slot_of words slots j) (values_from words most (slice_set slots (cell_of words j) None) (node_behind words j))

  abbrev pub left_along : List ℕ → List (Slot T) → ℕ → List T
  left_along words slots j = values_from words (count_full slots) slots j

  abbrev pub left_in : Rest T → List T
  left_in r = left_along (slots_items r.closed.words) (slots_items r.closed.slots) r.node
