-- What is left in a ring at its end: the values in the cells of its slots, from the front on.
use Rattle.std.specs.Prelude.{ℕ, ◌+◌, ◌==◌, if◌then◌else◌, List, slice_index, ◌*◌, ◌<◌, ◌≤◌, ◌≡◌, [], ◌∷◌, Option as Slot, Some, None, zero, suc, slice_set}
use mathlib.Core.Option.{Option, none, some}
use lib.ListN.{get_elem?}
use Rattle.ring_machine.specs.Rule.{Hints}
use Rattle.ring_queue.specs.Prelude.{fields_of, full_at, head_at, index_of, slot_at, tag_of}

-- the slot after a slot, and a slot's cell
abbrev pub next_slot : ℕ → ℕ → ℕ
next_slot n i = if i + 1 == n then 0 else i + 1

abbrev pub cell_at : ℕ → List ℕ → ℕ → ℕ
cell_at n words i = index_of (slice_index words (slot_at n i))

-- the words of a ring from which this number of values was taken: its hint at the front, and the laps of its slots
pub record HasTaken (n takes : ℕ) (words : List ℕ) : Type 0 where
  pub hint : Hints n takes (fields_of (slice_index words head_at))
  pub taken : (i lap : ℕ) → i < n → lap * n + i < takes → full_at lap < tag_of (slice_index words (slot_at n i))
  pub untaken : (i lap : ℕ) → i < n → takes ≤ lap * n + i → tag_of (slice_index words (slot_at n i)) ≤ full_at lap

-- this slot is the front's: the front is at some lap of it
abbrev pub IsFront : ℕ → ℕ → ℕ → Type 0
IsFront n takes i = (lap : ℕ) × (lap * n + i ≡ takes)

module _ {T : Type 0} where
  -- the value in a cell, before the values after it; if there is no value, the values end
  abbrev pub in_front : Option (Slot T) → List T → List T
  in_front none others = []
  in_front (some None) others = []
  in_front (some (Some v)) others = v ∷ others

  -- the values of this number of slots, from slot i on, each moved out of its cell
  abbrev pub values_from : ℕ → List ℕ → ℕ → List (Slot T) → ℕ → List T
  values_from n words zero cells i = []
  values_from n words (suc most) cells i = let c = cell_at n words i in in_front (get_elem? cells c) (values_from n words most (slice_set cells c None) (next_slot n i))
